use Rattle.std.proofs.Common.{◌+◌, [], ◌∷◌, ◌++◌, replicate, ap, ◌∙◌, arith}
use Rattle.std.proofs.lemmas.List.{take_more_set, length-replicate}
use Rattle.sheet.specs.Marks.{marked, in_turn, free_at, used}
use Rattle.sheet.proofs.Marks.{marked_more, in_turn_more, used_folded}
use Rattle.sheet.proofs.place_units.Goals as goal

pub place-requires : goal.place-requires
place-requires c =
    record {
      room = omega (arith, ap used c.loop-slot.invariant.0, used_folded (replicate c.loop-slot.slot-index c.args.mask) c.args.marks.now, length-replicate c.loop-slot.slot-index c.args.mask);
      long = omega arith;
    }

pub loop-slot-preserved : goal.loop-slot-preserved
loop-slot-preserved c =
    let marks = c.args.marks.now in
    let mask = c.args.mask in
    let i = c.loop-slot.slot-index in (
      c.place.ensures.marks ∙ ap (λ s. marked s mask) c.loop-slot.invariant.0 ∙ marked_more marks mask i,
      take_more_set c.loop-slot.slots i c.place.result (omega arith)
          ∙ ap (λ t. t ++ c.place.result ∷ []) c.loop-slot.invariant.1
          ∙ ap (λ k. in_turn marks (replicate i mask) ++ k ∷ []) (c.place.ensures.slot ∙ ap (λ s. 1 + free_at s mask) c.loop-slot.invariant.0)
          ∙ in_turn_more marks mask i,
    )
