use Rattle.std.proofs.Common.{◌≡◌, ℕ, ◌<◌, Bool, true, false, length, length-set, cond, get_or, replicate, take, refl, sym, ap, ◌∙◌, arith, take_all, rules}
use Rattle.std.proofs.lemmas.List.{get_or-replicate, length-replicate}
use Rattle.ring.specs.Ring.{slot_count, in_use}
use Rattle.ring.specs.declared.Row.{Row}
use Rattle.ring.proofs.Distinct.{count_more, seen_new, seen_old}
use Rattle.ring.proofs.Meanings.{slots_counted_once}
use Rattle.ring.proofs.Gaps.{gapless_slots_counted}
use Rattle.ring.proofs.slots.slot_count.Goals as goal
use Rattle.ring.proofs.slots.slot_count.Goals.{then-not-seen-slot, else-not-seen-slot}

abbrev none : Row
none = record { demand = 0; side = 0; slot = 0 }

pub loop-row-init : goal.loop-row-init
loop-row-init c = (length-replicate 65536 false, (λ k l. get_or-replicate 65536 k false false l), refl, omega arith)

pub loop-row-preserved : goal.loop-row-preserved
loop-row-preserved c =
    let rows = c.args.rows.now in
    let i = c.loop-row.row-index in
    let seen = c.loop-row.seen in
    let s = c.from-slot.result in
    let is : s ≡ (get_or rows i none).slot = c.from-slot.ensures in
    let low : s < 65536 = search rules in
    let long = c.loop-row.invariant.0 in
    let known = c.loop-row.invariant.1 s low in
    let more = count_more rows i none c.loop-row-test.true in
    elim c.if-not-seen-slot.branch [
      | then-not-seen-slot w ↦ (
        ap length w.seen-is ∙ length-set seen s true ∙ long,
        (λ k l. ap (λ xs. get_or xs k false) w.seen-is ∙ seen_new seen rows i s none (omega (arith, long)) c.loop-row-test.true is k (c.loop-row.invariant.1 k l)),
        omega (arith, w.count-is, more, c.loop-row.invariant.2, ap (λ t. cond {A = ℕ} t 0 1) (ap (λ k. in_use k (take i rows)) (sym is) ∙ sym known ∙ w.if-not-seen-slot.true)),
        omega (arith, w.count-is, c.loop-row.invariant.3),
      )
      | else-not-seen-slot w ↦ (
        ap length w.seen-is ∙ long,
        (λ k l. ap (λ xs. get_or xs k false) w.seen-is ∙ seen_old seen rows i s none c.loop-row-test.true is (sym known ∙ w.if-not-seen-slot.false) k (c.loop-row.invariant.1 k l)),
        omega (arith, w.count-is, more, c.loop-row.invariant.2, ap (λ t. cond {A = ℕ} t 0 1) (ap (λ k. in_use k (take i rows)) (sym is) ∙ sym known ∙ w.if-not-seen-slot.false)),
        omega (arith, w.count-is, c.loop-row.invariant.3),
      )
    ]

pub returns : goal.returns
returns c =
    let is = c.loop-row.invariant.2 ∙ ap slot_count (take_all _ _ c.loop-row-test.false) in
    record { value = is; once = slots_counted_once c.args.rows.now; gapless = gapless_slots_counted c.args.rows.now }
