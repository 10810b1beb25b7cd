use Rattle.std.proofs.Common.{◌≤◌, length, Some, sym, ap, ◌∙◌, arith}
use Rattle.std.proofs.lemmas.Result.{err_from_is_err_and}
use Rattle.checkrows.proofs.Onward.{going_none, going_ends, going_stops, going_met, going_collides, going_on}
use Rattle.checkrows.proofs.rows.check_rows.Goals as goal

pub loop-i-init : goal.loop-i-init
loop-i-init c = going_none c.args.n c.args.lines.now c.args.rows.now c.args.marks.now c.requires.blank

pub collision-requires : goal.collision-requires
collision-requires c =
    record {
      given = c.loop-i-test.true;
      clear = c.loop-i.invariant.clear;
      met = going_met c.loop-i.invariant c.loop-i-test.true c.in_ok-k.ensures.0 _ c.row_mask-mask.ensures _ (sym c.if-is_taken.true ∙ c.is_taken.ensures);
    }

pub returns-then-is_taken : goal.returns-then-is_taken
returns-then-is_taken c =
    let h = c.in_ok-k.ensures.0 in
    going_collides c.loop-i.invariant c.loop-i-test.true h
    (going_met c.loop-i.invariant c.loop-i-test.true h _ c.row_mask-mask.ensures _ (sym c.if-is_taken.true ∙ c.is_taken.ensures))
    ∙ ap (λ f. Some f) (sym c.collision.ensures)

pub loop-i-preserved : goal.loop-i-preserved
loop-i-preserved c =
    let h = c.in_ok-k.ensures in
    let room : 1024 ≤ length c.loop-i.marks = omega (arith, c.requires.room, c.loop-i.auto.marks) in
    going_on c.loop-i.invariant c.loop-i-test.true h.0
    c.requires.limits room c.in_ok-k.k h.1 c.row_mask-mask.result c.row_mask-mask.ensures c.is_taken.result c.is_taken.ensures c.if-is_taken.false c.mark.new.marks c.mark.ensures
