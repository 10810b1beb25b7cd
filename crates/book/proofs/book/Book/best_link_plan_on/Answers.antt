use Rattle.std.proofs.Common.{length, ap, ◌∙◌, subst, arith}
use Rattle.ring.specs.Sides.{shut}
use Rattle.booklaw.specs.declared.Drawing.TheVariants.{BestLink}
use Rattle.booklaw.specs.Calls.{BestLinkPlan, with_plan}
use Rattle.booklaw.proofs.Passing.{drawn_few}
use Rattle.drawn.specs.Claims.{BestDrawn}
use Rattle.drawn.specs.Slotting.{drawn, best_link}
use Rattle.book.specs.Does.{demands_in, state}
use Rattle.book.proofs.Doing.{does, may_draw, limits_of, card_is}
use Rattle.book.proofs.book.Book.best_link_plan_on.Goals as goal

-- the rows that were drawn are at most 1,024
pub invariant_of-self-2 : goal.invariant_of-self-2
invariant_of-self-2 c =
    let b = c.args.self.now in
    let few = drawn_few b.size (shut (best_link b.size c.as_slice.result.now)) _ (limits_of b _ c.as_slice.ensures.value) in
    record { room = b.room; limits = b.limits; held = omega (arith, few, ap length c.in_ok-best.ensures.answer.1.rows_are); places = b.places; accounted = b.accounted }

pub returns : goal.returns
returns c =
    let b = c.args.self.now in
    let e = c.in_ok-best.ensures in
    let drew = e.answer.1 in
    let there = c.as_slice.ensures.value in
    let rows = c.best_link.new.rows.items in
    let link-is = e.answer.0 ∙ ap (best_link b.size) there in
    let rows_are = drew.rows_are ∙ ap (λ ds. drawn b.size (shut (best_link b.size ds)) ds) there in
    record {
      does = does b _ (BestLinkPlan (length c.args.marks.now)) (may_draw (state b) _ c.in_ok-must_be_open.ensures drew.long) (λ i. with_plan (state b) (BestLink (link-is i)) (rows_are i));
      card = card_is b.size (demands_in b) _ _ _ _ there drew.slots_are drew.loads_are c.card_for-card.ensures;
      best = subst (λ k. BestDrawn b.size (demands_in b) k rows) link-is (subst (λ ds. BestDrawn b.size ds c.in_ok-best.best.link rows) there e.best);
    }
