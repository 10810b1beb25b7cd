use Rattle.std.proofs.Common.{length, ap, ◌∙◌, subst, arith}
use Rattle.booklaw.specs.declared.Drawing.TheVariants.{ByRule}
use Rattle.booklaw.specs.Calls.{Plan, with_plan}
use Rattle.booklaw.proofs.Passing.{drawn_few}
use Rattle.drawn.specs.Claims.{WellDrawn}
use Rattle.drawn.specs.Slotting.{drawn}
use Rattle.book.specs.Does.{demands_in, state}
use Rattle.book.proofs.Doing.{does, may_draw, limits_of, card_is}
use Rattle.book.proofs.book.Book.plan_on.Goals as goal

-- the rows that were drawn are at most 1,024
pub invariant_of-self-2 : goal.invariant_of-self-2
invariant_of-self-2 g c =
    let b = c.args.self.now in
    let few = drawn_few b.size (g.R.Rule.side c.args.rule.now) _ (limits_of b _ c.as_slice.ensures.value) in
    record { room = b.room; limits = b.limits; held = omega (arith, few, ap length c.in_ok-figures.ensures.answer.rows_are); places = b.places; accounted = b.accounted }

pub returns : goal.returns
returns g c =
    let b = c.args.self.now in
    let σ = g.R.Rule.side c.args.rule.now in
    let law = g.R.Rule.parallel c.args.rule.now in
    let e = c.in_ok-figures.ensures in
    let there = c.as_slice.ensures.value in
    record {
      does = does b _ (Plan σ law (length c.args.marks.now)) (may_draw (state b) _ c.in_ok-must_be_open.ensures e.answer.long) (ap (with_plan (state b) ByRule) (e.answer.rows_are ∙ ap (drawn b.size σ) there));
      card = card_is b.size (demands_in b) _ _ _ _ there e.answer.slots_are e.answer.loads_are c.card_for-card.ensures;
      well = subst (λ ds. WellDrawn b.size ds c.draw.new.rows.items) there e.well;
    }
