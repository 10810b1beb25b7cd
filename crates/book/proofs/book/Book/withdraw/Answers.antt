use Rattle.std.proofs.Common.{◌≡◌, true, sym, refl, ap, ◌∙◌, subst, arith}
use Rattle.std.proofs.lemmas.Bool.{not_from_true}
use Rattle.refusals.specs.declared.Refusal.TheVariants.{Planned, NumberUnknown}
use Rattle.ring.specs.Ring.{within_limits}
use Rattle.checkrows.specs.Track.{LineOf}
use Rattle.booklaw.specs.Calls.{Withdraw, accepted, with_demands}
use Rattle.booklaw.proofs.Passing.{without_within}
use Rattle.book.specs.Does.{demands_in, state}
use Rattle.book.proofs.Doing.{passes, does, removed_line}
use Rattle.book.proofs.book.Book.withdraw.Goals as goal

-- the demands less one are within the limits
pub invariant_of-self : goal.invariant_of-self
invariant_of-self c =
    let b = c.args.self.now in
    let e = c.remove.ensures in
    let found = subst (λ ds. LineOf ds c.args.number c.in-Some.at) c.as_slice.ensures.value c.in-Some.ensures in
    let now-are = e.items ∙ removed_line b.size c.args.number c.in-Some.at (demands_in b) b.limits found in
    record {
      room = omega (arith, e.capacity, b.room);
      limits = subst (λ ds. within_limits b.size ds ≡ true) (sym now-are) (without_within b.size c.args.number (demands_in b) b.limits);
      held = b.held;
      places = b.places;
      accounted = b.accounted;
    }

pub returns : goal.returns
returns c =
    let b = c.args.self.now in
    let found = subst (λ ds. LineOf ds c.args.number c.in-Some.at) c.as_slice.ensures.value c.in-Some.ensures in
    let now-are = c.remove.ensures.items ∙ removed_line b.size c.args.number c.in-Some.at (demands_in b) b.limits found in
    let open_is = c.in_ok-must_be_open.ensures in
    does b _ (Withdraw c.args.number)
    (passes _ Planned _ (not_from_true _ open_is) (passes _ NumberUnknown accepted (not_from_true _ found.known) refl))
    (ap (with_demands (state b)) now-are)
