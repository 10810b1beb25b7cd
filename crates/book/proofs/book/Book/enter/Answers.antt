use Rattle.std.proofs.Common.{◌≡◌, true, [], ◌∷◌, ◌++◌, sym, ap, ◌∙◌, subst, arith}
use Rattle.ring.specs.Ring.{within_limits}
use Rattle.booklaw.specs.Calls.{entering}
use Rattle.booklaw.proofs.Passing.{enter_within}
use Rattle.book.specs.Does.{demands_in}
use Rattle.book.proofs.book.Book.enter.Goals as goal

-- the demands stay within the limits, since the new one passed the checks
pub invariant_of-self : goal.invariant_of-self
invariant_of-self c =
    let b = c.args.self.now in
    let e = c.push_reserved.ensures in
    let d = c.in_ok-demand.ensures in
    let may = sym (d.answer ∙ ap (λ ds. entering b.size ds c.args.number c.args.a c.args.b c.args.units) c.as_slice.ensures.value) in
    let now-are = e.items ∙ ap (λ x. demands_in b ++ (x ∷ [])) d.demand in
    record {
      room = omega (arith, e.capacity, b.room);
      limits = subst (λ ds. within_limits b.size ds ≡ true) (sym now-are) (enter_within b.size (demands_in b) _ _ _ _ b.limits may);
      held = b.held;
      places = b.places;
      accounted = b.accounted;
    }
