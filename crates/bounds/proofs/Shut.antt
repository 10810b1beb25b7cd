-- Routes that all avoid one link, and the heaviest cut against a plan.
use Rattle.std.proofs.Common.{◌≡◌, ℕ, ◌+◌, ◌≤◌, min, Bool, true, false, cond, not, eqb, List, [], ◌∷◌, refl, ap, ◌∙◌, arith}
use Rattle.ring.specs.Ring.{within, over, differ, cut, Ends, load, slot_count}
use Rattle.ring.specs.Sides.{code, chosen_load, route_load, shut}
use Rattle.bounds.specs.Claims.{ShutLoadsAreCuts, ShutLoadsFitRivals, PlansPayForTheHeaviest, ShutRoutesLoadCuts}
use Rattle.ring.specs.declared.Route.{Route}
use Rattle.ring.specs.declared.Side.{Side}
use Rattle.ring.specs.declared.Side.TheVariants.{Clockwise, CounterClockwise}
use Rattle.ring.proofs.Laws.{shut_is}
use Rattle.bounds.proofs.Rival.{cut_below_loads, load_below_slots}
use Rattle.bounds.proofs.Spread.{most_le, cut_same, heaviest_le}

shut_at : (s n i j : ℕ) → 3 ≤ n → n ≤ 16 → s ≤ n → Ends n i j → shut s n i j ≡ cond (within i j s) CounterClockwise Clockwise
shut_at s n i j a b h p =
    let m : min s n ≡ s = omega arith in
    shut_is s n i j a b p ∙ ap (λ (x : ℕ). cond (within i j x) CounterClockwise Clockwise) m

pub shut_loads : ShutLoadsAreCuts
shut_loads s n [] a b ls fits e = refl
shut_loads s n (d ∷ ds) a b ls fits e =
    omega (
      arith,
      ap (λ (t : Side). cond {A = ℕ} (over (code t) d.lower d.upper e) d.units 0) (shut_at s n d.lower d.upper a b ls.1 fits.0),
      go (within d.lower d.upper s) (within d.lower d.upper e) d.units,
      shut_loads s n ds a b ls fits.1 e,
    )
  where
    go : (a b : Bool) (u : ℕ) → cond (cond (eqb (code (cond a CounterClockwise Clockwise)) 0) b (not b)) u 0 ≡ cond (differ b a) u 0
    go true true u = refl
    go true false u = refl
    go false true u = refl
    go false false u = refl

pub shut_bound : ShutLoadsFitRivals
shut_bound s n ds rows a b ls fits apart plan = (
  shut_loads s n ds a b ls fits s ∙ cut_same ds s,
  most_le n (chosen_load (shut s) n ds) (slot_count rows + load ds rows s) (λ e le.
      omega (arith, shut_loads s n ds a b ls fits e, cut_below_loads n ds rows apart plan e s, load_below_slots n ds rows plan.clear e le)),
)

pub heaviest_bound : PlansPayForTheHeaviest
heaviest_bound n ds rows apart plan =
    heaviest_le n ds _ (λ e f le lf.
    omega (arith, cut_below_loads n ds rows apart plan e f, load_below_slots n ds rows plan.clear e le, load_below_slots n ds rows plan.clear f lf))

pub shut_routes_load_cuts : (n : ℕ) → 3 ≤ n → n ≤ 16 → (routes : List Route) → ShutRoutesLoadCuts n routes
shut_routes_load_cuts n a b routes s ls ds fits is =
    let loads : (e : ℕ) → route_load routes e ≡ cut ds e s = λ e. ap (λ rs. route_load rs e) is ∙ shut_loads s n ds a b ls fits e in
    (loads, λ apart rival plan e le. omega (arith, loads e, cut_below_loads n ds rival apart plan e s, load_below_slots n ds rival plan.clear e le))
