-- What the parts of a drawing ask for and give.
use Rattle.std.proofs.Common.{◌≡◌, ℕ, ◌≤◌, List, length, sym, ap, ◌∙◌, subst, arith}
use Rattle.std.specs.List.{AllByRecursion as Each}
use Rattle.ring.specs.Ring.{WithinLimits, units}
use Rattle.ring.specs.Sides.{Choice, route_units, routes_by}
use Rattle.ring.specs.declared.Demand.{Demand}
use Rattle.ring.specs.declared.Route.{Route}
use Rattle.ring.specs.declared.Row.{Row}
use Rattle.drawn.specs.Slotting.{slotted, slots_of, slots_in, drawn}
use Rattle.drawn.proofs.Bounds.{slotted_fits}
use Rattle.drawn.proofs.Says.{rows_count}
use Rattle.drawn.proofs.Plans.{valid_routes, distinct_routes}
use Rattle.drawn.proofs.Bears.{units_same}
use Rattle.placing.specs.Drawing.{rows_from, Ready}
use Rattle.placing.proofs.Writes.{rows_from_slots}

module _ (n : ℕ) (σ : Choice) (ds : List Demand) (limits : WithinLimits n ds) (routes : List Route) (is : routes ≡ routes_by σ n ds) where
  pub ready_by : (marks slots : List ℕ) → length marks ≡ 1024 → length slots ≡ units ds → Ready n routes marks slots
  ready_by marks slots m s =
      subst (λ rs. Ready n rs marks slots) (sym is)
      (record {
        least = limits.least;
        most = limits.most;
        valid = valid_routes σ n ds limits.fitting;
        distinct = distinct_routes σ n ds limits.numbered;
        long = omega arith;
        room = omega (arith, limits.total);
        places = units_same σ n ds ∙ sym s;
      })

  pub units_by_lem : route_units routes ≡ units ds
  units_by_lem = ap route_units is ∙ units_same σ n ds

  -- each route has as many slots as units
  counts : Each (λ (d : Route). length (slots_of 1 d (slotted n (routes_by σ n ds))) ≡ d.demand.units) (routes_by σ n ds)
  counts =
      let n1 : 1 ≤ n = omega (arith, limits.least) in
      subst (λ ss. Each (λ (d : Route). length (slots_of 1 d ss) ≡ d.demand.units) (routes_by σ n ds)) (sym (slotted_fits n (routes_by σ n ds) n1))
      (rows_count n (routes_by σ n ds) n1 (valid_routes σ n ds limits.fitting) (distinct_routes σ n ds limits.numbered))

  pub rows_drawn : (slots : List ℕ) (rows : List Row) → slots ≡ slots_in (slotted n routes) routes → rows ≡ rows_from routes slots → rows ≡ drawn n σ ds
  unfolding drawn
  rows_drawn slots rows s r =
      r ∙ ap (rows_from routes) s ∙ ap (λ rs. rows_from rs (slots_in (slotted n rs) rs)) is ∙ rows_from_slots (slotted n (routes_by σ n ds)) (routes_by σ n ds) counts
