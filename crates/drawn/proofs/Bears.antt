-- What the rows that are drawn keep to: their slots, and their number against cuts and rivals.
use Rattle.std.proofs.Common.{◌≡◌, ℕ, zero, suc, ◌+◌, ◌≤◌, true, eqb, List, [], ◌∷◌, length, sym, refl, ap, ◌∙◌, subst, ⊎_elim, arith}
use Rattle.std.specs.List.{AllByRecursion as Each}
use Rattle.std.proofs.ByRecursion.{All-weaker}
use Rattle.std.proofs.lemmas.Bool.{eqb-true, eq-eqb, or_cases, or_left, or_right, false≢true}
use Rattle.ring.specs.Sums.{sum_of, some, most_of, least_of}
use Rattle.ring.specs.Ring.{Link, Fitting, WithinLimits, units, heaviest, load, slot_count, in_use, Plan}
use Rattle.ring.specs.Sides.{Choice, Parallel, chosen_load, shut, route_load, routes_by}
use Rattle.ring.specs.declared.Demand.{Demand}
use Rattle.ring.specs.declared.Row.{Row}
use Rattle.bounds.proofs.Spread.{le_most}
use Rattle.bounds.proofs.Bound.{lawful_loads_fit}
use Rattle.bounds.proofs.Shut.{heaviest_bound, shut_bound}
use Rattle.ring.proofs.Gaps.{gapless_slots_counted}
use Rattle.ring.proofs.Laws.{shut_parallel}
use Rattle.ring.specs.declared.Route.{Route}
use Rattle.drawn.specs.Slotting.{shares, cut_link, rows_in, drawn, slots_shut, best_link}
use Rattle.drawn.specs.Claims.{WellDrawn, DrawsWell, DrawsBest, RowsLoadLinks}
use Rattle.drawn.proofs.FirstFit.{length_fitted_le}
use Rattle.drawn.proofs.Counts.{turns, count_turns}
use Rattle.ring.proofs.FirstBest.{first_least_lem}
use Rattle.drawn.proofs.Bounds.{first_fit, slotted_fits, cut_link_lem, length_count, slots_bound}
use Rattle.drawn.proofs.Says.{no_gaps}
use Rattle.drawn.proofs.Plans.{valid_routes, drawn_plan, rows_load}

-- ---- slots
some_in_use : (k : ℕ) (rows : List Row) → some (λ (r : Row). eqb r.slot k) rows ≡ true → in_use k rows ≡ true
some_in_use k [] h = h
some_in_use k (r ∷ rs) h =
    ⊎_elim (λ e. or_left (eqb k r.slot) (in_use k rs) (eq-eqb k r.slot (sym (eqb-true r.slot k e))))
    (λ e. or_right (eqb k r.slot) (in_use k rs) (some_in_use k rs e)) (or_cases (eqb r.slot k) (some (λ (q : Row). eqb q.slot k) rs) h)

in_use_low : (m k : ℕ) (rows : List Row) → Each (λ (r : Row). Link m r.slot) rows → in_use k rows ≡ true → Link m k
in_use_low m k [] low h = absurd (false≢true h)
in_use_low m k (r ∷ rs) low h =
    ⊎_elim (λ e. subst (Link m) (sym (eqb-true k r.slot e)) low.0) (λ e. in_use_low m k rs low.1 e) (or_cases (eqb k r.slot) (in_use k rs) h)

-- no more slots than units
pub units_same : (σ : Choice) (n : ℕ) (ds : List Demand) → sum_of (λ (d : Route). d.demand.units) (routes_by σ n ds) ≡ units ds
units_same σ n [] = refl
units_same σ n (d ∷ ds) = ap (λ k. d.units + k) (units_same σ n ds)

slots_few : (n : ℕ) (σ : Choice) (ds : List Demand) → 1 ≤ n → Fitting n ds → length (first_fit n (routes_by σ n ds)) ≤ units ds
slots_few n σ ds h fits =
    let routes : List Route = routes_by σ n ds in
    let c : ℕ = cut_link n routes in
    omega (
      arith,
      length_fitted_le (shares n) (turns n routes c) [],
      length_count (turns n routes c),
      count_turns (λ _. true) n c routes (cut_link_lem n routes h).1 (valid_routes σ n ds fits),
      units_same σ n ds,
    )

abbrev Rows : ℕ → Choice → List Demand → List Row
Rows n σ ds = rows_in (first_fit n (routes_by σ n ds)) (routes_by σ n ds)

slots_low : (n : ℕ) (σ : Choice) (ds : List Demand) → Each (λ (r : Row). Link (length (first_fit n (routes_by σ n ds))) r.slot) (Rows n σ ds)
slots_low n σ ds = (no_gaps n (routes_by σ n ds)).0

slots_all : (n : ℕ) (σ : Choice) (ds : List Demand) → (k : ℕ) → Link (length (first_fit n (routes_by σ n ds))) k → in_use k (Rows n σ ds) ≡ true
slots_all n σ ds k l = some_in_use k (Rows n σ ds) ((no_gaps n (routes_by σ n ds)).1 k l.0 l.1)

pub slots_are : (n : ℕ) (σ : Choice) (ds : List Demand) → slot_count (Rows n σ ds) ≡ length (first_fit n (routes_by σ n ds))
slots_are n σ ds = gapless_slots_counted (Rows n σ ds) (length (first_fit n (routes_by σ n ds))) (slots_low n σ ds) (slots_all n σ ds)

-- ---- loads
le_least : (b top n : ℕ) (g : ℕ → ℕ) → b ≤ top → ((e : ℕ) → Link n e → b ≤ g e) → b ≤ least_of top n g
le_least b top zero g h f = h
le_least b top (suc n) g h f = omega (arith, f (suc n) (omega arith, omega arith), le_least b top n g h (λ e l. f e (l.0, omega arith)))

module _ (n : ℕ) (σ : Choice) (ds : List Demand) (n1 : 1 ≤ n) (fits : Fitting n ds) where
  cut_least : (e : ℕ) → Link n e → route_load (routes_by σ n ds) (cut_link n (routes_by σ n ds)) ≤ chosen_load σ n ds e
  cut_least e l = omega (arith, (first_least_lem n (route_load (routes_by σ n ds)) n1).1 e l.0 l.1)

  -- no more slots than the load of any one link and the largest load
  pub slots_by : (e : ℕ) → Link n e → length (first_fit n (routes_by σ n ds)) ≤ chosen_load σ n ds e + most_of n (chosen_load σ n ds)
  slots_by e l =
      omega (
        arith,
        cut_least e l,
        slots_bound n (most_of n (chosen_load σ n ds)) (routes_by σ n ds) n1 (valid_routes σ n ds fits)
            (λ f a b. omega (arith, le_most n (chosen_load σ n ds) f (a, b))),
      )

  pub slots_light : Parallel σ → 3 ≤ n → n ≤ 16 → length (first_fit n (routes_by σ n ds)) ≤ heaviest n ds
  slots_light par a b =
      let c : ℕ = route_load (routes_by σ n ds) (cut_link n (routes_by σ n ds)) in
      omega (
        arith,
        slots_bound n (most_of n (chosen_load σ n ds)) (routes_by σ n ds) n1 (valid_routes σ n ds fits)
            (λ f x y. omega (arith, le_most n (chosen_load σ n ds) f (x, y))),
        le_least c (chosen_load σ n ds 1) n (chosen_load σ n ds) (cut_least 1 (omega arith, n1)) cut_least,
        lawful_loads_fit σ par n a b ds fits,
      )

-- ---- the theorems
pub drawn_is : (n : ℕ) (σ : Choice) (ds : List Demand) → 1 ≤ n → drawn n σ ds ≡ Rows n σ ds
unfolding drawn
drawn_is n σ ds n1 = ap (λ ss. rows_in ss (routes_by σ n ds)) (slotted_fits n (routes_by σ n ds) n1)

rows_well : (n : ℕ) (σ : Choice) (ds : List Demand) → WithinLimits n ds → Parallel σ → WellDrawn n ds (Rows n σ ds)
rows_well n σ ds limits par =
    let n1 : 1 ≤ n = omega (arith, limits.least) in
    let rows : List Row = Rows n σ ds in
    let count : slot_count rows ≡ length (first_fit n (routes_by σ n ds)) = slots_are n σ ds in
    let light : slot_count rows ≤ heaviest n ds = omega (arith, count, slots_light n σ ds n1 limits.fitting par limits.least limits.most) in
    record {
      plan = drawn_plan n σ ds n1 limits.fitting limits.numbered;
      inside = All-weaker (λ (r : Row). Link (length (first_fit n (routes_by σ n ds))) r.slot) _
          (λ r l. (l.0, omega (arith, l.1, slots_few n σ ds n1 limits.fitting, limits.total))) rows (slots_low n σ ds);
      few = omega (arith, count, slots_few n σ ds n1 limits.fitting, limits.total);
      gapless = λ k. ((λ u. subst (λ m. Link m k) (sym count) (in_use_low _ k rows (slots_low n σ ds) u)), λ l. slots_all n σ ds k (subst (λ m. Link m k) count l));
      light = light;
      twice = λ rival plan. omega (arith, light, heaviest_bound n ds rival limits.numbered plan);
    }

pub draws_well : DrawsWell
draws_well n σ ds limits par = subst (WellDrawn n ds) (sym (drawn_is n σ ds (omega (arith, limits.least)))) (rows_well n σ ds limits par)

pub rows_load_links : RowsLoadLinks
rows_load_links n σ ds limits e =
    let n1 : 1 ≤ n = omega (arith, limits.least) in
    ap (λ rows. load ds rows e) (drawn_is n σ ds n1) ∙ rows_load n σ ds n1 limits.fitting limits.numbered e

pub shut_near : (n : ℕ) (ds : List Demand) → WithinLimits n ds → (rival : List Row) → Plan n ds rival → (e : ℕ) → Link n e → slots_shut n ds e ≤ slot_count rival + load ds rival e
shut_near n ds limits rival plan e le =
    let n1 : 1 ≤ n = omega (arith, limits.least) in
    let b = shut_bound e n ds rival limits.least limits.most le limits.fitting limits.numbered plan in
    omega (arith, ap slot_count (drawn_is n (shut e) ds n1), slots_are n (shut e) ds, slots_by n (shut e) ds n1 limits.fitting e le, b.0, b.1)

pub draws_best : DrawsBest
draws_best n ds limits =
    let n1 : 1 ≤ n = omega (arith, limits.least) in
    let first = first_least_lem n (slots_shut n ds) n1 in
    record {
      link_there = first.0;
      well = draws_well n (shut (best_link n ds)) ds limits (shut_parallel (best_link n ds) first.0.0);
      best = λ e l. first.1 e l.0 l.1;
      near = λ rival plan e le. omega (arith, first.1 e le.0 le.1, shut_near n ds limits rival plan e le);
    }
