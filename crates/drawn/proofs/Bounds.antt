-- How many slots there are: at most the load of the cut link and the largest load.
use Rattle.std.proofs.Common.{◌≡◌, ℕ, zero, suc, ◌+◌, ◌<◌, ◌≤◌, Bool, true, cond, not, ◌&&◌, eqb, List, [], ◌++◌, length, replicate, filter, sym, ap, ◌∙◌, ⊎_elim, arith}
use Rattle.std.specs.List.{range_with_len, AllByRecursion as Each}
use Rattle.ring.specs.Ring.{Link}
use Rattle.ring.specs.Sums.{count_of, some}
use Rattle.ring.proofs.Summing.{sum_append, sum_one, all_of}
use Rattle.std.proofs.ByRecursion.{All-weaker, all_kept_by, kept_by_passes}
use Rattle.std.proofs.lemmas.Bool.{or_left, or_right, cases_eq, and_from, and_parts, not-true, eqb-true}
use Rattle.ring.specs.Sides.{holds, route_load}
use Rattle.ring.specs.declared.Route.{Route}
use Rattle.drawn.specs.FirstFit.{put, fitted, fitted_after, one_each}
use Rattle.drawn.specs.Slotting.{cut_link, shares, start_node, round, units_over, units_from, units_beside, slotted, Valid}
use Rattle.drawn.proofs.FirstFit.{Led, Leads, Bounded, all_both, fitted_bound, one_to_a_slot}
use Rattle.drawn.proofs.Line.{AtNode, after, leads, holds_start, all_joined, all_replicate, led_joined, round_led}
use Rattle.std.proofs.lemmas.List.Sums.{fold-append}
use Rattle.drawn.specs.Claims.{OverFirst}
use Rattle.ring.proofs.FirstBest.{first_least_lem}
use Rattle.drawn.proofs.Counts.{turns, count_units, count_turns, start_in}

-- ---- the units beside the cut link stand in a line
pub at_node : (n c v : ℕ) (routes : List Route) → Each (Valid n) routes → Each (AtNode n c v) (units_from routes c v)
at_node n c v routes valid =
    let t : Route → Bool = λ d. not (holds d c) && eqb (start_node d) v in
    all_joined (AtNode n c v) (λ d. replicate d.demand.units d) (filter t routes)
    (all_both (Valid n) (λ d. t d ≡ true) (λ d. Each (AtNode n c v) (replicate d.demand.units d))
    (λ d h e. all_replicate (AtNode n c v) d.demand.units d
    (h, not-true (holds d c) (and_parts (not (holds d c)) (eqb (start_node d) v) e).0, eqb-true (start_node d) v (and_parts (not (holds d c)) (eqb (start_node d) v) e).1))
    (filter t routes) (all_kept_by t (Valid n) routes valid) (kept_by_passes t routes))

abbrev touching : Route → Route → Bool
touching u d = holds d (start_node u)

pub beside_led : (n c : ℕ) (routes : List Route) → 1 ≤ c → c ≤ n → Each (Valid n) routes → Led (Leads (shares n) touching (units_over routes c)) (units_beside n routes c)
beside_led n c routes c1 cn valid =
    led_joined (λ u v. after n c u ≤ after n c v) (Leads (shares n) touching (units_over routes c)) (AtNode n c) (units_from routes c)
    (λ v. omega arith)
    (λ u v a b s p q h. leads n c a b c1 cn p.0 q.0 p.1 q.1 (omega (arith, s, ap (after n c) p.2, ap (after n c) q.2)) h)
    (λ v. at_node n c v routes valid) (round n c) (round_led n c cn)

pub beside_valid : (n c : ℕ) (routes : List Route) → Each (Valid n) routes → Each (Valid n) (units_beside n routes c)
beside_valid n c routes valid =
    all_joined (Valid n) (units_from routes c) (round n c)
    (all_of (λ v. Each (Valid n) (units_from routes c v)) (λ v. All-weaker (AtNode n c v) (Valid n) (λ d h. h.0) (units_from routes c v) (at_node n c v routes valid)) (round n c))

-- ---- counts
pub length_count : {X : Type 0} (xs : List X) → length xs ≡ count_of (λ _. true) xs
length_count xs = sym (sum_one xs)

pub length_over : (routes : List Route) (c : ℕ) → length (units_over routes c) ≡ route_load routes c
length_over routes c = length_count (units_over routes c) ∙ count_units (λ _. true) (λ d. holds d c) routes

pub count_beside_le : (n c s : ℕ) (routes : List Route) → c ≤ n → Each (Valid n) routes → count_of (λ d. holds d s) (units_beside n routes c) ≤ route_load routes s
count_beside_le n c s routes h valid =
    omega (arith, count_turns (λ d. holds d s) n c routes h valid, sum_append (λ y. cond (holds y s) 1 0) (units_over routes c) (units_beside n routes c))

-- ---- the cut link
pub cut_link_lem : (n : ℕ) (routes : List Route) → 1 ≤ n → (1 ≤ cut_link n routes) × (cut_link n routes ≤ n)
cut_link_lem n routes h = (first_least_lem n (route_load routes) h).0

-- ---- the bound
-- the slots by first fit throughout, the units over the cut link first
abbrev pub first_fit : ℕ → List Route → List (List Route)
first_fit n routes = fitted (shares n) (turns n routes (cut_link n routes))

pub slots_bound : (n most : ℕ) (routes : List Route) → 1 ≤ n → Each (Valid n) routes → ((e : ℕ) → 1 ≤ e → e ≤ n → route_load routes e ≤ most) →
    length (first_fit n routes) ≤ route_load routes (cut_link n routes) + most
slots_bound n most routes h valid top =
    let c : ℕ = cut_link n routes in
    let inr' = cut_link_lem n routes h in
    let whole : List Route = units_beside n routes c in
    let v = beside_valid n c routes valid in
    let fit : length (fitted (shares n) (units_over routes c ++ whole)) ≤ route_load routes c + most =
    fitted_bound (shares n) touching (units_over routes c) whole (route_load routes c + most) (beside_led n c routes inr'.0 inr'.1 valid)
    (All-weaker (Valid n) (Bounded (shares n) touching (units_over routes c) whole (route_load routes c + most))
    (λ d k. (holds_start n d k, omega (arith, length_over routes c, count_beside_le n c (start_node d) routes inr'.1 valid, top (start_node d) (start_in n d k).0 (start_in n d k).1)))
    whole v)
    (omega (arith, length_over routes c)) in
    fit

-- ---- the units over the cut link
pub some_has : (p : ℕ → Bool) (e a m : ℕ) → a ≤ e → e < a + m → p e ≡ true → some p (range_with_len a m) ≡ true
some_has p e a zero l u h = absurd (omega arith)
some_has p e a (suc m) l u h =
    ⊎_elim (λ q. or_left (p a) (some p (range_with_len (a + 1) m)) (ap p q ∙ h))
    (λ q. or_right (p a) (some p (range_with_len (a + 1) m)) (some_has p e (a + 1) m (omega (arith, q)) (omega arith) h))
    (cases_eq a e)

pub over_holds : (c : ℕ) (routes : List Route) → Each (λ d. holds d c ≡ true) (units_over routes c)
over_holds c routes =
    all_joined (λ d. holds d c ≡ true) (λ d. replicate d.demand.units d) (filter (λ d. holds d c) routes)
    (All-weaker (λ d. holds d c ≡ true) (λ d. Each (λ u. holds u c ≡ true) (replicate d.demand.units d)) (λ d h. all_replicate (λ u. holds u c ≡ true) d.demand.units d h)
    (filter (λ d. holds d c) routes) (kept_by_passes (λ d. holds d c) routes))

pub over_one_each : (n c : ℕ) (routes : List Route) → Link n c → fitted (shares n) (units_over routes c) ≡ one_each (units_over routes c)
over_one_each n c routes lc =
    one_to_a_slot (shares n) (λ d. holds d c ≡ true)
    (λ a b p q. some_has (λ e. holds a e && holds b e) c 1 n lc.0 (omega (arith, lc.1)) (and_from (holds a c) (holds b c) p q))
    (units_over routes c) [] (over_holds c routes) tt

pub over_first : OverFirst
over_first n c routes lc = (
  length_over routes c,
  ap (λ ss. fitted_after (shares n) ss (units_beside n routes c)) (sym (over_one_each n c routes lc)) ∙ sym (fold-append (put (shares n)) [] (units_over routes c) (units_beside n routes c)),
)

pub slotted_fits : (n : ℕ) (routes : List Route) → 1 ≤ n → slotted n routes ≡ first_fit n routes
slotted_fits n routes h = (over_first n (cut_link n routes) routes (cut_link_lem n routes h)).1
