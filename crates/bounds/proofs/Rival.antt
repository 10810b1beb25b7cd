-- Every plan pays for every cut.
use Rattle.std.proofs.Common.{◌≡◌, ℕ, ◌+◌, ◌≤◌, Bool, true, false, cond, not, ◌&&◌, ◌||◌, eqb, List, [], ◌∷◌, sym, refl, ap, ◌∙◌, arith}
use Rattle.std.specs.List.{AllByRecursion as Each}
use Rattle.std.proofs.ByRecursion.{All-weaker}
use Rattle.std.proofs.lemmas.Bool.{eqb-true, eq-eqb, ne_eqb, false≢true, or_left, or_right}
use Rattle.ring.specs.Sums.{sum_of, one, count_of}
use Rattle.ring.specs.Ring.{within, over, differ, crosses, cut, Link, Numbered, row_over, load, has, slots, slot_count, Apart, Clear, Plan}
use Rattle.bounds.specs.Claims.{LoadsFitSlots, PlansPayForCuts}
use Rattle.ring.specs.declared.Demand.{Demand}
use Rattle.ring.specs.declared.Row.{Row}
use Rattle.ring.proofs.Summing.{sum_one, sum_add, sum_swap, sum_le, sum_eq, all_of, count_if}

-- a route of a demand that crosses the cut holds one of its links, whichever its side
pub pays : (s : ℕ) (d : Demand) (e f : ℕ) → one (crosses d e f) ≤ one (over s d.lower d.upper e) + one (over s d.lower d.upper f)
pays s d e f = go (eqb s 0) (within d.lower d.upper e) (within d.lower d.upper f)
  where
    go : (c a b : Bool) → one (differ a b) ≤ one (cond c a (not a)) + one (cond c b (not b))
    go true true true = omega arith
    go true true false = omega arith
    go true false true = omega arith
    go true false false = omega arith
    go false true true = omega arith
    go false true false = omega arith
    go false false true = omega arith
    go false false false = omega arith

-- no demand of ds has the row's number
none : (e f : ℕ) (ds : List Demand) (k m : ℕ) → k ≡ m → Each (λ (c : Demand). c.number ≡ k → ⊥) ds →
    sum_of (λ d. one (crosses d e f && eqb d.number m)) ds ≡ 0
none e f [] k m same h = refl
none e f (c ∷ ds) k m same h =
    let ne : eqb c.number m ≡ false = ne_eqb c.number m (λ q. h.0 (q ∙ sym same)) in
    let zero' : one (crosses c e f && eqb c.number m) ≡ 0 = rw ne (off (crosses c e f)) in
    omega (arith, zero', none e f ds k m same h.1)
  where
    off : (b : Bool) → one (b && false) ≡ 0
    off true = refl
    off false = refl

-- a row pays for its own demand alone
row_pays : (e f : ℕ) (ds : List Demand) → Numbered ds → (r : Row) →
    sum_of (λ d. one (crosses d e f && eqb d.number r.demand)) ds ≤ one (row_over ds r e) + one (row_over ds r f)
row_pays e f [] apart r = omega arith
row_pays e f (d ∷ ds) apart r = go (eqb d.number r.demand) refl (row_pays e f ds apart.1 r)
  where
    rest : ℕ
    rest = sum_of (λ d. one (crosses d e f && eqb d.number r.demand)) ds

    on : (b : Bool) → one (b && true) ≡ one b
    on true = refl
    on false = refl

    off : (b : Bool) → one (b && false) ≡ 0
    off true = refl
    off false = refl

    go : (t : Bool) → eqb d.number r.demand ≡ t → rest ≤ one (row_over ds r e) + one (row_over ds r f) →
        one (crosses d e f && t) + rest ≤ one (cond t (over r.side d.lower d.upper e) (row_over ds r e)) + one (cond t (over r.side d.lower d.upper f) (row_over ds r f))
    go true q ih =
        omega (arith, on (crosses d e f), pays r.side d e f, none e f ds d.number r.demand (eqb-true d.number r.demand q) apart.0)
    go false q ih = omega (arith, off (crosses d e f))

-- the units of a demand, by its rows
units_by_rows : (e f : ℕ) (rows : List Row) (d : Demand) → count_of (λ (r : Row). eqb d.number r.demand) rows ≡ d.units →
    cond (crosses d e f) d.units 0 ≡ sum_of (λ (r : Row). one (crosses d e f && eqb d.number r.demand)) rows
units_by_rows e f rows d h = ap (λ n. cond (crosses d e f) n 0) (sym h) ∙ sym (count_if (λ (r : Row). eqb d.number r.demand) (crosses d e f) rows)

pub cut_below_loads : (n : ℕ) (ds : List Demand) (rows : List Row) → Numbered ds → Plan n ds rows →
    (e f : ℕ) → cut ds e f ≤ load ds rows e + load ds rows f
cut_below_loads n ds rows apart plan e f =
    let by_rows = sum_eq (λ (d : Demand). cond (crosses d e f) d.units 0) (λ (d : Demand). sum_of (λ (r : Row). one (crosses d e f && eqb d.number r.demand)) rows) ds
    (All-weaker _ _ (units_by_rows e f rows) ds plan.full) in
    let swapped = sum_swap (λ (d : Demand) (r : Row). one (crosses d e f && eqb d.number r.demand)) ds rows in
    let paid = sum_le (λ (r : Row). sum_of (λ (d : Demand). one (crosses d e f && eqb d.number r.demand)) ds) (λ (r : Row). one (row_over ds r e) + one (row_over ds r f)) rows
    (all_of _ (row_pays e f ds apart) rows) in
    let parts = sum_add (λ (r : Row). one (row_over ds r e)) (λ (r : Row). one (row_over ds r f)) rows in
    omega (arith, by_rows, swapped, paid, parts)

-- the rows of one slot over one link: one at most
no_other : (n : ℕ) (ds : List Demand) (e k : ℕ) → Link n e → (r : Row) → r.slot ≡ k → row_over ds r e ≡ true → (rs : List Row) → Each (λ (q : Row). Apart n ds r q) rs →
    count_of (λ (q : Row). eqb q.slot k && row_over ds q e) rs ≡ 0
no_other n ds e k l r here o [] h = refl
no_other n ds e k l r here o (q ∷ rs) h =
    omega (arith, go (eqb q.slot k) (row_over ds q e) refl refl, no_other n ds e k l r here o rs h.1)
  where
    go : (a b : Bool) → eqb q.slot k ≡ a → row_over ds q e ≡ b → one (a && b) ≡ 0
    go true true x y = absurd (h.0 (eqb-true q.slot k x ∙ sym here) e l o y)
    go true false x y = refl
    go false b x y = refl

one_each : (n : ℕ) (ds : List Demand) (e : ℕ) → Link n e → (rs : List Row) → Clear n ds rs → (k : ℕ) →
    count_of (λ (q : Row). eqb q.slot k && row_over ds q e) rs ≤ 1
one_each n ds e l [] h k = omega arith
one_each n ds e l (r ∷ rs) h k = go (eqb r.slot k) (row_over ds r e) refl refl (one_each n ds e l rs h.1 k)
  where
    rest : ℕ
    rest = count_of (λ (q : Row). eqb q.slot k && row_over ds q e) rs

    go : (a b : Bool) → eqb r.slot k ≡ a → row_over ds r e ≡ b → rest ≤ 1 → one (a && b) + rest ≤ 1
    go true true x y ih = omega (arith, no_other n ds e k l r (eqb-true r.slot k x) y rs h.0)
    go true false x y ih = omega arith
    go false b x y ih = omega arith

-- a member is counted
counted : (b : Bool) (k : ℕ) (ks : List ℕ) → has k ks ≡ true → one b ≤ sum_of (λ x. one (eqb k x && b)) ks
counted b k [] h = absurd (false≢true h)
counted b k (x ∷ ks) h = go (eqb k x) h (counted b k ks)
  where
    rest : ℕ
    rest = sum_of (λ x. one (eqb k x && b)) ks

    go : (t : Bool) → (t || has k ks) ≡ true → (has k ks ≡ true → one b ≤ rest) → one b ≤ one (t && b) + rest
    go true q ih = omega arith
    go false q ih = omega (arith, ih q)

-- each slot is listed
listed : (rows : List Row) → Each (λ (r : Row). has r.slot (slots rows) ≡ true) rows
listed [] = tt
listed (r ∷ rs) = (here (has r.slot (slots rs)) refl, All-weaker _ _ (λ (q : Row) (h : has q.slot (slots rs) ≡ true). there (has r.slot (slots rs)) q.slot h) rs (listed rs))
  where
    here : (t : Bool) → has r.slot (slots rs) ≡ t → has r.slot (cond t (slots rs) (r.slot ∷ slots rs)) ≡ true
    here true q = q
    here false q = or_left (eqb r.slot r.slot) (has r.slot (slots rs)) (eq-eqb r.slot r.slot refl)

    there : (t : Bool) (k : ℕ) → has k (slots rs) ≡ true → has k (cond t (slots rs) (r.slot ∷ slots rs)) ≡ true
    there true k q = q
    there false k q = or_right (eqb k r.slot) (has k (slots rs)) q

pub load_below_slots : (n : ℕ) (ds : List Demand) (rows : List Row) → Clear n ds rows →
    (e : ℕ) → Link n e → load ds rows e ≤ slot_count rows
load_below_slots n ds rows clear e l =
    let found = sum_le (λ (r : Row). one (row_over ds r e)) (λ (r : Row). sum_of (λ k. one (eqb r.slot k && row_over ds r e)) (slots rows)) rows
    (All-weaker _ _ (λ (r : Row) (h : has r.slot (slots rows) ≡ true). counted (row_over ds r e) r.slot (slots rows) h) rows (listed rows)) in
    let swapped = sum_swap (λ (r : Row) (k : ℕ). one (eqb r.slot k && row_over ds r e)) rows (slots rows) in
    let single = sum_le (λ (k : ℕ). sum_of (λ (r : Row). one (eqb r.slot k && row_over ds r e)) rows) (λ (k : ℕ). 1) (slots rows)
    (all_of _ (one_each n ds e l rows clear) (slots rows)) in
    omega (arith, found, swapped, single, sum_one (slots rows))

pub loads_fit_slots : (n : ℕ) (ds : List Demand) → LoadsFitSlots n ds
loads_fit_slots n ds rival plan e l = load_below_slots n ds rival plan.clear e l

pub plans_pay_for_cuts : (n : ℕ) (ds : List Demand) → PlansPayForCuts n ds
plans_pay_for_cuts n ds apart rival plan e f le lf =
    let both = cut_below_loads n ds rival apart plan e f in
    (both, omega (arith, both, loads_fit_slots n ds rival plan e le, loads_fit_slots n ds rival plan f lf))
