-- Slots without gaps.
use Rattle.std.proofs.Common.{◌≡◌, ℕ, zero, suc, ◌+◌, ◌<◌, Bool, true, false, cond, ◌||◌, eqb, List, [], ◌∷◌, sym, refl, ap, ◌∙◌, ⊎_elim, arith}
use Rattle.std.specs.List.{AllByRecursion as Each}
use Rattle.std.proofs.ByRecursion.{All-weaker}
use Rattle.std.proofs.lemmas.Bool.{eqb-true, eq-eqb, ne_eqb, cases_eq, or_parts, false≢true}
use Rattle.ring.specs.Sums.{sum_of, one, count_of, sum_to}
use Rattle.ring.specs.Ring.{Link, has, slots, Once}
use Rattle.ring.specs.Claims.{GaplessSlotsCounted}
use Rattle.ring.specs.declared.Row.{Row}
use Rattle.ring.proofs.Summing.{sum_zero, sum_one, sum_add, sum_eq}
use Rattle.ring.proofs.Meanings.{once, used}

swap_to : (f : ℕ → ℕ → ℕ) (ks : List ℕ) (m : ℕ) → sum_to m (λ k. sum_of (λ x. f x k) ks) ≡ sum_of (λ x. sum_to m (f x)) ks
swap_to f ks zero = sym (sum_zero ks)
swap_to f ks (suc m) = ap (λ n. sum_of (λ x. f x (suc m)) ks + n) (swap_to f ks m) ∙ sym (sum_add (λ x. f x (suc m)) (λ x. sum_to m (f x)) ks)

-- x is not one of 1..m
to_none : (x m : ℕ) → m < x → sum_to m (λ k. one (eqb k x)) ≡ 0
to_none x zero h = refl
to_none x (suc m) h = let ne : suc m ≡ x → ⊥ = omega arith in omega (arith, ap one (ne_eqb (suc m) x ne), to_none x m (omega arith))

-- x is one of 1..m
to_one : (m x : ℕ) → Link m x → sum_to m (λ k. one (eqb k x)) ≡ 1
to_one zero x h = absurd (omega arith)
to_one (suc m) x h =
    ⊎_elim (λ (q : suc m ≡ x). omega (arith, ap one (eq-eqb (suc m) x q), to_none x m (omega arith)))
    (λ (ne : suc m ≡ x → ⊥). omega (arith, ap one (ne_eqb (suc m) x ne), to_one m x (h.0, omega arith))) (cases_eq (suc m) x)

absent : (j : ℕ) (ks : List ℕ) → has j ks ≡ false → count_of (λ k. eqb j k) ks ≡ 0
absent j [] h = refl
absent j (k ∷ ks) h = let p = or_parts (eqb j k) (has j ks) h in omega (arith, ap one p.0, absent j ks p.1)

single : (j : ℕ) (ks : List ℕ) → Once ks → has j ks ≡ true → count_of (λ k. eqb j k) ks ≡ 1
single j [] o h = absurd (false≢true h)
single j (k ∷ ks) o h = go (eqb j k) refl h (single j ks o.1)
  where
    go : (t : Bool) → eqb j k ≡ t → (t || has j ks) ≡ true → (has j ks ≡ true → count_of (λ k. eqb j k) ks ≡ 1) → one t + count_of (λ k. eqb j k) ks ≡ 1
    go true q r ih = omega (arith, absent j ks (ap (λ x. has x ks) (eqb-true j k q) ∙ o.0))
    go false q r ih = omega (arith, ih r)

all_in : (m : ℕ) (rows : List Row) → Each (λ (r : Row). Link m r.slot) rows → Each (λ (k : ℕ). Link m k) (slots rows)
all_in m [] h = tt
all_in m (r ∷ rs) h = go (has r.slot (slots rs)) (all_in m rs h.1)
  where
    go : (t : Bool) → Each (λ (k : ℕ). Link m k) (slots rs) → Each (λ (k : ℕ). Link m k) (cond t (slots rs) (r.slot ∷ slots rs))
    go true ih = ih
    go false ih = (h.0, ih)

ones : (m : ℕ) (g : ℕ → ℕ) → ((k : ℕ) → Link m k → g k ≡ 1) → sum_to m g ≡ m
ones zero g h = refl
ones (suc m) g h = omega (arith, h (suc m) (omega arith, omega arith), ones m g (λ k l. h k (l.0, omega arith)))

pub gapless_slots_counted : (rows : List Row) → GaplessSlotsCounted rows
gapless_slots_counted rows m low full =
    let ks = slots rows in
    omega (
      arith,
      ones m (λ k. count_of (λ x. eqb k x) ks) (λ k l. single k ks (once rows) (used rows k ∙ full k l)),
      swap_to (λ x k. one (eqb k x)) ks m,
      sum_eq (λ x. sum_to m (λ k. one (eqb k x))) (λ x. 1) ks (All-weaker _ _ (λ x l. to_one m x l) ks (all_in m rows low)),
      sum_one ks,
    )
