-- A figure for each link, written one link after another.
use Rattle.std.proofs.Common.{◌≡◌, ℕ, ◌+◌, ◌<◌, true, cond, ltb, leb, List, length, get_or, set, sym, ap, ◌∙◌, ap₂, ⊎_elim, arith}
use Rattle.std.proofs.lemmas.List.FromFn.{length-map-range_with_len, get_or-map-range_with_len}
use Rattle.std.proofs.lemmas.List.{ext_get_or, get_or-set_same, get_or-set_other, length-set}
use Rattle.std.proofs.lemmas.Bool.{cases_eq}
use Rattle.std.proofs.lemmas.Bool.Decides.{nat_tests}
use Rattle.ring.specs.Sides.{per_link}

-- the first m links have their figures, the others 0
abbrev pub Filled : (ℕ → ℕ) → ℕ → List ℕ → Type 0
Filled g m xs = (length xs ≡ 16) × ((k : ℕ) → k < 16 → get_or xs k 0 ≡ cond (ltb k m) (g (k + 1)) 0)

same_test : (k m : ℕ) → (k ≡ m → ⊥) → ltb k (m + 1) ≡ ltb k m
same_test k m ne = grind (arith, nat_tests)

here_test : (m : ℕ) → ltb m (m + 1) ≡ true
here_test m = grind (arith, nat_tests)

-- one link more
pub filled_link : (g : ℕ → ℕ) (m : ℕ) (xs : List ℕ) (x : ℕ) → m < 16 → x ≡ g (m + 1) → Filled g m xs → Filled g (m + 1) (set xs m x)
filled_link g m xs x l is h = (
  length-set xs m x ∙ h.0,
  λ k u. ⊎_elim (λ (q : k ≡ m).
      ap (λ j. get_or (set xs m x) j 0) q ∙ get_or-set_same xs m x 0 (omega (arith, h.0)) ∙ is
      ∙ sym (ap (λ j. cond {A = ℕ} (ltb j (m + 1)) (g (j + 1)) 0) q ∙ ap (λ t. cond {A = ℕ} t (g (m + 1)) 0) (here_test m)))
      (λ (ne : k ≡ m → ⊥). get_or-set_other xs m k x 0 ne ∙ h.1 k u ∙ sym (ap (λ t. cond {A = ℕ} t (g (k + 1)) 0) (same_test k m ne)))
      (cases_eq k m),
)

one_lower : (k n : ℕ) → ltb k n ≡ leb (1 + k) n
one_lower k n = grind (arith, nat_tests)

-- all links
pub filled_links : (g : ℕ → ℕ) (n : ℕ) (xs : List ℕ) → Filled g n xs → xs ≡ per_link n g
unfolding per_link
filled_links g n xs h =
    let f : ℕ → ℕ = λ e. cond (leb e n) (g e) 0 in
    ext_get_or 0 xs (per_link n g) (h.0 ∙ sym (length-map-range_with_len f 1 16))
    (λ k l.
    let turn : k + 1 ≡ 1 + k = omega arith in
    let low : k < 16 = omega (arith, h.0) in
    h.1 k low ∙ ap₂ (λ t e. cond {A = ℕ} t (g e) 0) (one_lower k n) turn ∙ sym (get_or-map-range_with_len f 1 16 k (1 + k) 0 low (omega arith)))
