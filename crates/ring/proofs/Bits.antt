-- The bits of a mask, and tests over lists.
use Rattle.std.proofs.Common.{◌≡◌, ℕ, zero, suc, ◌+◌, ◌-◌, ◌*◌, ◌/◌, ◌%◌, ◌^◌, ◌<◌, ◌≤◌, min, max, Bool, true, false, cond, not, ◌&&◌, ◌||◌, eqb, List, [], ◌∷◌, sym, refl, ap, ◌∙◌, ap₂, ⊎_elim, pow-suc, div-one, arith, pow_mono}
use native.Mathlib.Nat.{pow-zero, pow-succ', div-div-eq-div-mul}
use mir.Val.{bool_byte}
use lib.Bits.{bit_and, bit_or, and_step, or_step}
use Rattle.std.specs.List.{range_with_len}
use Rattle.std.proofs.lemmas.Bool.Decides.{nat_tests}
use Rattle.std.proofs.lemmas.Bool.{cases_eq, and_from, and_parts}
use Rattle.ring.specs.Ring.{over}
use Rattle.ring.specs.Sums.{some}
use Rattle.ring.specs.Masks.{bits, link_mask, BitForEachLink, Share, MeetsWhereRoutesShare}

-- ---- bits
one_bit : (b : Bool) → cond b 1 0 ≤ 1
one_bit true = omega arith
one_bit false = omega arith

half : (b : Bool) (a : ℕ) → (cond b 1 0 + 2 * a) / 2 ≡ a
half true a = omega arith
half false a = omega arith

low : (b : Bool) (a : ℕ) → (cond b 1 0 + 2 * a) % 2 ≡ cond b 1 0
low true a = omega arith
low false a = omega arith

and_pair : (x y : Bool) (a b : ℕ) → bit_and (cond x 1 0 + 2 * a) (cond y 1 0 + 2 * b) ≡ cond (x && y) 1 0 + 2 * bit_and a b
and_pair x y a b =
    and_step (cond x 1 0 + 2 * a) (cond y 1 0 + 2 * b)
    ∙ ap₂ (λ u v. bit_and u v * 2 + min ((cond x 1 0 + 2 * a) % 2) ((cond y 1 0 + 2 * b) % 2)) (half x a) (half y b)
    ∙ ap₂ (λ u v. bit_and a b * 2 + min u v) (low x a) (low y b)
    ∙ last x y (bit_and a b)
  where
    last : (x y : Bool) (z : ℕ) → z * 2 + min (cond x 1 0) (cond y 1 0) ≡ cond (x && y) 1 0 + 2 * z
    last true true z = omega arith
    last true false z = omega arith
    last false true z = omega arith
    last false false z = omega arith

or_pair : (x y : Bool) (a b : ℕ) → bit_or (cond x 1 0 + 2 * a) (cond y 1 0 + 2 * b) ≡ cond (x || y) 1 0 + 2 * bit_or a b
or_pair x y a b =
    or_step (cond x 1 0 + 2 * a) (cond y 1 0 + 2 * b)
    ∙ ap₂ (λ u v. bit_or u v * 2 + max ((cond x 1 0 + 2 * a) % 2) ((cond y 1 0 + 2 * b) % 2)) (half x a) (half y b)
    ∙ ap₂ (λ u v. bit_or a b * 2 + max u v) (low x a) (low y b)
    ∙ last x y (bit_or a b)
  where
    last : (x y : Bool) (z : ℕ) → z * 2 + max (cond x 1 0) (cond y 1 0) ≡ cond (x || y) 1 0 + 2 * z
    last true true z = omega arith
    last true false z = omega arith
    last false true z = omega arith
    last false false z = omega arith

pub bits_or : (p q : ℕ → Bool) (e m : ℕ) → bit_or (bits e m p) (bits e m q) ≡ bits e m (λ k. p k || q k)
bits_or p q e zero = refl
bits_or p q e (suc m) = or_pair (p e) (q e) (bits (e + 1) m p) (bits (e + 1) m q) ∙ ap (λ z. cond (p e || q e) 1 0 + 2 * z) (bits_or p q (e + 1) m)

pub bits_and : (p q : ℕ → Bool) (e m : ℕ) → bit_and (bits e m p) (bits e m q) ≡ bits e m (λ k. p k && q k)
bits_and p q e zero = refl
bits_and p q e (suc m) = and_pair (p e) (q e) (bits (e + 1) m p) (bits (e + 1) m q) ∙ ap (λ z. cond (p e && q e) 1 0 + 2 * z) (bits_and p q (e + 1) m)

pub bits_same : (p q : ℕ → Bool) → ((k : ℕ) → p k ≡ q k) → (e m : ℕ) → bits e m p ≡ bits e m q
bits_same p q f e zero = refl
bits_same p q f e (suc m) = ap₂ (λ b z. cond b 1 0 + 2 * z) (f e) (bits_same p q f (e + 1) m)

-- a number is not 0 where a bit is set
pub bits_some : (p : ℕ → Bool) (e m : ℕ) → not (eqb (bits e m p) 0) ≡ some p (range_with_len e m)
bits_some p e zero = refl
bits_some p e (suc m) = step (p e) (bits (e + 1) m p) (some p (range_with_len (e + 1) m)) (bits_some p (e + 1) m)
  where
    step : (b : Bool) (z : ℕ) (s : Bool) → not (eqb z 0) ≡ s → not (eqb (cond b 1 0 + 2 * z) 0) ≡ (b || s)
    step true z s h = grind (arith, nat_tests)
    step false z s h = grind (arith, nat_tests)

-- ---- tests on lists
pub some_same : {X : Type 0} (p q : X → Bool) → ((x : X) → p x ≡ q x) → (xs : List X) → some p xs ≡ some q xs
some_same p q f [] = refl
some_same p q f (x ∷ xs) = ap₂ ◌||◌ (f x) (some_same p q f xs)

four : (a b c d : Bool) → ((a || b) || (c || d)) ≡ ((a || c) || (b || d))
four true b c d = refl
four false true true d = refl
four false true false d = refl
four false false true d = refl
four false false false d = refl

pub some_or : {X : Type 0} (p q : X → Bool) (xs : List X) → some (λ x. p x || q x) xs ≡ (some p xs || some q xs)
some_or p q [] = refl
some_or p q (x ∷ xs) = ap (λ b. (p x || q x) || b) (some_or p q xs) ∙ four (p x) (q x) (some p xs) (some q xs)

pub some_none : {X : Type 0} (xs : List X) → some (λ _. false) xs ≡ false
some_none [] = refl
some_none (x ∷ xs) = some_none xs

-- ---- a mask is made from its last link down
pub bits_lt : (p : ℕ → Bool) (e m : ℕ) → bits e m p < 2 ^ m
bits_lt p e zero = omega arith
bits_lt p e (suc m) = omega (arith, bits_lt p (e + 1) m, one_bit (p e), pow-suc 2 m)

byte_cond : (b : Bool) → bool_byte b ≡ cond b 1 0
byte_cond true = refl
byte_cond false = refl

pub mask_fits : (p : ℕ → Bool) (n e m : ℕ) (b : Bool) → 0 < e → e ≤ n → n ≤ 16 → m ≡ bits (e + 1) (n - e) p → 2 * m + bool_byte b < 2 ^ 16
mask_fits p n e m b e0 en n16 h = omega (arith, bits_lt p (e + 1) (n - e), pow_mono {i = n - e} {j = 15} (omega arith), byte_cond b, one_bit b)

pub mask_step : (p : ℕ → Bool) (n e m : ℕ) (b : Bool) → 0 < e → e ≤ n → m ≡ bits (e + 1) (n - e) p → b ≡ p e → 2 * m + bool_byte b ≡ bits (e - 1 + 1) (n - (e - 1)) p
mask_step p n e m b e0 en h q =
    let now : 2 * m + bool_byte b ≡ bits e (suc (n - e)) p = omega (arith, byte_cond b, ap (λ x. cond {A = ℕ} x 1 0) q) in
    let low' : e ≡ e - 1 + 1 = omega arith in
    let long : suc (n - e) ≡ n - (e - 1) = omega arith in
    now ∙ ap₂ (λ x y. bits x y p) low' long

-- ---- what a mask means
-- the bit of the k-th number from e
bit_at : (p : ℕ → Bool) (e m k : ℕ) → k < m → (bits e m p / 2 ^ k) % 2 ≡ cond (p (e + k)) 1 0
bit_at p e zero k h = absurd (omega arith)
bit_at p e (suc m) zero h =
    let x : ℕ = cond (p e) 1 0 + 2 * bits (e + 1) m p in
    let same : e ≡ e + 0 = omega arith in
    ap (λ d. (x / d) % 2) (pow-zero 2) ∙ ap (λ y. y % 2) (div-one x) ∙ low (p e) (bits (e + 1) m p) ∙ ap (λ j. cond {A = ℕ} (p j) 1 0) same
bit_at p e (suc m) (suc k) h =
    let rest : ℕ = bits (e + 1) m p in
    let x : ℕ = cond (p e) 1 0 + 2 * rest in
    let next : e + 1 + k ≡ e + suc k = omega arith in
    ap (λ d. (x / d) % 2) (pow-succ' 2 k)
    ∙ ap (λ y. y % 2) (sym (div-div-eq-div-mul x 2 (2 ^ k)))
    ∙ ap (λ y. (y / 2 ^ k) % 2) (half (p e) rest)
    ∙ bit_at p (e + 1) m k (omega arith)
    ∙ ap (λ j. cond {A = ℕ} (p j) 1 0) next

-- a bit that is set
bits_set : (p : ℕ → Bool) (e m k : ℕ) → e ≤ k → k < e + m → p k ≡ true → bits e m p ≡ 0 → ⊥
bits_set p e zero k a b h z = omega arith
bits_set p e (suc m) k a b h z =
    ⊎_elim (λ (q : e ≡ k). let on : p e ≡ true = ap p q ∙ h in omega (arith, ap (λ t. cond {A = ℕ} t 1 0) on))
    (λ (ne : e ≡ k → ⊥). bits_set p (e + 1) m k (omega arith) (omega arith) h (omega arith))
    (cases_eq e k)

-- a number that is not 0 has a bit that is set
bits_find : (p : ℕ → Bool) (e m : ℕ) → (bits e m p ≡ 0 → ⊥) → (k : ℕ) × (e ≤ k) × (k < e + m) × (p k ≡ true)
bits_find p e zero h = absurd (h refl)
bits_find p e (suc m) h = go (p e) refl (bits_find p (e + 1) m)
  where
    go : (t : Bool) → p e ≡ t → ((bits (e + 1) m p ≡ 0 → ⊥) → (k : ℕ) × (e + 1 ≤ k) × (k < e + 1 + m) × (p k ≡ true)) →
        (k : ℕ) × (e ≤ k) × (k < e + suc m) × (p k ≡ true)
    go true q ih = (e, omega arith, omega arith, q)
    go false q ih =
        let r = ih (λ z. h (omega (arith, ap (λ t. cond {A = ℕ} t 1 0) q, z))) in
        (r.0, omega (arith, r.1), omega (arith, r.2), r.3)

pub bit_for_each_link : (n s i j mask : ℕ) → mask ≡ link_mask n s i j → BitForEachLink n s i j mask
bit_for_each_link n s i j mask is e l =
    let place : 1 + (e - 1) ≡ e = omega arith in
    ap (λ m. (m / 2 ^ (e - 1)) % 2) is ∙ bit_at (over s i j) 1 n (e - 1) (omega arith) ∙ ap (λ k. cond {A = ℕ} (over s i j k) 1 0) place

pub meets_where_routes_share : (n s i j mask : ℕ) → mask ≡ link_mask n s i j → MeetsWhereRoutesShare n s i j mask
meets_where_routes_share n s i j mask is t k l =
    let both : ℕ → Bool = λ e. over s i j e && over t k l e in
    let met : bit_and mask (link_mask n t k l) ≡ bits 1 n both = ap (λ m. bit_and m (link_mask n t k l)) is ∙ bits_and (over s i j) (over t k l) 1 n in (
      (λ (sh : Share n s i j t k l) (z : bit_and mask (link_mask n t k l) ≡ 0). bits_set both 1 n sh.0 sh.1.0 (omega (arith, sh.1.1)) (and_from (over s i j sh.0) (over t k l sh.0) sh.2 sh.3) (sym met ∙ z)),
      (λ (nz : bit_and mask (link_mask n t k l) ≡ 0 → ⊥).
          let r = bits_find both 1 n (λ z. nz (met ∙ z)) in
          let p = and_parts (over s i j r.0) (over t k l r.0) r.3 in
          (r.0, (r.1, omega (arith, r.2)), p.0, p.1)),
    )
