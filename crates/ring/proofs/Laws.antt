-- The choices keep the law. With P k the total of the links before k, the side of the smaller total is parallel:
-- two clockwise routes both miss link n; a clockwise route and a counter-clockwise one that held all links between them would be over
-- half each; and what two counter-clockwise routes miss is over half each, so it meets. Shut link: the shut link is in neither.
use Rattle.std.proofs.Common.{◌≡◌, ℕ, zero, suc, ◌+◌, ◌-◌, ◌*◌, ◌<◌, ◌≤◌, min, max, Bool, true, false, cond, not, ◌&&◌, eqb, ltb, leb, List, get_or, sym, refl, ap, ◌∙◌, subst₂, ⊎_elim, arith}
use Rattle.std.proofs.lemmas.Bool.{leb-true, leb-false, lt-leb, le-leb, lt-ltb, le-ltb, cases_lt, cases_eq, and_left, and_right, and_from, not_from_true}
use Rattle.std.proofs.lemmas.Bool.Decides.{nat_tests}
use Rattle.ring.specs.Sums.{sum_to}
use Rattle.ring.specs.Ring.{within, over, Ends}
use Rattle.ring.specs.Sides.{Choice, code, Missed, Parallel, Elsewhere, on_ring, short_side, shut, weight_of, light_side}
use Rattle.ring.specs.declared.Side.{Side}
use Rattle.ring.specs.declared.Side.TheVariants.{Clockwise, CounterClockwise}

-- ---- ends on a ring
pub on_ring_lem : (n i j : ℕ) → 3 ≤ n → n ≤ 16 → Ends n i j → on_ring n i j ≡ true
on_ring_lem n i j a b p = grind (arith, nat_tests)

-- at ends on the ring, the choice that shuts s, or the last link
pub shut_is : (s n i j : ℕ) → 3 ≤ n → n ≤ 16 → Ends n i j → shut s n i j ≡ cond (within i j (min s n)) CounterClockwise Clockwise
shut_is s n i j a b p = ap (λ (t : Bool). cond (t && within i j (min s n)) CounterClockwise Clockwise) (on_ring_lem n i j a b p)

-- ---- the side of the smaller total
abbrev lighter : (ℕ → ℕ) → Choice
lighter P n i j = cond (leb (P j - P i) ((P (suc n) - P 1) - (P j - P i))) Clockwise CounterClockwise

cw_left : (i j f : ℕ) → f < i → over 0 i j f ≡ false
cw_left i j f h = and_left (leb i f) (ltb f j) (lt-leb i f h)

cw_right : (i j f : ℕ) → j ≤ f → over 0 i j f ≡ false
cw_right i j f h = and_right (leb i f) (ltb f j) (le-ltb f j h)

cw_within : (i j f : ℕ) → i ≤ f → f < j → over 0 i j f ≡ true
cw_within i j f a b = and_from (leb i f) (ltb f j) (le-leb i f a) (lt-ltb f j b)

ccw_within : (i j f : ℕ) → i ≤ f → f < j → over 1 i j f ≡ false
ccw_within i j f a b = not_from_true (leb i f && ltb f j) (and_from (leb i f) (ltb f j) (le-leb i f a) (lt-ltb f j b))

turned : (n s i j t k l : ℕ) → Missed n t k l s i j → Missed n s i j t k l
turned n s i j t k l m = (m.0, m.1, m.3, m.2)

abbrev Light : (ℕ → ℕ) → ℕ → ℕ → ℕ → Type 0
Light P n i j = P j - P i ≤ (P (suc n) - P 1) - (P j - P i)

abbrev Heavy : (ℕ → ℕ) → ℕ → ℕ → ℕ → Type 0
Heavy P n i j = (P (suc n) - P 1) - (P j - P i) < P j - P i

module _ (P : ℕ → ℕ) (mono : (a b : ℕ) → a ≤ b → P a ≤ P b) (n : ℕ) where
  mixed : (i j k l : ℕ) → Ends n i j → Ends n k l → Light P n i j → Heavy P n k l → Missed n 0 i j 1 k l
  mixed i j k l p q a b =
      ⊎_elim (λ (h : k < i). (k, (omega arith, omega arith), cw_left i j k h, ccw_within k l k (omega arith) (omega arith)))
      (λ (h : i ≤ k). ⊎_elim (λ (g : j < l). (l - 1, (omega arith, omega arith), cw_right i j (l - 1) (omega arith), ccw_within k l (l - 1) (omega arith) (omega arith)))
      (λ (g : l ≤ j). absurd (omega (arith, mono i k h, mono k l (omega arith), mono l j g, mono j (suc n) (omega arith), mono 1 i (omega arith))))
      (cases_lt j l))
      (cases_lt k i)

  heavies : (i j k l : ℕ) → Ends n i j → Ends n k l → Heavy P n i j → Heavy P n k l → Missed n 1 i j 1 k l
  heavies i j k l p q a b =
      ⊎_elim (λ (h : k < j). ⊎_elim (λ (g : i < l). (max i k, (omega arith, omega arith), ccw_within i j (max i k) (omega arith) (omega arith), ccw_within k l (max i k) (omega arith) (omega arith)))
      (λ (g : l ≤ i). absurd (omega (arith, mono l i g, mono i j (omega arith), mono k l (omega arith), mono j (suc n) (omega arith), mono 1 k (omega arith))))
      (cases_lt i l))
      (λ (h : j ≤ k). absurd (omega (arith, mono j k h, mono i j (omega arith), mono k l (omega arith), mono l (suc n) (omega arith), mono 1 i (omega arith))))
      (cases_lt k j)

  -- any two routes of the lighter side leave a link out, whether or not they share one
  lighter_missed : (i j k l : ℕ) → Ends n i j → Ends n k l → Missed n (code (lighter P n i j)) i j (code (lighter P n k l)) k l
  lighter_missed i j k l p q = go (leb (P j - P i) ((P (suc n) - P 1) - (P j - P i))) (leb (P l - P k) ((P (suc n) - P 1) - (P l - P k))) refl refl
    where
      go : (a b : Bool) → leb (P j - P i) ((P (suc n) - P 1) - (P j - P i)) ≡ a → leb (P l - P k) ((P (suc n) - P 1) - (P l - P k)) ≡ b →
          Missed n (code (cond a Clockwise CounterClockwise)) i j (code (cond b Clockwise CounterClockwise)) k l
      go true true x y = (n, (omega arith, omega arith), cw_right i j n p.2, cw_right k l n q.2)
      go true false x y = mixed i j k l p q (leb-true _ _ x) (leb-false _ _ y)
      go false true x y = turned n 1 i j 0 k l (mixed k l i j q p (leb-true _ _ y) (leb-false _ _ x))
      go false false x y = heavies i j k l p q (leb-false _ _ x) (leb-false _ _ y)

-- a choice that at ends on a ring is the lighter one by another formula
same_choice : (σ : Choice) (P : ℕ → ℕ) → ((a b : ℕ) → a ≤ b → P a ≤ P b) → ((n i j : ℕ) → 3 ≤ n → n ≤ 16 → Ends n i j → lighter P n i j ≡ σ n i j) → Parallel σ
same_choice σ P mono same n a b i j k l p q e le x y =
    subst₂ (λ (s t : Side). Missed n (code s) i j (code t) k l) (same n i j a b p) (same n k l a b q) (lighter_missed P mono n i j k l p q)

-- clockwise on a test is counter-clockwise on the opposite one
opposite : (on p q : Bool) → on ≡ true → p ≡ not q → cond p Clockwise CounterClockwise ≡ cond (on && q) CounterClockwise Clockwise
opposite on p q h e = ap (λ (b : Bool). cond b Clockwise CounterClockwise) e ∙ go q ∙ ap (λ (b : Bool). cond (b && q) CounterClockwise Clockwise) (sym h)
  where
    go : (q : Bool) → cond (not q) Clockwise CounterClockwise ≡ cond q CounterClockwise Clockwise
    go true = refl
    go false = refl

elsewhere : (on q : Bool) → on ≡ false → cond (on && q) CounterClockwise Clockwise ≡ Clockwise
elsewhere on q h = ap (λ (b : Bool). cond (b && q) CounterClockwise Clockwise) h

-- ---- the short side
short_test : (n i j : ℕ) → Ends n i j → leb (j - i) ((suc n - 1) - (j - i)) ≡ not (ltb n (2 * (j - i)))
short_test n i j p = grind (arith, nat_tests)

pub short_parallel : Parallel short_side
short_parallel =
    same_choice short_side (λ k. k) (λ a b h. h) (λ n i j a b p. opposite (on_ring n i j) _ _ (on_ring_lem n i j a b p) (short_test n i j p))

pub short_elsewhere : Elsewhere short_side
short_elsewhere n i j h = elsewhere (on_ring n i j) (ltb n (2 * (j - i))) h

-- ---- a shut link
shut_avoids : (s n i j : ℕ) → 3 ≤ n → n ≤ 16 → Ends n i j → over (code (shut s n i j)) i j (min s n) ≡ false
shut_avoids s n i j a b p = ap (λ (t : Side). over (code t) i j (min s n)) (shut_is s n i j a b p) ∙ go (within i j (min s n))
  where
    go : (b : Bool) → cond (eqb (code (cond b CounterClockwise Clockwise)) 0) b (not b) ≡ false
    go true = refl
    go false = refl

pub shut_parallel : (s : ℕ) → 1 ≤ s → Parallel (shut s)
shut_parallel s u n a b i j k l p q e le x y = (min s n, (omega arith, omega arith), shut_avoids s n i j a b p, shut_avoids s n k l a b q)

pub shut_elsewhere : (s : ℕ) → Elsewhere (shut s)
shut_elsewhere s n i j h = elsewhere (on_ring n i j) (within i j (min s n)) h

-- ---- weights
-- the total weight of the links 1..k-1
abbrev before : List ℕ → ℕ → ℕ
before ws zero = 0
before ws (suc zero) = 0
before ws (suc (suc k)) = before ws (suc k) + get_or ws k 0

before_step : (ws : List ℕ) (k : ℕ) → before ws k ≤ before ws (suc k)
before_step ws zero = omega arith
before_step ws (suc k) = omega arith

before_mono : (ws : List ℕ) (a b : ℕ) → a ≤ b → before ws a ≤ before ws b
before_mono ws a zero h = let q : a ≡ 0 = omega arith in omega (arith, ap (before ws) q)
before_mono ws a (suc b) h =
    ⊎_elim (λ (q : a ≡ suc b). omega (arith, ap (before ws) q))
    (λ (ne : a ≡ suc b → ⊥). omega (arith, before_mono ws a b (omega arith), before_step ws b))
    (cases_eq a (suc b))

-- the links 1..m of a stretch i..j-1
stretch : (ws : List ℕ) (i j : ℕ) → 1 ≤ i → i < j → (m : ℕ) →
    sum_to m (λ e. cond (over 0 i j e) (get_or ws (e - 1) 0) 0) + before ws (min (suc m) i) ≡ before ws (min (suc m) j)
stretch ws i j a b zero = let p : min 1 i ≡ 1 = omega arith in let q : min 1 j ≡ 1 = omega arith in omega (arith, ap (before ws) p, ap (before ws) q)
stretch ws i j a b (suc m) =
    ⊎_elim (λ (h : suc m < i).
    omega (
      arith,
      held false (cw_left i j (suc m) h),
      at (min (suc (suc m)) i) (suc (suc m)) (omega arith),
      at (min (suc (suc m)) j) (suc (suc m)) (omega arith),
      at (min (suc m) i) (suc m) (omega arith),
      at (min (suc m) j) (suc m) (omega arith),
      stretch ws i j a b m,
    ))
    (λ (h : i ≤ suc m). ⊎_elim (λ (g : suc m < j).
    omega (
      arith,
      held true (cw_within i j (suc m) h g),
      here,
      at (min (suc (suc m)) i) i (omega arith),
      at (min (suc (suc m)) j) (suc (suc m)) (omega arith),
      at (min (suc m) i) i (omega arith),
      at (min (suc m) j) (suc m) (omega arith),
      stretch ws i j a b m,
    ))
    (λ (g : j ≤ suc m).
    omega (
      arith,
      held false (cw_right i j (suc m) g),
      at (min (suc (suc m)) i) i (omega arith),
      at (min (suc (suc m)) j) j (omega arith),
      at (min (suc m) i) i (omega arith),
      at (min (suc m) j) j (omega arith),
      stretch ws i j a b m,
    ))
    (cases_lt (suc m) j))
    (cases_lt (suc m) i)
  where
    at : (x y : ℕ) → x ≡ y → before ws x ≡ before ws y
    at x y q = ap (before ws) q

    here : get_or ws (suc m - 1) 0 ≡ get_or ws m 0
    here = let q : suc m - 1 ≡ m = omega arith in ap (λ k. get_or ws k 0) q

    held : (t : Bool) → over 0 i j (suc m) ≡ t → cond (over 0 i j (suc m)) (get_or ws (suc m - 1) 0) 0 ≡ cond t (get_or ws (suc m - 1) 0) 0
    held t q = ap (λ (b : Bool). cond b (get_or ws (suc m - 1) 0) 0) q

-- the two routes share the ring out within them
shared : (ws : List ℕ) (i j n : ℕ) → weight_of ws n 0 i j + weight_of ws n 1 i j ≡ before ws (suc n)
shared ws i j zero = refl
shared ws i j (suc n) =
    let q : suc n - 1 ≡ n = omega arith in
    omega (arith, go (within i j (suc n)) (get_or ws (suc n - 1) 0), ap (λ k. get_or ws k 0) q, shared ws i j n)
  where
    go : (b : Bool) (w : ℕ) → cond b w 0 + cond (not b) w 0 ≡ w
    go true w = omega arith
    go false w = omega arith

light_test : (u v x y : ℕ) → u ≡ x → v ≡ y → leb u v ≡ not (ltb y x)
light_test u v x y a b = grind (arith, nat_tests)

same : (ws : List ℕ) (n i j : ℕ) → 3 ≤ n → n ≤ 16 → Ends n i j → lighter (before ws) n i j ≡ light_side ws n i j
same ws n i j a b p =
    let low : min (suc n) i ≡ i = omega arith in
    let high : min (suc n) j ≡ j = omega arith in
    let held : before ws j - before ws i ≡ weight_of ws n 0 i j = omega (arith, stretch ws i j p.0 p.1 n, ap (before ws) low, ap (before ws) high) in
    let rest : (before ws (suc n) - before ws 1) - (before ws j - before ws i) ≡ weight_of ws n 1 i j = omega (arith, shared ws i j n, held) in
    opposite (on_ring n i j) _ _ (on_ring_lem n i j a b p) (light_test _ _ _ _ held rest)

pub light_parallel : (ws : List ℕ) → Parallel (light_side ws)
light_parallel ws = same_choice (light_side ws) (before ws) (before_mono ws) (same ws)

pub light_elsewhere : (ws : List ℕ) → Elsewhere (light_side ws)
light_elsewhere ws n i j h = elsewhere (on_ring n i j) (ltb (weight_of ws n 1 i j) (weight_of ws n 0 i j)) h
