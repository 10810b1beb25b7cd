-- A parallel choice: each link has another that no chosen route holds with it.
-- Cut the ring open at the link e. What a route over e misses is then a stretch first..last of the places 1..n-1,
-- and two such stretches meet; so all of them have a place in common, the largest of the firsts.
use Rattle.std.proofs.Common.{◌≡◌, ℕ, ◌+◌, ◌-◌, ◌≤◌, max, Bool, true, false, cond, eqb, ltb, leb, List, [], ◌∷◌, refl, arith}
use Rattle.std.specs.List.{AllByRecursion as Each}
use Rattle.std.proofs.ByRecursion.{All-weaker}
use Rattle.std.proofs.lemmas.Bool.{false≢true}
use Rattle.std.proofs.lemmas.Bool.Decides.{nat_tests}
use Rattle.ring.specs.Ring.{over, Link, Ends, Fitting}
use Rattle.ring.specs.Sides.{Choice, code, chosen, Parallel}
use Rattle.ring.specs.declared.Demand.{Demand}

abbrev pub first : ℕ → ℕ → ℕ → ℕ → ℕ → ℕ
first n e s i j = cond (eqb s 0) (j - e) (cond (ltb e i) (i - e) (i + n - e))

abbrev pub last : ℕ → ℕ → ℕ → ℕ → ℕ → ℕ
last n e s i j = cond (eqb s 0) (i + n - 1 - e) (cond (ltb e i) (j - 1 - e) (j + n - 1 - e))

-- the place of the link f, and the link of a place
abbrev pub place : ℕ → ℕ → ℕ → ℕ
place n e f = cond (ltb e f) (f - e) (f + n - e)

abbrev pub link : ℕ → ℕ → ℕ → ℕ
link n e m = cond (leb (e + m) n) (e + m) (e + m - n)

pub missed_in : (n e s i j f : ℕ) → Link n e → Link n f → Ends n i j → over s i j e ≡ true → over s i j f ≡ false →
    (first n e s i j ≤ place n e f) × (place n e f ≤ last n e s i j)
missed_in n e s i j f le lf p x y = grind (arith, nat_tests)

pub missed_at : (n e s i j m : ℕ) → Link n e → Ends n i j → over s i j e ≡ true → first n e s i j ≤ m → m ≤ last n e s i j →
    over s i j (link n e m) ≡ false
missed_at n e s i j m le p x a b = grind (arith, nat_tests)

first_small : (n e s i j : ℕ) → Link n e → Ends n i j → over s i j e ≡ true → (1 ≤ first n e s i j) × (first n e s i j ≤ n)
first_small n e s i j le p x = grind (arith, nat_tests)

pub link_in : (n e m : ℕ) → Link n e → (1 ≤ m) × (m ≤ n) → Link n (link n e m)
link_in n e m le r = grind (arith, nat_tests)

abbrev Fits : ℕ → Demand → Type 0
Fits n d = Ends n d.lower d.upper

abbrev from : Choice → ℕ → ℕ → Demand → ℕ
from σ n e d = first n e (code (σ n d.lower d.upper)) d.lower d.upper

abbrev upto : Choice → ℕ → ℕ → Demand → ℕ
upto σ n e d = last n e (code (σ n d.lower d.upper)) d.lower d.upper

-- the largest of the firsts
abbrev far : Choice → ℕ → ℕ → List Demand → ℕ
far σ n e [] = 1
far σ n e (d ∷ ds) = max (cond (chosen σ n d e) (from σ n e d) 1) (far σ n e ds)

module _ (σ : Choice) (par : Parallel σ) (n : ℕ) (n3 : 3 ≤ n) (n16 : n ≤ 16) (e : ℕ) (le : Link n e) where
  -- two stretches meet
  meet : (a b : Demand) → Fits n a → Fits n b → chosen σ n a e ≡ true → chosen σ n b e ≡ true → from σ n e a ≤ upto σ n e b
  meet a b p q x y =
      let m = par n n3 n16 a.lower a.upper b.lower b.upper p q e le x y in
      omega (
        arith,
        missed_in n e (code (σ n a.lower a.upper)) a.lower a.upper m.0 le m.1 p x m.2,
        missed_in n e (code (σ n b.lower b.upper)) b.lower b.upper m.0 le m.1 q y m.3,
      )

  far_range : (ds : List Demand) → Fitting n ds → (1 ≤ far σ n e ds) × (far σ n e ds ≤ n)
  far_range [] h = (omega arith, omega arith)
  far_range (d ∷ ds) h = go (chosen σ n d e) refl (far_range ds h.1)
    where
      go : (t : Bool) → chosen σ n d e ≡ t → (1 ≤ far σ n e ds) × (far σ n e ds ≤ n) →
          (1 ≤ max (cond t (from σ n e d) 1) (far σ n e ds)) × (max (cond t (from σ n e d) 1) (far σ n e ds) ≤ n)
      go true x ih = omega (arith, first_small n e (code (σ n d.lower d.upper)) d.lower d.upper le h.0 x)
      go false x ih = omega arith

  far_upto : (b : Demand) → Fits n b → chosen σ n b e ≡ true → (ds : List Demand) → Fitting n ds → far σ n e ds ≤ upto σ n e b
  far_upto b q y [] h =
      omega (arith, first_small n e (code (σ n b.lower b.upper)) b.lower b.upper le q y, meet b b q q y y)
  far_upto b q y (d ∷ ds) h = go (chosen σ n d e) refl (far_upto b q y ds h.1)
    where
      go : (t : Bool) → chosen σ n d e ≡ t → far σ n e ds ≤ upto σ n e b → max (cond t (from σ n e d) 1) (far σ n e ds) ≤ upto σ n e b
      go true x ih = omega (arith, meet d b h.0 q x y)
      go false x ih =
          omega (arith, first_small n e (code (σ n b.lower b.upper)) b.lower b.upper le q y, meet b b q q y y)

  -- whatever starts at most at m, and below the largest first too
  from_far : (ds : List Demand) → Each (λ (d : Demand). chosen σ n d e ≡ true → from σ n e d ≤ far σ n e ds) ds
  from_far [] = tt
  from_far (d ∷ ds) = (
    (λ (x : chosen σ n d e ≡ true). go (chosen σ n d e) x),
    All-weaker _ _ wider ds (from_far ds),
  )
    where
      go : (t : Bool) → t ≡ true → from σ n e d ≤ max (cond t (from σ n e d) 1) (far σ n e ds)
      go true x = omega arith
      go false x = absurd (false≢true x)

      wider : (c : Demand) → (chosen σ n c e ≡ true → from σ n e c ≤ far σ n e ds) → chosen σ n c e ≡ true → from σ n e c ≤ far σ n e (d ∷ ds)
      wider c h x = omega (arith, h x)

  -- the link at that place
  apart : (ds all : List Demand) → Fitting n all → Fitting n ds →
      Each (λ (d : Demand). chosen σ n d e ≡ true → from σ n e d ≤ far σ n e all) ds →
      Each (λ (d : Demand). chosen σ n d e ≡ true → chosen σ n d (link n e (far σ n e all)) ≡ false) ds
  apart [] all fits h k = tt
  apart (d ∷ ds) all fits h k = (
    (λ (x : chosen σ n d e ≡ true).
        missed_at n e (code (σ n d.lower d.upper)) d.lower d.upper (far σ n e all) le h.0 x (k.0 x) (far_upto d h.0 x all fits)),
    apart ds all fits h.1 k.1,
  )

  pub partner : (ds : List Demand) → Fitting n ds →
      (f : ℕ) × Link n f × Each (λ (d : Demand). chosen σ n d e ≡ true → chosen σ n d f ≡ false) ds
  partner ds fits = (link n e (far σ n e ds), link_in n e (far σ n e ds) le (far_range ds fits), apart ds ds fits fits (from_far ds))
