-- Maxima and minima over 1..n, and the heaviest cut.
use Rattle.std.proofs.Common.{◌≡◌, ℕ, zero, suc, ◌-◌, ◌<◌, ◌≤◌, Bool, true, false, cond, List, [], ◌∷◌, refl, ap, ⊎_elim, arith}
use Rattle.std.proofs.lemmas.Bool.{cases_eq, cases_order}
use Rattle.ring.specs.Sums.{most_of, least_of}
use Rattle.ring.specs.Ring.{within, differ, cut, heaviest, Link}
use Rattle.ring.specs.Cuts.{Pair}
use Rattle.ring.specs.declared.Demand.{Demand}

pub le_most : (n : ℕ) (g : ℕ → ℕ) (e : ℕ) → Link n e → g e ≤ most_of n g
le_most zero g e l = omega arith
le_most (suc n) g e l =
    ⊎_elim (λ (q : e ≡ suc n). omega (arith, ap g q)) (λ (ne : e ≡ suc n → ⊥). omega (arith, le_most n g e (l.0, omega arith))) (cases_eq e (suc n))

pub most_le : (n : ℕ) (g : ℕ → ℕ) (b : ℕ) → ((e : ℕ) → Link n e → g e ≤ b) → most_of n g ≤ b
most_le zero g b h = omega arith
most_le (suc n) g b h = omega (arith, h (suc n) (omega arith, omega arith), most_le n g b (λ e l. h e (l.0, omega arith)))

pub least_le : (top n : ℕ) (g : ℕ → ℕ) (e : ℕ) → Link n e → least_of top n g ≤ g e
least_le top zero g e l = omega arith
least_le top (suc n) g e l =
    ⊎_elim (λ (q : e ≡ suc n). omega (arith, ap g q)) (λ (ne : e ≡ suc n → ⊥). omega (arith, least_le top n g e (l.0, omega arith))) (cases_eq e (suc n))

pub cut_same : (ds : List Demand) (e : ℕ) → cut ds e e ≡ 0
cut_same [] e = refl
cut_same (d ∷ ds) e = omega (arith, go (within d.lower d.upper e) d.units, cut_same ds e)
  where
    go : (b : Bool) (u : ℕ) → cond (differ b b) u 0 ≡ 0
    go true u = refl
    go false u = refl

pub cut_turned : (ds : List Demand) (e f : ℕ) → cut ds e f ≡ cut ds f e
cut_turned [] e f = refl
cut_turned (d ∷ ds) e f = omega (arith, go (within d.lower d.upper e) (within d.lower d.upper f) d.units, cut_turned ds e f)
  where
    go : (a b : Bool) (u : ℕ) → cond (differ a b) u 0 ≡ cond (differ b a) u 0
    go true true u = refl
    go true false u = refl
    go false true u = refl
    go false false u = refl

below : (n : ℕ) (ds : List Demand) (e f : ℕ) → 1 ≤ e → e < f → f ≤ n → cut ds e f ≤ heaviest n ds
below n ds e f a b c =
    let inner = le_most (f - 1) (λ e. cut ds e f) e (a, omega arith) in
    let outer = le_most n (λ f. most_of (f - 1) (λ e. cut ds e f)) f (omega arith, c) in
    omega arith

pub cut_le_heaviest : (n : ℕ) (ds : List Demand) (e f : ℕ) → Link n e → Link n f → cut ds e f ≤ heaviest n ds
cut_le_heaviest n ds e f le lf =
    ⊎_elim (λ (q : e ≡ f). omega (arith, ap (λ x. cut ds x f) q, cut_same ds f))
    (⊎_elim (λ (q : e < f). below n ds e f le.0 q lf.1) (λ (q : f < e). omega (arith, cut_turned ds e f, below n ds f e lf.0 q le.1)))
    (cases_order e f)

pub heaviest_le : (n : ℕ) (ds : List Demand) (b : ℕ) → ((e f : ℕ) → Link n e → Link n f → cut ds e f ≤ b) → heaviest n ds ≤ b
heaviest_le n ds b h =
    most_le n (λ f. most_of (f - 1) (λ e. cut ds e f)) b (λ f lf. most_le (f - 1) (λ e. cut ds e f) b (λ e le. h e f (le.0, omega (arith, le.1, lf.1)) lf))

-- where no cut of two links e < f is above b, nor is the heaviest
pub heaviest_pairs_le : (n : ℕ) (ds : List Demand) (b : ℕ) → ((e f : ℕ) → Pair n e f → cut ds e f ≤ b) → heaviest n ds ≤ b
heaviest_pairs_le n ds b h =
    most_le n (λ f. most_of (f - 1) (λ e. cut ds e f)) b (λ f lf. most_le (f - 1) (λ e. cut ds e f) b (λ e le. h e f (le.0, omega (arith, le.1, le.0), lf.1)))
