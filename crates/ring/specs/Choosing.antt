-- The first best of some candidates, each kept with its measure.
use Rattle.std.specs.Prelude.{◌≡◌, ℕ, ◌+◌, ◌-◌, ◌<◌, ◌≤◌, Bool, cond, List, length, nat_lt, slice_index_or, Option, None, Some, MatchOption}
use Rattle.std.specs.declared.cmp.Ordering.{Ordering}
use Rattle.std.specs.List.{range_with_len, IsFirstBest, best_of, fold}
use Rattle.std.specs.Ordering.{is_lt}
use Rattle.ring.specs.declared.choosing.Best.{Best}

-- one candidate beats another where its measure comes first in the order that `cmp` answers
abbrev pub beats : {C M : Type 0} → (M → M → Ordering) → Best C M → Best C M → Bool
beats cmp x y = is_lt (cmp x.measure y.measure)

-- the best so far, if there is one, or the next candidate where that beats it
abbrev pub kept : {C M : Type 0} → (M → M → Ordering) → Option (Best C M) → Best C M → Option (Best C M)
kept cmp None x = Some x
kept cmp (Some b) x = Some (cond (beats cmp x b) x b)

-- x is the first of all the candidates that no other beats: it stands at a place, nothing beats it, and it beats what stands before
abbrev pub FirstBest : {C M : Type 0} → (M → M → Ordering) → List (Best C M) → Best C M → Type 0
FirstBest cmp all x = (b : ℕ) × (b < length all) × (slice_index_or all b x ≡ x) × IsFirstBest (beats cmp) all (length all) b

-- what is kept of all the candidates, one after another: the first best of them, and none of none
abbrev pub first_best : {C M : Type 0} → (M → M → Ordering) → List (Best C M) → Option (Best C M)
first_best cmp all = fold (kept cmp) None all

abbrev pub IsFirstBestOf : {C M : Type 0} → (M → M → Ordering) → List (Best C M) → Option (Best C M) → Type 0
IsFirstBestOf cmp all r = (r ≡ first_best cmp all) × MatchOption r (length all ≡ 0) (λ x. FirstBest cmp all x)

-- ---- the first best of the numbers from a to b
-- the first that none of the others beats
abbrev pub first_from : (ℕ → ℕ → Bool) → ℕ → ℕ → ℕ
first_from wins a b = best_of wins a (range_with_len (a + 1) (b - a))

-- the first of 1 to n at which g is least
abbrev pub first_least : ℕ → (ℕ → ℕ) → ℕ
first_least n g = first_from (λ e f. nat_lt (g e) (g f)) 1 n

-- the first of a to b at which g is greatest
abbrev pub first_most : ℕ → ℕ → (ℕ → ℕ) → ℕ
first_most a b g = first_from (λ e f. nat_lt (g f) (g e)) a b

-- ---- the same in other words
abbrev pub FirstLeast : Type 0
FirstLeast = (n : ℕ) (g : ℕ → ℕ) → 1 ≤ n → ((1 ≤ first_least n g) × (first_least n g ≤ n))
    × ((e : ℕ) → 1 ≤ e → e ≤ n → g (first_least n g) ≤ g e)
    × ((e : ℕ) → 1 ≤ e → e < first_least n g → g (first_least n g) < g e)

abbrev pub FirstMost : Type 0
FirstMost = (a b : ℕ) (g : ℕ → ℕ) → a ≤ b → ((a ≤ first_most a b g) × (first_most a b g ≤ b))
    × ((e : ℕ) → a ≤ e → e ≤ b → g e ≤ g (first_most a b g))
    × ((e : ℕ) → a ≤ e → e < first_most a b g → g e < g (first_most a b g))
