-- The heaviest cut with its links: the first greatest in the order of the lower link, then of the upper one.
use Rattle.std.specs.Prelude.{◌≡◌, ℕ, ◌+◌, ◌-◌, ◌<◌, ◌≤◌, ◌⊎◌, List}
use Rattle.ring.specs.Ring.{cut, heaviest}
use Rattle.ring.specs.Choosing.{first_most}
use Rattle.ring.specs.declared.Demand.{Demand}
use Rattle.ring.specs.declared.Cut.{Cut}

-- the cut at the links e and f with its total
abbrev pub cut_at : List Demand → ℕ → ℕ → Cut
cut_at ds e f = record { first = e; second = f; total = cut ds e f }

-- the first of the links after e with which e has its heaviest cut
abbrev pub heaviest_after : ℕ → List Demand → ℕ → ℕ
heaviest_after n ds e = first_most (e + 1) n (cut ds e)

-- the first link that has a heaviest cut with a link after it
abbrev pub heaviest_first : ℕ → List Demand → ℕ
heaviest_first n ds = first_most 1 (n - 1) (λ e. cut ds e (heaviest_after n ds e))

abbrev pub heaviest_cut : ℕ → List Demand → Cut
heaviest_cut n ds = cut_at ds (heaviest_first n ds) (heaviest_after n ds (heaviest_first n ds))

-- ---- the same in other words
-- e < f are two links of the ring
abbrev pub Pair : ℕ → ℕ → ℕ → Type 0
Pair n e f = (1 ≤ e) × (e < f) × (f ≤ n)

-- the links e and f come before g and h, in the order of the lower link, then of the upper one
abbrev pub Before : ℕ → ℕ → ℕ → ℕ → Type 0
Before e f g h = (e < g) ⊎ ((e ≡ g) × (f < h))

-- c is a cut of the ring with its total, no cut is heavier, and each that comes before it is lighter
pub record HeaviestCut (n : ℕ) (ds : List Demand) (c : Cut) : Type 0 where
  pub links : Pair n c.first c.second
  pub counted : c.total ≡ cut ds c.first c.second
  pub greatest : c.total ≡ heaviest n ds
  pub none_heavier : (e f : ℕ) → Pair n e f → cut ds e f ≤ c.total
  pub first_such : (e f : ℕ) → Pair n e f → Before e f c.first c.second → cut ds e f < c.total
