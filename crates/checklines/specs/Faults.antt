-- The first fault of a list that is gone through in order.
use Rattle.std.specs.Prelude.{◌≡◌, ℕ, Bool, ◌&&◌, List, [], ◌∷◌, ◌++◌, Some, None, Option, Result, MatchResult, nat_le}
use Rattle.std.specs.Option.{option_or}
use Rattle.refusals.specs.declared.Refusal.{Refusal}

-- the first fault of the elements, each beside those before it
abbrev pub first_fault : {X : Type 0} → (List X → X → Option Refusal) → List X → List X → Option Refusal
first_fault fault before [] = None
first_fault fault before (x ∷ xs) = option_or (fault before x) (first_fault fault (before ++ x ∷ []) xs)

-- whether k is one of low to high
abbrev pub from_to : ℕ → ℕ → ℕ → Bool
from_to low high k = nat_le low k && nat_le k high

-- the answer of a part of the check: it passes where there is no fault, and else gives the fault
abbrev pub Tells : {X : Type 0} → Result X Refusal → Option Refusal → Type 0
Tells r fault = MatchResult r (λ _. fault ≡ None) (λ f. fault ≡ Some f)
