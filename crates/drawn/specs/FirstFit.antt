-- First fit. The slots so far are a list, slot 1 first, each with the units in it. `clash x y` says that x and y cannot stand in one slot.
use Rattle.std.specs.Prelude.{◌≡◌, ℕ, ◌+◌, Bool, false, cond, List, [], ◌∷◌, map, fold}
use Rattle.std.specs.List.{prefix_len}
use Rattle.ring.specs.Sums.{some}

-- a slot is taken for x if a unit in it clashes with x
abbrev pub taken : {X : Type 0} → (X → X → Bool) → X → List X → Bool
taken clash x slot = some (clash x) slot

-- the lowest slot that is free for x, counted from 1
abbrev pub lowest : {X : Type 0} → (X → X → Bool) → List (List X) → X → ℕ
lowest clash slots x = 1 + prefix_len (taken clash x) slots

-- x is put into the lowest slot that is free for it, which is a new one at the end if each is taken
abbrev pub put : {X : Type 0} → (X → X → Bool) → List (List X) → X → List (List X)
put clash [] x = (x ∷ []) ∷ []
put clash (s ∷ ss) x = cond (taken clash x s) (s ∷ put clash ss x) ((x ∷ s) ∷ ss)

-- units that are put one after another into slots that hold some already
abbrev pub fitted_after : {X : Type 0} → (X → X → Bool) → List (List X) → List X → List (List X)
fitted_after clash slots xs = fold (put clash) slots xs

-- the same from no slots
abbrev pub fitted : {X : Type 0} → (X → X → Bool) → List X → List (List X)
fitted clash xs = fitted_after clash [] xs

-- one unit a slot: the first unit in slot 1, the second in slot 2, and so on
abbrev pub one_each : {X : Type 0} → List X → List (List X)
one_each xs = map (λ x. x ∷ []) xs

-- no two of a list clash
abbrev pub Unclashing : {X : Type 0} → (X → X → Bool) → List X → Type 0
Unclashing clash [] = Unit {0}
Unclashing clash (x ∷ xs) = (some (clash x) xs ≡ false) × Unclashing clash xs
