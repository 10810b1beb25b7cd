-- Writing into places that the caller has.
use Rattle.std.specs.Prelude.{ℕ, ◌+◌, List, [], ◌∷◌, slice_set}

-- what places hold after a list is written over them from a place on: the others stay
abbrev pub overwrite : {X : Type 0} → List X → ℕ → List X → List X
overwrite old at [] = old
overwrite old at (x ∷ xs) = overwrite (slice_set old at x) (at + 1) xs
