-- Writing a list into the front of places that the caller has: a text into bytes, a node's rows into rows.
use Rattle.std.specs.Prelude.{ℕ, cond, List, ◌++◌, length, drop, Ok, Err, Result, nat_le}
use Rattle.refusals.specs.declared.Refusal.{Refusal}
use Rattle.refusals.specs.declared.Refusal.TheVariants.{TooFew}

-- what the places hold then: the list, and past it what they held; all that they held if they are too few
abbrev pub fronted : {X : Type 0} → List X → List X → List X
fronted xs old = cond (nat_le (length xs) (length old)) (xs ++ drop (length xs) old) old

-- the answer: the text's length, which is also the count needed if the bytes are too few
abbrev pub fronting : List ℕ → List ℕ → Result ℕ Refusal
fronting text old = cond (nat_le (length text) (length old)) (Ok (length text)) (Err (TooFew (length text)))
