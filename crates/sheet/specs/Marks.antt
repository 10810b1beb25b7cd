-- The sheet of marks. Mark k, counted from 0, is the union of the link masks of the units in slot k + 1.
use Rattle.std.specs.Prelude.{◌≡◌, ℕ, ◌+◌, Bool, not, List, [], ◌∷◌, replicate, ◌==◌, bit_and, bit_or, slice_index, slice_set}
use Rattle.std.specs.List.{prefix_len}
use Rattle.ring.specs.Sums.{count_of}

-- the marks are n, and nothing is on them
abbrev pub Blank : List ℕ → ℕ → Type 0
Blank marks n = marks ≡ replicate n 0

-- the mask w and the mark m have a link in common
abbrev pub meets : ℕ → ℕ → Bool
meets w m = not (bit_and m w == 0)

-- the place of the first mark that has no link in common with w
abbrev pub free_at : List ℕ → ℕ → ℕ
free_at marks w = prefix_len (meets w) marks

-- the marks after a unit with the mask w: its links are set in the first mark that is free for it, beside those that are set there
unfoldable pub marked : List ℕ → ℕ → List ℕ
marked marks w = slice_set marks (free_at marks w) (bit_or (slice_index marks (free_at marks w)) w)

-- the slots that units with the masks ws get, one after another
abbrev pub in_turn : List ℕ → List ℕ → List ℕ
in_turn marks [] = []
in_turn marks (w ∷ ws) = (1 + free_at marks w) ∷ in_turn (marked marks w) ws

-- how many marks are not 0
unfoldable pub used : List ℕ → ℕ
used marks = count_of (λ m. not (m == 0)) marks
