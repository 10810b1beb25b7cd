-- The lines of a text, and the form that a line has to have. A character is its code; 10 is the line feed.
use Rattle.std.specs.Prelude.{◌≡◌, ℕ, ◌+◌, ◌-◌, ◌%◌, ◌<◌, Bool, true, false, cond, ◌&&◌, List, [], ◌∷◌, ◌++◌, length, take, Ok, Err, Result, ◌==◌, nat_lt, slice_index, slice_index_or}
use Rattle.std.specs.List.{prefix_len, position_or_len}
use Rattle.lines.specs.declared.LineFault.{LineFault}
use Rattle.lines.specs.Hex.{is_digit, hex_of, bytes_of}

-- ---- lines
-- a character before the lines that follow it: it belongs to the first of them, or is a line of its own
abbrev pub ahead : ℕ → List (List ℕ) → List (List ℕ)
ahead c [] = (c ∷ []) ∷ []
ahead c (l ∷ ls) = (c ∷ l) ∷ ls

-- the lines of a text, each with its line feed; the last may lack it
abbrev pub lines_of : List ℕ → List (List ℕ)
lines_of [] = []
lines_of (c ∷ cs) = cond (c == 10) ((c ∷ []) ∷ lines_of cs) (ahead c (lines_of cs))

-- how many characters stand before the first line feed, or in all where there is none
abbrev pub line_length : List ℕ → ℕ
line_length text = position_or_len (λ c. c == 10) text

-- a line without its line feed
abbrev pub unfed : List ℕ → List ℕ
unfed l = take (line_length l) l

-- the line with a number, counted from 1, without its line feed: empty past the last
abbrev pub line_at : List ℕ → ℕ → List ℕ
line_at text number = unfed (slice_index_or (lines_of text) (number - 1) [])

-- ---- the form of a line
-- how many digits a line begins with
abbrev pub digits : List ℕ → ℕ
digits line = prefix_len is_digit line

-- whether a line may end after so many digits with this character: a line feed, after an even number of digits that is not 0
abbrev pub ends_line : ℕ → ℕ → Bool
ends_line next count = next == 10 && (nat_lt 0 count && count % 2 == 0)

abbrev pub formed_at : List ℕ → ℕ → Bool
formed_at l count = ends_line (slice_index l count) count

-- a line is well formed if it is digits, an even number of them and not none, and then its line feed
abbrev pub well_formed : List ℕ → Bool
well_formed l = formed_at l (digits l)

-- the fault of a line that is not well formed: the first character that is no digit, or, where the line ends with its digits, the place after
-- the last. Counted from 1, that is one more than the digits in both cases.
abbrev pub fault_of : ℕ → List ℕ → LineFault
fault_of number l = record { line = number; character = digits l + 1 }

-- the bytes of the line with a number, or its fault
abbrev pub line_bytes : ℕ → List ℕ → Result (List ℕ) LineFault
line_bytes number l = cond (well_formed l) (Ok (bytes_of (take (digits l) l))) (Err (fault_of number l))

-- the line of bytes
abbrev pub line_text : List ℕ → List ℕ
line_text bytes = hex_of bytes ++ (10 ∷ [])

-- ---- what a reader of a line is told
-- a text begins with a line that is well formed, and ds are the digits of that line; the text goes on after them
pub record DigitsOf (text ds : List ℕ) : Type 0 where
  pub formed : well_formed text ≡ true
  pub front : ds ≡ take (digits text) text
  pub count : length ds ≡ digits text
  pub more : length ds < length text

-- a character, counted from 1, is the first that breaks a line's form: all before it are digits, and it is none; a place after the last
-- character counts as none
pub record Breaks (l : List ℕ) (character : ℕ) : Type 0 where
  pub before : (k : ℕ) → k + 1 < character → is_digit (slice_index l k) ≡ true
  pub here : is_digit (slice_index l (character - 1)) ≡ false

-- the line that a text begins with is not well formed, and e is its fault
pub record Unformed (number : ℕ) (text : List ℕ) (e : LineFault) : Type 0 where
  pub not_formed : well_formed text ≡ false
  pub fault : e ≡ fault_of number text
  pub breaks : Breaks text e.character
