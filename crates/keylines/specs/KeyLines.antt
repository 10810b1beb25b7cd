-- A report for people and scripts alike: lines of a key and a value. Text is a list of bytes.
use Rattle.std.specs.Prelude.{ℕ, ◌/◌, ◌%◌, false, cond, ◌&&◌, List, [], ◌∷◌, ◌++◌, Some, None, codes, decimal, Option, ◌==◌, nat_le}
use Rattle.std.specs.List.{flat_map}
use Rattle.std.specs.Fmt.{digit_glyph}
use Rattle.keylines.specs.declared.Key.{Key}
use Rattle.keylines.specs.declared.Key.TheVariants.{Book, Nodes, Demands, Units, Slots, Refused, Line, Character, Needed, Place, Row, Met}
use Rattle.keylines.specs.declared.Entry.{Entry}

-- the names of the keys
abbrev pub key_name : Key → List ℕ
key_name Book = codes "book"
key_name Nodes = codes "nodes"
key_name Demands = codes "demands"
key_name Units = codes "units"
key_name Slots = codes "slots"
key_name Refused = codes "refused"
key_name Line = codes "line"
key_name Character = codes "character"
key_name Needed = codes "needed"
key_name Place = codes "place"
key_name Row = codes "row"
key_name Met = codes "met"

-- a line: the key, a space, the value, a line feed
abbrev pub key_line : List ℕ → List ℕ → List ℕ
key_line key value = key ++ (32 ∷ (value ++ (10 ∷ [])))

-- the line of an entry, with its number in decimal; none where it has no number
abbrev pub option_line : List ℕ → Option ℕ → List ℕ
option_line key (Some n) = key_line key (decimal n)
option_line key None = []

abbrev pub entry_line : Entry → List ℕ
entry_line e = option_line (key_name e.key) e.value

-- the lines of entries
abbrev pub entry_lines : List Entry → List ℕ
entry_lines es = flat_map entry_line es

-- numbers in decimal, each after a space
abbrev pub spaced_one : ℕ → List ℕ
spaced_one n = 32 ∷ decimal n

abbrev pub spaced : List ℕ → List ℕ
spaced ns = flat_map spaced_one ns

-- the lower-case hexadecimal digit of a value below 16
abbrev pub hex_digit : ℕ → ℕ
hex_digit v = digit_glyph false v

-- a byte as it is shown: a backslash twice, other printable ASCII as it is, anything else as \xNN
abbrev pub shown_byte : ℕ → List ℕ
shown_byte b =
    cond (b == 92) (92 ∷ 92 ∷ [])
    (cond (nat_le 32 b && nat_le b 126) (b ∷ [])
    (92 ∷ 120 ∷ hex_digit (b / 16) ∷ hex_digit (b % 16) ∷ []))

abbrev pub shown_bytes : List ℕ → List ℕ
shown_bytes bs = flat_map shown_byte bs
