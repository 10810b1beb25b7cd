-- Bytes as lower-case hexadecimal digits.
use Rattle.std.specs.Prelude.{ℕ, ◌+◌, ◌-◌, ◌*◌, ◌/◌, ◌%◌, Bool, cond, ◌&&◌, ◌||◌, List, [], ◌∷◌, nat_le, nat_lt}

-- the character of a value 0 to 15: '0' to '9', then 'a' to 'f'
abbrev pub digit_char : ℕ → ℕ
digit_char v = cond (nat_lt v 10) (48 + v) (87 + v)

-- whether a character is '0' to '9' or 'a' to 'f'
abbrev pub is_digit : ℕ → Bool
is_digit c = (nat_le 48 c && nat_le c 57) || (nat_le 97 c && nat_le c 102)

-- the value of a digit's character, and 0 of any other character
abbrev pub value_of : ℕ → ℕ
value_of c = cond (nat_le 48 c && nat_le c 57) (c - 48) (cond (nat_le 97 c && nat_le c 102) (c - 87) 0)

-- the digits of bytes, two for each byte, the higher first
abbrev pub hex_of : List ℕ → List ℕ
hex_of [] = []
hex_of (b ∷ bs) = digit_char (b / 16) ∷ digit_char (b % 16) ∷ hex_of bs

-- the bytes that digits stand for, two digits a byte; an odd digit at the end is left out
abbrev pub bytes_of : List ℕ → List ℕ
bytes_of [] = []
bytes_of (h ∷ []) = []
bytes_of (h ∷ l ∷ ds) = (16 * value_of h + value_of l) ∷ bytes_of ds
