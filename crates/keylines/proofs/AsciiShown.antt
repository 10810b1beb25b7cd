-- What is shown of bytes is ASCII.
use Rattle.std.proofs.Common.{ℕ, suc, ◌<◌, ◌/◌, ◌%◌, List, [], ◌∷◌, get_or, rules, arith}
use Rattle.std.specs.Str.{IsAscii}
use Rattle.std.proofs.lemmas.Bool.Decides.{nat_tests}
use Rattle.std.proofs.lemmas.Str.{IsAscii-append}
use Rattle.std.proofs.lemmas.Str.Ascii.{IsAscii-nil, IsAscii-cons}
use Rattle.keylines.specs.KeyLines.{shown_byte, shown_bytes, hex_digit}

hex_digit_small : (v : ℕ) → v < 16 → hex_digit v < 128
hex_digit_small v small = grind (arith, nat_tests)

IsAscii-shown_byte : (b : ℕ) → b < 256 → IsAscii (shown_byte b)
IsAscii-shown_byte b small =
    let high : hex_digit (b / 16) < 128 = hex_digit_small (b / 16) (omega arith) in
    let low : hex_digit (b % 16) < 128 = hex_digit_small (b % 16) (omega arith) in
    search (rules, IsAscii-nil, IsAscii-cons, nat_tests)

pub IsAscii-shown_bytes : (bs : List ℕ) → ((i : ℕ) → get_or bs i 0 < 256) → IsAscii (shown_bytes bs)
IsAscii-shown_bytes [] small = IsAscii-nil
IsAscii-shown_bytes (b ∷ bs) small =
    IsAscii-append (shown_byte b) (shown_bytes bs) (IsAscii-shown_byte b (small 0)) (IsAscii-shown_bytes bs (λ i. small (suc i)))
