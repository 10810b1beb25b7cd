-- A line of bytes is well formed, and its bytes read back.
use Rattle.std.proofs.Common.{◌≡◌, ℕ, ◌+◌, ◌*◌, ◌/◌, ◌%◌, ◌<◌, Bool, true, false, cond, eqb, List, [], ◌∷◌, ◌++◌, length, get_or, take, Ok, sym, refl, ap, ◌∙◌, arith}
use Rattle.std.specs.List.{prefix_len, AllByRecursion as Each}
use Rattle.std.proofs.lemmas.Bool.Decides.{nat_tests}
use Rattle.std.proofs.lemmas.List.{take_at, get_or_at}
use Rattle.std.proofs.lemmas.Bool.{and_from, eq-eqb, lt-ltb, cond-true}
use Rattle.lines.specs.Hex.{digit_char, is_digit, value_of, hex_of, bytes_of}
use Rattle.lines.specs.Lines.{ahead, lines_of, digits, well_formed, line_bytes, line_text}

-- the character of a digit is a digit, no line feed, and has the digit's value
pub char_is : (v : ℕ) → v < 16 → is_digit (digit_char v) ≡ true
char_is v h = grind (arith, nat_tests)

pub char_no_feed : (v : ℕ) → v < 16 → eqb (digit_char v) 10 ≡ false
char_no_feed v h = grind (arith, nat_tests)

pub char_value : (v : ℕ) → v < 16 → value_of (digit_char v) ≡ v
char_value v h = grind (arith, nat_tests)

pub feed_is_none : is_digit 10 ≡ false
feed_is_none = refl

-- bytes read back from their digits
pub bytes_back : (bs : List ℕ) → Each (λ b. b < 256) bs → bytes_of (hex_of bs) ≡ bs
bytes_back [] h = refl
bytes_back (b ∷ bs) (h, hs) =
    let e : 16 * value_of (digit_char (b / 16)) + value_of (digit_char (b % 16)) ≡ b = omega (arith, char_value (b / 16) (omega arith), char_value (b % 16) (omega arith)) in
    rw (e, bytes_back bs hs)

-- one more digit
pub leading_yes : (p : ℕ → Bool) (x : ℕ) (xs : List ℕ) → p x ≡ true → prefix_len p (x ∷ xs) ≡ 1 + prefix_len p xs
leading_yes p x xs h = ap (λ b. cond b (1 + prefix_len p xs) 0) h

pub leading_no : (p : ℕ → Bool) (x : ℕ) (xs : List ℕ) → p x ≡ false → prefix_len p (x ∷ xs) ≡ 0
leading_no p x xs h = ap (λ b. cond b (1 + prefix_len p xs) 0) h

pub length_hex_of : (bs : List ℕ) → length (hex_of bs) ≡ 2 * length bs
length_hex_of [] = refl
length_hex_of (b ∷ bs) = omega (arith, length_hex_of bs)

pub digits_text : (bs rest : List ℕ) → Each (λ b. b < 256) bs → digits (hex_of bs ++ 10 ∷ rest) ≡ 2 * length bs
digits_text [] rest h = leading_no is_digit 10 rest feed_is_none
digits_text (b ∷ bs) rest (h, hs) =
    omega (arith, leading_yes is_digit (digit_char (b / 16)) (digit_char (b % 16) ∷ (hex_of bs ++ 10 ∷ rest)) (char_is (b / 16) (omega arith)), leading_yes is_digit (digit_char (b % 16)) (hex_of bs ++ 10 ∷ rest) (char_is (b % 16) (omega arith)), digits_text bs rest hs)

-- a line of bytes is well formed, and its bytes are those
pub formed_text : (bs : List ℕ) → Each (λ b. b < 256) bs → 0 < length bs → well_formed (line_text bs) ≡ true
formed_text bs h pos =
    let n : digits (line_text bs) ≡ 2 * length bs = digits_text bs [] h in
    let at : get_or (line_text bs) (digits (line_text bs)) 0 ≡ 10 = get_or_at (hex_of bs) 10 [] 0 (digits (line_text bs)) (length_hex_of bs ∙ sym n) in
    let some : 0 < digits (line_text bs) = omega arith in
    let even : digits (line_text bs) % 2 ≡ 0 = omega arith in
    and_from _ _ (eq-eqb _ _ at) (and_from _ _ (lt-ltb _ _ some) (eq-eqb _ _ even))

pub line_back : (number : ℕ) (bs : List ℕ) → Each (λ b. b < 256) bs → 0 < length bs → line_bytes number (line_text bs) ≡ Ok bs
line_back number bs h pos =
    let n : digits (line_text bs) ≡ 2 * length bs = digits_text bs [] h in
    let front : take (digits (line_text bs)) (line_text bs) ≡ hex_of bs = take_at (hex_of bs) (10 ∷ []) (digits (line_text bs)) (length_hex_of bs ∙ sym n) in
    cond-true (well_formed (line_text bs)) _ _ (formed_text bs h pos) ∙ ap (λ (ds : List ℕ). Ok (bytes_of ds)) front ∙ ap Ok (bytes_back bs h)

-- the lines of a text that begins with a line of bytes
lines_feed : (c : ℕ) (cs : List ℕ) → eqb c 10 ≡ false → lines_of (c ∷ cs) ≡ ahead c (lines_of cs)
lines_feed c cs h = ap (λ b. cond b ((c ∷ []) ∷ lines_of cs) (ahead c (lines_of cs))) h

pub lines_text : (bs rest : List ℕ) → Each (λ b. b < 256) bs → lines_of (line_text bs ++ rest) ≡ line_text bs ∷ lines_of rest
lines_text [] rest h = refl
lines_text (b ∷ bs) rest (h, hs) =
    lines_feed (digit_char (b / 16)) (digit_char (b % 16) ∷ (line_text bs ++ rest)) (char_no_feed (b / 16) (omega arith))
    ∙ ap (ahead (digit_char (b / 16))) (lines_feed (digit_char (b % 16)) (line_text bs ++ rest) (char_no_feed (b % 16) (omega arith)) ∙ ap (ahead (digit_char (b % 16))) (lines_text bs rest hs))
