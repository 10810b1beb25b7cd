-- The first line of a text, and the rest of it.
use Rattle.std.proofs.Common.{◌≡◌, ℕ, zero, suc, ◌+◌, ◌-◌, ◌%◌, ◌<◌, ◌≤◌, Bool, true, false, cond, not, ◌&&◌, eqb, ltb, List, [], ◌∷◌, length, get_or, take, drop, Ok, Err, Option, Some, None, option_map, unwrap_or, slice_get, sym, refl, ap, ◌∙◌, inl, inr, add-one, one-add, arith}
use Rattle.std.specs.List.{prefix_len, slice_split, onto_first}
use Rattle.std.proofs.lemmas.Bool.Decides.{nat_tests}
use Rattle.std.proofs.lemmas.List.Sums.{prefix_len_passes, prefix_len_stops}
use Rattle.std.proofs.lemmas.Option.{unwrap_or-slice_get}
use Rattle.std.proofs.lemmas.List.Splits.{slice_split-cons_yes, slice_split-cons_no}
use Rattle.std.proofs.lemmas.List.{get_or-take, get_or_past, take-take}
use Rattle.std.proofs.lemmas.Bool.{eqb-true, eq-eqb, cases_Bool, cases_lt, cond-true, cond-false, and_parts}
use Rattle.lines.specs.declared.LineFault.{LineFault}
use Rattle.lines.specs.Hex.{is_digit, bytes_of}
use Rattle.lines.specs.Lines.{ahead, lines_of, line_length, digits, formed_at, well_formed, fault_of, line_bytes, unfed, Breaks, Unformed}
use Rattle.lines.proofs.Back.{leading_yes, leading_no}

-- a line feed is no digit
digit_no_feed : (c : ℕ) → is_digit c ≡ true → eqb c 10 ≡ false
digit_no_feed c h = grind (arith, nat_tests)

feed_no_digit : (c : ℕ) → eqb c 10 ≡ true → is_digit c ≡ false
feed_no_digit c h = grind (arith, nat_tests)

-- the length of a line, one character on
length_feed : (c : ℕ) (cs : List ℕ) → eqb c 10 ≡ true → line_length (c ∷ cs) ≡ 0
length_feed c cs h = leading_no (λ c. not (eqb c 10)) c cs (ap not h)

length_more : (c : ℕ) (cs : List ℕ) → eqb c 10 ≡ false → line_length (c ∷ cs) ≡ 1 + line_length cs
length_more c cs h = leading_yes (λ c. not (eqb c 10)) c cs (ap not h)

-- the digits that a text begins with stand in its first line
pub digits_le : (text : List ℕ) → digits text ≤ line_length text
digits_le [] = omega arith
digits_le (c ∷ cs) = elim (cases_Bool (is_digit c)) [
  | inl y ↦ omega (arith, leading_yes is_digit c cs y, length_more c cs (digit_no_feed c y), digits_le cs)
  | inr n ↦ omega (arith, leading_no is_digit c cs n)
]

-- a line feed ends the first line
pub feed_at : (text : List ℕ) (d : ℕ) → get_or text d 0 ≡ 10 → line_length text ≤ d
feed_at [] d h = omega arith
feed_at (c ∷ cs) zero h = omega (arith, length_feed c cs (eq-eqb c 10 h))
feed_at (c ∷ cs) (suc d) h = elim (cases_Bool (eqb c 10)) [
  | inl y ↦ omega (arith, length_feed c cs y)
  | inr n ↦ omega (arith, length_more c cs n, feed_at cs d h)
]

-- the first line has the digits that the text begins with
pub digits_first : (text : List ℕ) → digits (take (line_length text + 1) text) ≡ digits text
digits_first [] = refl
digits_first (c ∷ cs) = elim (cases_Bool (is_digit c)) [
  | inl y ↦ (let z : line_length (c ∷ cs) + 1 ≡ suc (line_length cs + 1) = omega (arith, length_more c cs (digit_no_feed c y)) in
      ap (λ n. digits (take n (c ∷ cs))) z ∙ leading_yes is_digit c (take (line_length cs + 1) cs) y ∙ ap (λ n. 1 + n) (digits_first cs) ∙ sym (leading_yes is_digit c cs y))
  | inr n ↦ (let z : line_length (c ∷ cs) + 1 ≡ suc (line_length (c ∷ cs)) = add-one (line_length (c ∷ cs)) in
      ap (λ k. digits (take k (c ∷ cs))) z ∙ leading_no is_digit c (take (line_length (c ∷ cs)) cs) n ∙ sym (leading_no is_digit c cs n))
]

-- the lines of a text are its first line and the lines of what follows it
ahead_first : (c : ℕ) (cs : List ℕ) → (0 < length cs → lines_of cs ≡ take (line_length cs + 1) cs ∷ lines_of (drop (line_length cs + 1) cs)) → ahead c (lines_of cs) ≡ (c ∷ take (line_length cs + 1) cs) ∷ lines_of (drop (line_length cs + 1) cs)
ahead_first c [] h = refl
ahead_first c (d ∷ ds) h = ap (ahead c) (h (omega arith))

pub lines_first : (text : List ℕ) → 0 < length text → lines_of text ≡ take (line_length text + 1) text ∷ lines_of (drop (line_length text + 1) text)
lines_first [] h = absurd (omega arith)
lines_first (c ∷ cs) h = elim (cases_Bool (eqb c 10)) [
  | inl y ↦ (let z : line_length (c ∷ cs) + 1 ≡ 1 = omega (arith, length_feed c cs y) in
      cond-true (eqb c 10) ((c ∷ []) ∷ lines_of cs) (ahead c (lines_of cs)) y ∙ sym (ap (λ n. take n (c ∷ cs) ∷ lines_of (drop n (c ∷ cs))) z))
  | inr n ↦ (let z : line_length (c ∷ cs) + 1 ≡ suc (line_length cs + 1) = omega (arith, length_more c cs n) in
      cond-false (eqb c 10) ((c ∷ []) ∷ lines_of cs) (ahead c (lines_of cs)) n ∙ ahead_first c cs (lines_first cs) ∙ sym (ap (λ n. take n (c ∷ cs) ∷ lines_of (drop n (c ∷ cs))) z))
]

-- the first line is read as the text is
pub bytes_first : (k : ℕ) (text : List ℕ) → line_bytes k (take (line_length text + 1) text) ≡ line_bytes k text
bytes_first k text =
    let l = take (line_length text + 1) text in
    let d = digits text in
    let below : d < line_length text + 1 = omega (arith, digits_le text) in
    let within : d ≤ line_length text + 1 = omega arith in
    let same : digits l ≡ d = digits_first text in
    let at : get_or l d 0 ≡ get_or text d 0 = get_or-take (line_length text + 1) text d 0 below in
    let front : take d l ≡ take d text = take-take d (line_length text + 1) text within in
    ap (λ n. cond (formed_at l n) (Ok (bytes_of (take n l))) (Err (record { line = k; character = n + 1 }))) same
    ∙ ap (λ c. cond (eqb c 10 && (ltb 0 d && eqb (d % 2) 0)) (Ok (bytes_of (take d l))) (Err (fault_of k text))) at
    ∙ ap (λ t. cond (well_formed text) (Ok (bytes_of t)) (Err (fault_of k text))) front

-- what follows a first line that is well formed
pub rest_first : (text : List ℕ) → well_formed text ≡ true → line_length text ≡ digits text
rest_first text h =
    let feed : get_or text (digits text) 0 ≡ 10 = eqb-true (get_or text (digits text) 0) 10 (and_parts (eqb (get_or text (digits text) 0) 10) (ltb 0 (digits text) && eqb (digits text % 2) 0) h).0 in
    omega (arith, digits_le text, feed_at text (digits text) feed)

-- a text cut at each line feed has its lines, without their line feeds
onto_head : (c : ℕ) (parts : List (List ℕ)) → get_or (onto_first c parts) 0 [] ≡ c ∷ get_or parts 0 []
onto_head c [] = refl
onto_head c (l ∷ ls) = refl

onto_later : (c : ℕ) (parts : List (List ℕ)) (k : ℕ) → get_or (onto_first c parts) (suc k) [] ≡ get_or parts (suc k) []
onto_later c [] k = refl
onto_later c (l ∷ ls) k = refl

ahead_head : (c : ℕ) (ls : List (List ℕ)) → get_or (ahead c ls) 0 [] ≡ c ∷ get_or ls 0 []
ahead_head c [] = refl
ahead_head c (l ∷ ls) = refl

ahead_later : (c : ℕ) (ls : List (List ℕ)) (k : ℕ) → get_or (ahead c ls) (suc k) [] ≡ get_or ls (suc k) []
ahead_later c [] k = refl
ahead_later c (l ∷ ls) k = refl

unfed_more : (c : ℕ) (l : List ℕ) → eqb c 10 ≡ false → unfed (c ∷ l) ≡ c ∷ unfed l
unfed_more c l n = ap (λ k. take k (c ∷ l)) (length_more c l n ∙ one-add (line_length l))

unfed_feed : (c : ℕ) (l : List ℕ) → eqb c 10 ≡ true → unfed (c ∷ l) ≡ []
unfed_feed c l y = ap (λ k. take k (c ∷ l)) (length_feed c l y)

pub cut_is : (text : List ℕ) (k : ℕ) → get_or (slice_split (λ c. eqb c 10) text) k [] ≡ unfed (get_or (lines_of text) k [])
cut_is [] zero = refl
cut_is [] (suc k) = refl
cut_is (c ∷ cs) k = elim (cases_Bool (eqb c 10)) [
  | inl y ↦ ap (λ (ps : List (List ℕ)). get_or ps k []) (slice_split-cons_yes (λ c. eqb c 10) c cs y) ∙ feed k y (λ j. cut_is cs j) ∙ sym (ap (λ (ls : List (List ℕ)). unfed (get_or ls k [])) (cond-true (eqb c 10) ((c ∷ []) ∷ lines_of cs) (ahead c (lines_of cs)) y))
  | inr n ↦ ap (λ (ps : List (List ℕ)). get_or ps k []) (slice_split-cons_no (λ c. eqb c 10) c cs n) ∙ more k n (λ j. cut_is cs j) ∙ sym (ap (λ (ls : List (List ℕ)). unfed (get_or ls k [])) (cond-false (eqb c 10) ((c ∷ []) ∷ lines_of cs) (ahead c (lines_of cs)) n))
]
  where
    feed : (k : ℕ) → eqb c 10 ≡ true → ((j : ℕ) → get_or (slice_split (λ c. eqb c 10) cs) j [] ≡ unfed (get_or (lines_of cs) j [])) → get_or ([] ∷ slice_split (λ c. eqb c 10) cs) k [] ≡ unfed (get_or ((c ∷ []) ∷ lines_of cs) k [])
    feed zero y rest = sym (unfed_feed c [] y)
    feed (suc k) y rest = rest k

    more : (k : ℕ) → eqb c 10 ≡ false → ((j : ℕ) → get_or (slice_split (λ c. eqb c 10) cs) j [] ≡ unfed (get_or (lines_of cs) j [])) → get_or (onto_first c (slice_split (λ c. eqb c 10) cs)) k [] ≡ unfed (get_or (ahead c (lines_of cs)) k [])
    more zero n rest = onto_head c (slice_split (λ c. eqb c 10) cs) ∙ ap (λ l. c ∷ l) (rest 0) ∙ sym (unfed_more c (get_or (lines_of cs) 0 []) n) ∙ sym (ap unfed (ahead_head c (lines_of cs)))
    more (suc k) n rest = onto_later c (slice_split (λ c. eqb c 10) cs) k ∙ rest (suc k) ∙ sym (ap unfed (ahead_later c (lines_of cs) k))

-- the part with a number, shown through f, or none where there are fewer
pub part_is : {A : Type 0} (f : A → List ℕ) (o : Option A) (d : A) (parts : List (List ℕ)) (k : ℕ) → option_map f o ≡ slice_get parts k → f d ≡ [] → f (unwrap_or o d) ≡ get_or parts k []
part_is f (Some x) d parts k e z = ap (λ o. unwrap_or o []) e ∙ unwrap_or-slice_get parts k []
part_is f None d parts k e z = z ∙ ap (λ o. unwrap_or o []) e ∙ unwrap_or-slice_get parts k []

-- the character of a fault is the first that breaks the form
leading_here : (p : ℕ → Bool) (xs : List ℕ) → p 0 ≡ false → p (get_or xs (prefix_len p xs) 0) ≡ false
leading_here p xs z = elim (cases_lt (prefix_len p xs) (length xs)) [
  | inl l ↦ prefix_len_stops p xs 0 l
  | inr past ↦ ap p (get_or_past xs (prefix_len p xs) 0 past) ∙ z
]

zero_no_digit : is_digit 0 ≡ false
zero_no_digit = refl

pub breaks_here : (text : List ℕ) (character : ℕ) → character ≡ digits text + 1 → Breaks text character
breaks_here text character e =
    let z : character - 1 ≡ digits text = omega arith in
    record {
      before = λ k l. prefix_len_passes is_digit text k 0 (omega arith);
      here = ap (λ n. is_digit (get_or text n 0)) z ∙ leading_here is_digit text zero_no_digit;
    }

pub unformed_here : (number : ℕ) (text : List ℕ) (e : LineFault) (n : ℕ) → n ≡ digits text → formed_at text n ≡ false → e ≡ record { line = number; character = n + 1 } → Unformed number text e
unformed_here number text e n k f h =
    let z : n + 1 ≡ digits text + 1 = omega arith in
    let same : e ≡ fault_of number text = h ∙ ap (λ (c : ℕ). record { line = number; character = c }) z in
    record { not_formed = ap (formed_at text) (sym k) ∙ f; fault = same; breaks = breaks_here text e.character (ap (λ (x : LineFault). x.character) same) }
