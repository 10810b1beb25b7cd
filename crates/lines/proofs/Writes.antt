-- Lists written over places, and the lines and bytes written so.
use Rattle.std.proofs.Common.{◌≡◌, ℕ, suc, ◌+◌, ◌*◌, ◌/◌, ◌<◌, ◌≤◌, List, [], ◌∷◌, ◌++◌, map, length, get_or, take, drop, set, sym, refl, ap, ◌∙◌, arith}
use Rattle.std.proofs.lemmas.List.{length-set, take_more_set, drop-set-lt, append_assoc, take-append-drop}
use Rattle.std.specs.Simd.{first_chunks}
use Rattle.lines.specs.Hex.{value_of, bytes_of}
use Rattle.lines.specs.Writes.{overwrite}

-- one list after another
pub over_append : {X : Type 0} (old : List X) (at : ℕ) (xs ys : List X) → overwrite old at (xs ++ ys) ≡ overwrite (overwrite old at xs) (at + length xs) ys
over_append old at [] ys = let z : at ≡ at + 0 = omega arith in ap (λ n. overwrite old n ys) z
over_append old at (x ∷ xs) ys =
    let z : at + 1 + length xs ≡ at + suc (length xs) = omega arith in
    over_append (set old at x) (at + 1) xs ys ∙ ap (λ n. overwrite (overwrite (set old at x) (at + 1) xs) n ys) z

pub length_over : {X : Type 0} (old : List X) (at : ℕ) (xs : List X) → length (overwrite old at xs) ≡ length old
length_over old at [] = refl
length_over old at (x ∷ xs) = length_over (set old at x) (at + 1) xs ∙ length-set old at x

-- what is written stands there, between what stood before it and after it
pub over_is : {X : Type 0} (old : List X) (at : ℕ) (xs : List X) → at + length xs ≤ length old → overwrite old at xs ≡ take at old ++ (xs ++ drop (at + length xs) old)
over_is old at [] h = let z : at ≡ at + 0 = omega arith in sym (take-append-drop at old) ∙ ap (λ n. take at old ++ drop n old) z
over_is old at (x ∷ xs) h =
    let lt : at < length old = omega arith in
    let fit : at + 1 + length xs ≤ length (set old at x) = omega (arith, length-set old at x) in
    let z : at + 1 + length xs ≡ at + suc (length xs) = omega arith in
    let past : at < at + suc (length xs) = omega arith in
    over_is (set old at x) (at + 1) xs fit
    ∙ ap (λ f. f ++ (xs ++ drop (at + 1 + length xs) (set old at x))) (take_more_set old at x lt)
    ∙ append_assoc (take at old) (x ∷ []) (xs ++ drop (at + 1 + length xs) (set old at x))
    ∙ ap (λ n. take at old ++ (x ∷ (xs ++ drop n (set old at x)))) z
    ∙ ap (λ r. take at old ++ (x ∷ (xs ++ r))) (drop-set-lt (at + suc (length xs)) old at x past)

-- the byte of two digits
abbrev pub byte_at : List ℕ → ℕ
byte_at pair = 16 * value_of (get_or pair 0 0) + value_of (get_or pair 1 0)

-- digits two by two are their bytes
pub bytes_of_pairs : (ds : List ℕ) → map byte_at (first_chunks 2 (length ds / 2) ds) ≡ bytes_of ds
bytes_of_pairs [] = refl
bytes_of_pairs (d ∷ []) = refl
bytes_of_pairs (d ∷ e ∷ ds) =
    let z : length (d ∷ e ∷ ds) / 2 ≡ suc (length ds / 2) = omega arith in
    ap (λ n. map byte_at (first_chunks 2 n (d ∷ e ∷ ds))) z ∙ ap (λ bs. (16 * value_of d + value_of e) ∷ bs) (bytes_of_pairs ds)

-- two digits a byte
pub length_bytes_of : (ds : List ℕ) → length (bytes_of ds) ≡ length ds / 2
length_bytes_of [] = refl
length_bytes_of (d ∷ []) = refl
length_bytes_of (d ∷ e ∷ ds) = omega (arith, length_bytes_of ds)
