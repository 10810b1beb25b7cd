-- How units change the marks, and how many marks they use.
use Rattle.std.proofs.Common.{◌≡◌, ℕ, suc, ◌+◌, ◌<◌, ◌≤◌, ◌==◌, nat_lt, Some, None, Bool, true, cond, not, eqb, List, [], ◌∷◌, ◌++◌, length, get_or, replicate, fold, sym, refl, ap, ◌∙◌, ⊎_elim, arith}
use lib.Bits.{bit_and, bit_or}
use Rattle.std.specs.List.{prefix_len, position}
use Rattle.ring.specs.Sums.{count_of}
use Rattle.std.proofs.lemmas.List.{length-set, set_past, replicate_more}
use Rattle.std.proofs.lemmas.List.Sums.{fold_push}
use Rattle.std.proofs.lemmas.Bool.{cond_both, cases_Bool, cases_lt, false≢true, lt-ltb, eqb-true, not_from_false, cond-true}
use Rattle.sheet.specs.Marks.{meets, free_at, marked, in_turn, used}
use Rattle.ring.proofs.Summing.{sum_set, count_cons, one_le}

pub leading_le_count : {X : Type 0} (p q : X → Bool) → ((x : X) → p x ≡ true → q x ≡ true) → (xs : List X) → prefix_len p xs ≤ count_of q xs
leading_le_count p q f [] = omega arith
leading_le_count p q f (x ∷ xs) =
    cond_both (p x) (1 + prefix_len p xs) 0 (λ k. k ≤ count_of q (x ∷ xs))
    (λ e. omega (arith, count_cons q x xs, cond-true {A = ℕ} (q x) 1 0 (f x e), leading_le_count p q f xs))
    (λ e. omega arith)

meets_used : (w m : ℕ) → meets w m ≡ true → not (eqb m 0) ≡ true
meets_used w m h =
    ⊎_elim (λ e. absurd (false≢true (sym (ap (meets w) (eqb-true m 0 e)) ∙ h))) (λ e. not_from_false (eqb m 0) e) (cases_Bool (eqb m 0))

pub free_le_used : (marks : List ℕ) (w : ℕ) → free_at marks w ≤ used marks
unfolding used
free_le_used marks w = leading_le_count (meets w) (λ m. not (eqb m 0)) (meets_used w) marks

-- where a mark is not used, one is found that is free for w
pub found : (marks : List ℕ) (w : ℕ) → used marks < length marks → position (λ m. bit_and m w == 0) marks ≡ Some (free_at marks w)
found marks w h =
    cond-true (nat_lt (free_at marks w) (length marks)) (Some (free_at marks w)) None (lt-ltb (free_at marks w) (length marks) (omega (arith, free_le_used marks w)))

pub length_marked : (marks : List ℕ) (w : ℕ) → length (marked marks w) ≡ length marks
unfolding marked
length_marked marks w = length-set marks (free_at marks w) (bit_or (get_or marks (free_at marks w) 0) w)

pub used_marked : (marks : List ℕ) (w : ℕ) → used (marked marks w) ≤ used marks + 1
unfolding used marked
used_marked marks w =
    let y : ℕ = bit_or (get_or marks (free_at marks w) 0) w in
    ⊎_elim
    (λ l. omega (arith, sum_set (λ m. cond (not (eqb m 0)) 1 0) marks (free_at marks w) y 0 l, one_le (not (eqb y 0))))
    (λ u. omega (arith, ap (count_of (λ m. not (eqb m 0))) (set_past marks (free_at marks w) y u)))
    (cases_lt (free_at marks w) (length marks))

pub in_turn_push : (ws : List ℕ) (marks : List ℕ) (w : ℕ) → in_turn marks (ws ++ w ∷ []) ≡ in_turn marks ws ++ (1 + free_at (fold marked marks ws) w) ∷ []
in_turn_push [] marks w = refl
in_turn_push (v ∷ ws) marks w = ap (λ t. (1 + free_at marks v) ∷ t) (in_turn_push ws (marked marks v) w)

pub length_in_turn : (ws : List ℕ) (marks : List ℕ) → length (in_turn marks ws) ≡ length ws
length_in_turn [] marks = refl
length_in_turn (w ∷ ws) marks = ap suc (length_in_turn ws (marked marks w))

pub used_folded : (ws : List ℕ) (marks : List ℕ) → used (fold marked marks ws) ≤ used marks + length ws
used_folded [] marks = omega arith
used_folded (w ∷ ws) marks = omega (arith, used_folded ws (marked marks w), used_marked marks w)

pub length_folded : (ws : List ℕ) (marks : List ℕ) → length (fold marked marks ws) ≡ length marks
length_folded [] marks = refl
length_folded (w ∷ ws) marks = length_folded ws (marked marks w) ∙ length_marked marks w

-- ---- the step of a loop that places units with the links w
pub marked_more : (marks : List ℕ) (w i : ℕ) → marked (fold marked marks (replicate i w)) w ≡ fold marked marks (replicate (i + 1) w)
marked_more marks w i = sym (fold_push marked marks (replicate i w) w) ∙ ap (fold marked marks) (replicate_more i w)

pub in_turn_more : (marks : List ℕ) (w i : ℕ) → in_turn marks (replicate i w) ++ (1 + free_at (fold marked marks (replicate i w)) w) ∷ [] ≡ in_turn marks (replicate (i + 1) w)
in_turn_more marks w i = sym (in_turn_push (replicate i w) marks w) ∙ ap (in_turn marks) (replicate_more i w)
