-- The first place of a list that passes a test.
use Rattle.std.proofs.Common.{◌≡◌, ℕ, suc, ◌+◌, Bool, true, false, cond, not, ◌||◌, eqb, ltb, List, [], ◌∷◌, length, Some, None, Option, MatchOption, sym, refl, ap, ◌∙◌, subst, arith}
use Rattle.std.specs.List.{prefix_len, position_or_len, position}
use Rattle.std.proofs.lemmas.Bool.{ltb-true}
use Rattle.std.proofs.lemmas.Bool.Decides.{nat_tests}
use Rattle.std.specs.Option.{option_map}
use Rattle.refusals.specs.declared.Refusal.{Refusal}
use Rattle.refusals.specs.declared.Refusal.TheVariants.{CountWrong}
use Rattle.ring.specs.Sums.{some}
use Rattle.ring.specs.Ring.{named}
use Rattle.ring.specs.declared.Demand.{Demand}
use Rattle.ring.specs.declared.Row.{Row}
use Rattle.checkrows.specs.Rows.{is_full, counts_fault}
use Rattle.checkrows.specs.Track.{line_of, LineOf}

-- a test of one element more, and the first place that passes
one_more : (b t : Bool) (k n : ℕ) → t ≡ ltb k n → (b || t) ≡ ltb (cond (not b) (1 + k) 0) (suc n)
one_more true t k n ih = grind (arith, nat_tests)
one_more false t k n ih = ih ∙ grind (arith, nat_tests)

-- some element passes where the first that does stands in the list
pub some_place : {X : Type 0} (p : X → Bool) (xs : List X) → some p xs ≡ ltb (position_or_len p xs) (length xs)
some_place p [] = refl
some_place p (x ∷ xs) = one_more (p x) (some p xs) (position_or_len p xs) (length xs) (some_place p xs)

named_place : (ds : List Demand) (k : ℕ) → named ds k ≡ ltb (line_of ds k) (length ds)
named_place [] k = refl
named_place (d ∷ ds) k = one_more (eqb d.number k) (named ds k) (line_of ds k) (length ds) (named_place ds k)

-- what the search for a line says
pub line_found : (ds : List Demand) (k : ℕ) (o : Option ℕ) → o ≡ position (λ (d : Demand). eqb d.number k) ds → MatchOption o (named ds k ≡ false) (LineOf ds k)
line_found ds k o e = subst (λ (o : Option ℕ). MatchOption o (named ds k ≡ false) (LineOf ds k)) (sym e) (go (ltb (line_of ds k) (length ds)) refl)
  where
    go : (b : Bool) → ltb (line_of ds k) (length ds) ≡ b → MatchOption (cond b (Some (line_of ds k)) None) (named ds k ≡ false) (LineOf ds k)
    go true h = record { place = refl; inside = ltb-true _ _ h; known = named_place ds k ∙ h }
    go false h = named_place ds k ∙ h

-- what the search for a line with too few or too many rows says
prefix_same : {X : Type 0} (p q : X → Bool) → ((x : X) → p x ≡ q x) → (xs : List X) → prefix_len p xs ≡ prefix_len q xs
prefix_same p q h [] = refl
prefix_same p q h (x ∷ xs) = ap (λ b. cond b (1 + prefix_len p xs) 0) (h x) ∙ ap (λ k. cond (q x) (1 + k) 0) (prefix_same p q h xs)

pub counts_found : (ds : List Demand) (rows : List Row) (o : Option ℕ) → o ≡ position (λ (d : Demand). not (is_full rows d)) ds → counts_fault ds rows ≡ option_map (λ i. CountWrong (i + 1)) o
counts_found ds rows o e = ap place_fault (prefix_same (is_full rows) (λ (d : Demand). not (not (is_full rows d))) (λ d. twice (is_full rows d)) ds) ∙ go (ltb at (length ds)) ∙ ap (option_map (λ i. CountWrong (i + 1))) (sym e)
  where
    at : ℕ
    at = position_or_len (λ (d : Demand). not (is_full rows d)) ds

    place_fault : ℕ → Option Refusal
    place_fault k = cond (ltb k (length ds)) (Some (CountWrong (k + 1))) None

    twice : (b : Bool) → b ≡ not (not b)
    twice true = refl
    twice false = refl

    go : (b : Bool) → cond b (Some (CountWrong (at + 1))) None ≡ option_map (λ i. CountWrong (i + 1)) (cond b (Some at) None)
    go true = refl
    go false = refl
