-- Going through a list, each element with those before it.
use Rattle.std.proofs.Common.{◌≡◌, ℕ, suc, ◌+◌, ◌<◌, ◌≤◌, Bool, true, false, cond, ltb, List, [], ◌∷◌, ◌++◌, length, get_or, take, drop, Some, None, Option, sym, refl, ap, ◌∙◌, arith}
use Rattle.std.specs.List.{prefix_len, AllByRecursion as Each}
use Rattle.std.proofs.lemmas.List.{take_more, drop_more, drop_all}
use Rattle.std.proofs.ByRecursion.{All-push, All-weaker}
use Rattle.std.proofs.lemmas.Bool.{cond-false, or_parts}
use Rattle.std.proofs.lemmas.Bool.Decides.{nat_tests}
use Rattle.ring.specs.Sums.{some}
use Rattle.std.specs.Option.{option_or}
use Rattle.checklines.specs.Faults.{first_fault}
use Rattle.refusals.specs.declared.Refusal.{Refusal}

-- P of each element and those before it
abbrev pub Walk : {X : Type 0} → (List X → X → Type 0) → List X → List X → Type 0
Walk P before [] = Unit {0}
Walk P before (x ∷ xs) = P before x × Walk P (before ++ x ∷ []) xs

pub or_none : (o g : Option Refusal) → option_or o g ≡ None → (o ≡ None) × (g ≡ None)
or_none (Some f) g h = absurd (let z : ◌≡◌ {A = ℕ} 0 1 = cc in omega arith)
or_none None g h = (refl, h)

pub or_pass : (o g : Option Refusal) → o ≡ None → option_or o g ≡ g
or_pass o g h = ap (λ x. option_or x g) h

pub or_stop : (o g : Option Refusal) (f : Refusal) → o ≡ Some f → option_or o g ≡ Some f
or_stop o g f h = ap (λ x. option_or x g) h

-- a test of a chain
pub passed : (b : Bool) (f : Refusal) (g : Option Refusal) → cond b (Some f) g ≡ None → (b ≡ false) × (g ≡ None)
passed true f g h = absurd (let z : ◌≡◌ {A = ℕ} 0 1 = cc in omega arith)
passed false f g h = (refl, h)

pub pass : (b : Bool) (f : Refusal) (g : Option Refusal) → b ≡ false → g ≡ None → cond b (Some f) g ≡ None
pass b f g p h = cond-false b (Some f) g p ∙ h

pub walk_none : {X : Type 0} (fault : List X → X → Option Refusal) (before xs : List X) → first_fault fault before xs ≡ None → Walk (λ b x. fault b x ≡ None) before xs
walk_none fault before [] h = tt
walk_none fault before (x ∷ xs) h = let p = or_none (fault before x) (first_fault fault (before ++ x ∷ []) xs) h in (p.0, walk_none fault (before ++ x ∷ []) xs p.1)

pub none_walk : {X : Type 0} (fault : List X → X → Option Refusal) (before xs : List X) → Walk (λ b x. fault b x ≡ None) before xs → first_fault fault before xs ≡ None
none_walk fault before [] w = refl
none_walk fault before (x ∷ xs) w = or_pass (fault before x) (first_fault fault (before ++ x ∷ []) xs) w.0 ∙ none_walk fault (before ++ x ∷ []) xs w.1

pub walk_weaker : {X : Type 0} (P Q : List X → X → Type 0) → ((b : List X) (x : X) → P b x → Q b x) → (before xs : List X) → Walk P before xs → Walk Q before xs
walk_weaker P Q f before [] w = tt
walk_weaker P Q f before (x ∷ xs) w = (f before x w.0, walk_weaker P Q f (before ++ x ∷ []) xs w.1)

pub walk_both : {X : Type 0} (P Q : List X → X → Type 0) → (before xs : List X) → Walk P before xs → Walk Q before xs → Walk (λ b x. P b x × Q b x) before xs
walk_both P Q before [] v w = tt
walk_both P Q before (x ∷ xs) v w = ((v.0, w.0), walk_both P Q (before ++ x ∷ []) xs v.1 w.1)

-- what does not look at those before
pub walk_all : {X : Type 0} (P : X → Type 0) → (before xs : List X) → Walk (λ _ x. P x) before xs → Each P xs
walk_all P before [] w = tt
walk_all P before (x ∷ xs) w = (w.0, walk_all P (before ++ x ∷ []) xs w.1)

-- ---- what holds of an element and each one before it holds of an element and each one after it
abbrev pub Pairs : {X : Type 0} → (X → X → Type 0) → List X → Type 0
Pairs R [] = Unit {0}
Pairs R (x ∷ xs) = Each (R x) xs × Pairs R xs

pub all_split : {X : Type 0} (P : X → Type 0) (xs ys : List X) → Each P (xs ++ ys) → Each P xs × Each P ys
all_split P [] ys a = (tt, a)
all_split P (x ∷ xs) ys a = let r = all_split P xs ys a.1 in ((a.0, r.0), r.1)

all_zip : {X : Type 0} (P Q : X → Type 0) (xs : List X) → Each P xs → Each Q xs → Each (λ x. P x × Q x) xs
all_zip P Q [] a b = tt
all_zip P Q (x ∷ xs) a b = ((a.0, b.0), all_zip P Q xs a.1 b.1)

all_none : {X : Type 0} (R : X → X → Type 0) (before : List X) → Each (λ q. Each (R q) []) before
all_none R [] = tt
all_none R (x ∷ xs) = (tt, all_none R xs)

pub walk_pairs : {X : Type 0} (R : X → X → Type 0) (before xs : List X) → Walk (λ b x. Each (λ q. R q x) b) before xs → Each (λ q. Each (R q) xs) before × Pairs R xs
walk_pairs R before [] w = (all_none R before, tt)
walk_pairs R before (x ∷ xs) w =
    let ih = walk_pairs R (before ++ x ∷ []) xs w.1 in
    let e = all_split (λ q. Each (R q) xs) before (x ∷ []) ih.0 in
    (all_zip (λ q. R q x) (λ q. Each (R q) xs) before w.0 e.0, (e.1.0, ih.1))

pub pairs_walk : {X : Type 0} (R : X → X → Type 0) (before xs : List X) → Each (λ q. Each (R q) xs) before → Pairs R xs → Walk (λ b x. Each (λ q. R q x) b) before xs
pairs_walk R before [] a p = tt
pairs_walk R before (x ∷ xs) a p = (
  All-weaker (λ q. R q x × Each (R q) xs) (λ q. R q x) (λ q h. h.0) before a,
  pairs_walk R (before ++ x ∷ []) xs (All-push (λ q. Each (R q) xs) before x (All-weaker (λ q. R q x × Each (R q) xs) (λ q. Each (R q) xs) (λ q h. h.1) before a) p.0) p.1,
)

-- ---- one step of a loop
pub fault_step : {X : Type 0} (fault : List X → X → Option Refusal) (xs : List X) (i : ℕ) (d : X) → i < length xs →
    first_fault fault (take i xs) (drop i xs) ≡ option_or (fault (take i xs) (get_or xs i d)) (first_fault fault (take (i + 1) xs) (drop (i + 1) xs))
fault_step fault xs i d h =
    ap (first_fault fault (take i xs)) (drop_more xs i d h)
    ∙ ap (λ b. option_or (fault (take i xs) (get_or xs i d)) (first_fault fault b (drop (i + 1) xs))) (sym (take_more xs i d h))

-- ---- the longest front that passes
pub leading_all : {X : Type 0} (p : X → Bool) (xs : List X) → ltb (prefix_len p xs) (length xs) ≡ false → Each (λ x. p x ≡ true) xs
leading_all p [] h = tt
leading_all p (x ∷ xs) h = go (p x) refl (leading_all p xs) h
  where
    go : (b : Bool) → p x ≡ b → (ltb (prefix_len p xs) (length xs) ≡ false → Each (λ x. p x ≡ true) xs) → ltb (cond b (1 + prefix_len p xs) 0) (suc (length xs)) ≡ false → (p x ≡ true) × Each (λ x. p x ≡ true) xs
    go true e ih g = (e, ih (grind (arith, nat_tests)))
    go false e ih g = absurd (grind (arith, nat_tests))

pub all_leading : {X : Type 0} (p : X → Bool) (xs : List X) → Each (λ x. p x ≡ true) xs → ltb (prefix_len p xs) (length xs) ≡ false
all_leading p [] a = refl
all_leading p (x ∷ xs) a = ap (λ b. ltb (cond b (1 + prefix_len p xs) 0) (suc (length xs))) a.0 ∙ go (all_leading p xs a.1)
  where
    go : ltb (prefix_len p xs) (length xs) ≡ false → ltb (1 + prefix_len p xs) (suc (length xs)) ≡ false
    go h = grind (arith, nat_tests)

pub none_passes : {X : Type 0} (p : X → Bool) (xs : List X) → some p xs ≡ false → Each (λ x. p x ≡ false) xs
none_passes p [] h = tt
none_passes p (x ∷ xs) h = let e = or_parts (p x) (some p xs) h in (e.0, none_passes p xs e.1)

-- a loop that looks for the first fault: it stops, goes on, or ends
pub fault_stops : {X : Type 0} (fault : List X → X → Option Refusal) (xs : List X) (i : ℕ) (d : X) (all : Option Refusal) (f : Refusal) → i < length xs →
    first_fault fault (take i xs) (drop i xs) ≡ all → fault (take i xs) (get_or xs i d) ≡ Some f → all ≡ Some f
fault_stops fault xs i d all f l h e = sym h ∙ fault_step fault xs i d l ∙ or_stop (fault (take i xs) (get_or xs i d)) _ f e

pub fault_goes : {X : Type 0} (fault : List X → X → Option Refusal) (xs : List X) (i : ℕ) (d : X) (all : Option Refusal) → i < length xs →
    first_fault fault (take i xs) (drop i xs) ≡ all → fault (take i xs) (get_or xs i d) ≡ None → first_fault fault (take (i + 1) xs) (drop (i + 1) xs) ≡ all
fault_goes fault xs i d all l h e = sym (or_pass (fault (take i xs) (get_or xs i d)) _ e) ∙ sym (fault_step fault xs i d l) ∙ h

pub fault_ends : {X : Type 0} (fault : List X → X → Option Refusal) (xs : List X) (i : ℕ) (all : Option Refusal) → length xs ≤ i → first_fault fault (take i xs) (drop i xs) ≡ all → all ≡ None
fault_ends fault xs i all l h = sym h ∙ ap (first_fault fault (take i xs)) (drop_all i xs l)
