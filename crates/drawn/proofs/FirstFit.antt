-- What holds of any first fit.
use Rattle.std.proofs.Common.{◌≡◌, ℕ, ◌+◌, ◌≤◌, max, Bool, true, false, cond, List, [], ◌∷◌, ◌++◌, map, length, fold, sym, refl, ap, ◌∙◌, subst, ⊎_elim, arith}
use Rattle.std.specs.List.{prefix_len, AllByRecursion as Each}
use Rattle.ring.specs.Sums.{sum_of, count_of, some}
use Rattle.std.proofs.lemmas.List.{append_assoc, append-nil, map-append}
use Rattle.std.proofs.ByRecursion.{All-push, All-map, All-weaker, All-append}
use Rattle.ring.proofs.Summing.{sum_cons, sum_append, count_cons, all_of, count_le_length}
use Rattle.std.proofs.lemmas.List.Sums.{fold_push, prefix_len-le-length}
use Rattle.std.proofs.lemmas.Bool.{cond_both, cases_Bool, cond-true, cond-false, or_cases, or_left, false≢true}
use Rattle.drawn.specs.FirstFit.{taken, lowest, put, fitted, Unclashing}

-- what each step keeps, a fold keeps
pub folded_keeps : {A B : Type 0} (f : B → A → B) (P : B → Type 0) → ((b : B) (a : A) → P b → P (f b a)) → (xs : List A) (b : B) → P b → P (fold f b xs)
folded_keeps f P step [] b h = h
folded_keeps f P step (x ∷ xs) b h = folded_keeps f P step xs (f b x) (step b x h)

-- ---- no two of a slot clash
pub put_apart : {X : Type 0} (clash : X → X → Bool) (ss : List (List X)) (x : X) → Each (Unclashing clash) ss → Each (Unclashing clash) (put clash ss x)
put_apart clash [] x h = ((refl, tt), tt)
put_apart clash (s ∷ ss) x h =
    cond_both (taken clash x s) (s ∷ put clash ss x) ((x ∷ s) ∷ ss) (Each (Unclashing clash))
    (λ e. (h.0, put_apart clash ss x h.1))
    (λ e. ((e, h.0), h.1))

pub fitted_apart : {X : Type 0} (clash : X → X → Bool) (xs : List X) → Each (Unclashing clash) (fitted clash xs)
fitted_apart clash xs = folded_keeps (put clash) (Each (Unclashing clash)) (put_apart clash) xs [] tt

-- ---- how many units, of those that pass p, stand in the slots
abbrev pub total : {X : Type 0} → (X → Bool) → List (List X) → ℕ
total p ss = sum_of (λ s. count_of p s) ss

pub total_cons : {X : Type 0} (p : X → Bool) (s : List X) (ss : List (List X)) → total p (s ∷ ss) ≡ count_of p s + total p ss
total_cons p s ss = sum_cons (λ t. count_of p t) s ss

pub total_put : {X : Type 0} (clash : X → X → Bool) (p : X → Bool) (ss : List (List X)) (x : X) → total p (put clash ss x) ≡ total p ss + cond (p x) 1 0
total_put clash p [] x = omega (arith, total_cons p (x ∷ []) [], count_cons p x [])
total_put clash p (s ∷ ss) x =
    cond_both (taken clash x s) (s ∷ put clash ss x) ((x ∷ s) ∷ ss) (λ t. total p t ≡ total p (s ∷ ss) + cond (p x) 1 0)
    (λ e. omega (arith, total_cons p s (put clash ss x), total_cons p s ss, total_put clash p ss x))
    (λ e. omega (arith, total_cons p (x ∷ s) ss, total_cons p s ss, count_cons p x s))

pub total_fold : {X : Type 0} (clash : X → X → Bool) (p : X → Bool) (xs : List X) (ss : List (List X)) → total p (fold (put clash) ss xs) ≡ total p ss + count_of p xs
total_fold clash p [] ss = omega arith
total_fold clash p (x ∷ xs) ss = omega (arith, total_fold clash p xs (put clash ss x), total_put clash p ss x, count_cons p x xs)

-- ---- a slot that is taken holds a unit that clashes
pub some_count : {X : Type 0} (p : X → Bool) (xs : List X) → some p xs ≡ true → 1 ≤ count_of p xs
some_count p [] h = absurd (false≢true h)
some_count p (x ∷ xs) h =
    ⊎_elim
    (λ e. omega (arith, count_cons p x xs, cond-true {A = ℕ} (p x) 1 0 e))
    (λ e. omega (arith, count_cons p x xs, some_count p xs e))
    (or_cases (p x) (some p xs) h)

pub leading_total : {X : Type 0} (clash : X → X → Bool) (x : X) (ss : List (List X)) → prefix_len (taken clash x) ss ≤ total (clash x) ss
leading_total clash x [] = omega arith
leading_total clash x (s ∷ ss) =
    cond_both (taken clash x s) (1 + prefix_len (taken clash x) ss) 0 (λ k. k ≤ total (clash x) (s ∷ ss))
    (λ e. omega (arith, total_cons (clash x) s ss, some_count (clash x) s e, leading_total clash x ss))
    (λ e. omega arith)

-- a unit's slot is at most one more than the units placed before that clash with it
pub lowest_le : {X : Type 0} (clash : X → X → Bool) (xs : List X) (x : X) → lowest clash (fitted clash xs) x ≤ 1 + count_of (clash x) xs
lowest_le clash xs x = omega (arith, leading_total clash x (fitted clash xs), total_fold clash (clash x) xs [])

-- ---- the number of slots
pub length_put : {X : Type 0} (clash : X → X → Bool) (ss : List (List X)) (x : X) → length (put clash ss x) ≡ max (length ss) (lowest clash ss x)
length_put clash [] x = refl
length_put clash (s ∷ ss) x =
    cond_both (taken clash x s) (s ∷ put clash ss x) ((x ∷ s) ∷ ss) (λ t. length t ≡ max (length (s ∷ ss)) (1 + cond (taken clash x s) (1 + prefix_len (taken clash x) ss) 0))
    (λ e. omega (arith, cond-true (taken clash x s) (1 + prefix_len (taken clash x) ss) 0 e, length_put clash ss x))
    (λ e. omega (arith, cond-false (taken clash x s) (1 + prefix_len (taken clash x) ss) 0 e))

pub length_fitted_le : {X : Type 0} (clash : X → X → Bool) (xs : List X) (ss : List (List X)) → length (fold (put clash) ss xs) ≤ length ss + length xs
length_fitted_le clash [] ss = omega arith
length_fitted_le clash (x ∷ xs) ss = omega (arith, length_fitted_le clash xs (put clash ss x), length_put clash ss x, prefix_len-le-length (taken clash x) ss)

-- ---- units in a line
-- each of a list before each later one
abbrev pub Led : {X : Type 0} → (X → X → Type 0) → List X → Type 0
Led R [] = Unit {0}
Led R (x ∷ xs) = Each (R x) xs × Led R xs

pub count_implied : {X : Type 0} (p q : X → Bool) (xs : List X) → Each (λ x. p x ≡ true → q x ≡ true) xs → count_of p xs ≤ count_of q xs
count_implied p q [] h = omega arith
count_implied p q (x ∷ xs) h =
    ⊎_elim
    (λ e. omega (arith, count_cons p x xs, count_cons q x xs, cond-true {A = ℕ} (p x) 1 0 e, cond-true {A = ℕ} (q x) 1 0 (h.0 e), count_implied p q xs h.1))
    (λ e. omega (arith, count_cons p x xs, count_cons q x xs, cond-false {A = ℕ} (p x) 1 0 e, count_implied p q xs h.1))
    (cases_Bool (p x))

pub all_both : {X : Type 0} (P Q R : X → Type 0) → ((x : X) → P x → Q x → R x) → (xs : List X) → Each P xs → Each Q xs → Each R xs
all_both P Q R f [] h k = tt
all_both P Q R f (x ∷ xs) h k = (f x h.0 k.0, all_both P Q R f xs h.1 k.1)

-- Units are placed after those of `first`. Where each that clashes with a later one touches it, those that touch a unit bound its slot.
module _ {X : Type 0} (clash touches : X → X → Bool) (first : List X) where
  -- x stands before y
  abbrev pub Leads : X → X → Type 0
  Leads x y = clash y x ≡ true → touches y x ≡ true

  pub slot_bound : (done left : List X) (x : X) → Each (λ y. Leads y x) done → touches x x ≡ true →
      lowest clash (fitted clash (first ++ done)) x ≤ length first + count_of (touches x) (done ++ x ∷ left)
  slot_bound done left x lead own =
      omega (
        arith,
        lowest_le clash (first ++ done) x,
        sum_append (λ y. cond (clash x y) 1 0) first done,
        count_le_length (clash x) first,
        count_implied (clash x) (touches x) done lead,
        sum_append (λ y. cond (touches x y) 1 0) done (x ∷ left),
        count_cons (touches x) x left,
        cond-true {A = ℕ} (touches x x) 1 0 own,
      )

  abbrev pub Bounded : List X → ℕ → X → Type 0
  Bounded whole B x = (touches x x ≡ true) × (length first + count_of (touches x) whole ≤ B)

  pub line_bound : (whole : List X) (B : ℕ) (left done : List X) → done ++ left ≡ whole → Each (λ y. Each (λ x. Leads x y) done) left → Led Leads left →
      Each (Bounded whole B) left → length (fitted clash (first ++ done)) ≤ B → length (fitted clash (first ++ whole)) ≤ B
  line_bound whole B [] done e cross led bounds h = subst (λ w. length (fitted clash (first ++ w)) ≤ B) (sym (append-nil done) ∙ e) h
  line_bound whole B (x ∷ left) done e cross led bounds h =
      line_bound whole B left (done ++ x ∷ []) (append_assoc done (x ∷ []) left ∙ e)
      (all_both (λ y. Each (λ z. Leads z y) done) (Leads x) (λ y. Each (λ z. Leads z y) (done ++ x ∷ []))
      (λ y p q. All-push (λ z. Leads z y) done x p q) left cross.1 led.0)
      led.1 bounds.1
      (let slot : lowest clash (fitted clash (first ++ done)) x ≤ B =
      omega (arith, slot_bound done left x cross.0 bounds.0.0, ap (count_of (touches x)) e, bounds.0.1) in
      let ends : length (fitted clash (first ++ (done ++ x ∷ []))) ≡ length (put clash (fitted clash (first ++ done)) x) =
      ap (λ w. length (fitted clash w)) (sym (append_assoc first done (x ∷ []))) ∙ ap length (fold_push (put clash) [] (first ++ done) x) in
      omega (arith, ends, length_put clash (fitted clash (first ++ done)) x))

  pub fitted_bound : (whole : List X) (B : ℕ) → Led Leads whole → Each (Bounded whole B) whole → length first ≤ B → length (fitted clash (first ++ whole)) ≤ B
  fitted_bound whole B led bounds h =
      line_bound whole B whole [] refl (all_of (λ y. Each (λ x. Leads x y) []) (λ y. tt) whole) led bounds
      (omega (arith, length_fitted_le clash (first ++ []) [], ap length (append-nil first)))

-- ---- where each slot is taken for x, x gets a new one
pub put_new : {X : Type 0} (clash : X → X → Bool) (ss : List (List X)) (x : X) → Each (λ s. taken clash x s ≡ true) ss → put clash ss x ≡ ss ++ (x ∷ []) ∷ []
put_new clash [] x h = refl
put_new clash (s ∷ ss) x h = cond-true (taken clash x s) (s ∷ put clash ss x) ((x ∷ s) ∷ ss) h.0 ∙ ap (λ t. s ∷ t) (put_new clash ss x h.1)

-- units that all clash stand one to a slot
pub one_to_a_slot : {X : Type 0} (clash : X → X → Bool) (P : X → Type 0) → ((x y : X) → P x → P y → clash x y ≡ true) → (left done : List X) → Each P left → Each P done →
    fold (put clash) (map (λ x. x ∷ []) done) left ≡ map (λ x. x ∷ []) (done ++ left)
one_to_a_slot clash P f [] done l d = ap (map (λ x. x ∷ [])) (sym (append-nil done))
one_to_a_slot clash P f (x ∷ left) done l d =
    ap (λ s. fold (put clash) s left)
    (put_new clash (map (λ y. y ∷ []) done) x (All-map (λ s. taken clash x s ≡ true) (λ y. y ∷ []) done (All-weaker P (λ y. taken clash x (y ∷ []) ≡ true) (λ y q. or_left (clash x y) false (f x y l.0 q)) done d))
    ∙ sym (map-append (λ y. y ∷ []) done (x ∷ [])))
    ∙ one_to_a_slot clash P f left (done ++ x ∷ []) l.1 (All-append P done (x ∷ []) d (l.0, tt))
    ∙ ap (map (λ y. y ∷ [])) (append_assoc done (x ∷ []) left)

-- ---- no slot is empty
abbrev pub Filled : {X : Type 0} → List X → Type 0
Filled [] = ⊥
Filled (x ∷ xs) = Unit {0}

pub put_filled : {X : Type 0} (clash : X → X → Bool) (ss : List (List X)) (x : X) → Each Filled ss → Each Filled (put clash ss x)
put_filled clash [] x h = (tt, tt)
put_filled clash (s ∷ ss) x h =
    cond_both (taken clash x s) (s ∷ put clash ss x) ((x ∷ s) ∷ ss) (Each Filled) (λ e. (h.0, put_filled clash ss x h.1)) (λ e. (tt, h.1))

pub fitted_filled : {X : Type 0} (clash : X → X → Bool) (xs : List X) → Each Filled (fitted clash xs)
fitted_filled clash xs = folded_keeps (put clash) (Each Filled) (put_filled clash) xs [] tt

-- ---- what holds of each unit holds of those in the slots
pub put_all : {X : Type 0} (clash : X → X → Bool) (P : X → Type 0) (ss : List (List X)) (x : X) → P x → Each (Each P) ss → Each (Each P) (put clash ss x)
put_all clash P [] x p h = ((p, tt), tt)
put_all clash P (s ∷ ss) x p h =
    cond_both (taken clash x s) (s ∷ put clash ss x) ((x ∷ s) ∷ ss) (Each (Each P)) (λ e. (h.0, put_all clash P ss x p h.1)) (λ e. ((p, h.0), h.1))

pub fitted_all : {X : Type 0} (clash : X → X → Bool) (P : X → Type 0) (xs : List X) (ss : List (List X)) → Each P xs → Each (Each P) ss → Each (Each P) (fold (put clash) ss xs)
fitted_all clash P [] ss h k = k
fitted_all clash P (x ∷ xs) ss h k = fitted_all clash P xs (put clash ss x) h.1 (put_all clash P ss x h.0 k)
