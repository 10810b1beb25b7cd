-- The first best of numbers in a row, and what is kept of candidates that come one after another.
use Rattle.std.proofs.Common.{◌≡◌, ℕ, zero, suc, ◌+◌, ◌-◌, ◌<◌, ◌≤◌, Bool, true, false, cond, eqb, ltb, List, [], ◌∷◌, ◌++◌, map, length, Option, None, Some, get_or, Ordering, Less, Equal, Greater, sym, refl, ap, ◌∙◌, subst, ap₂, arith}
use Rattle.std.specs.List.{range_with_len, IsFirstBest, best_of, fold}
use Rattle.std.specs.Iterator.Runs.{Run}
use Rattle.std.specs.Option.{MatchOption, IfSome, IsSomeAnd, option_map}
use Rattle.std.specs.Cmp.{IsTotalOrder, IsStrictWeakOrder}
use Rattle.std.specs.Ordering.{is_lt, nat_cmp}
use Rattle.std.proofs.lemmas.List.MinMax.{ranks_by, IsStrictWeakOrder-by_number, IsStrictWeakOrder-flip, IsFirstBest-from_best_of}
use Rattle.std.proofs.lemmas.List.FromFn.{length-range_with_len, get_or-range_with_len}
use Rattle.std.proofs.lemmas.List.{get_or_default, ext_get_or, map-append}
use Rattle.std.proofs.lemmas.List.Sums.{fold-append}
use Rattle.std.proofs.lemmas.Bool.{ltb-true, ltb-false}
use Rattle.std.specs.declared.cmp.Reverse.{Reverse}
use denote.Ref.{Bor}
use Rattle.ring.specs.declared.choosing.Best.{Best}
use Rattle.ring.specs.Choosing.{beats, kept, first_best, FirstBest, first_from, first_least, first_most, FirstLeast, FirstMost}

-- ---- what is kept of candidates that come one after another
kept_of : {C M : Type 0} (cmp : M → M → Ordering) (b : Best C M) (xs : List (Best C M)) → fold (kept cmp) (Some b) xs ≡ Some (best_of (beats cmp) b xs)
kept_of cmp b [] = refl
kept_of cmp b (x ∷ xs) = kept_of cmp (cond (beats cmp x b) x b) xs

-- in the end it is the first best of all of them
pub first_best_is : {C M : Type 0} (cmp : M → M → Ordering) → IsTotalOrder cmp → (xs : List (Best C M)) →
    MatchOption (first_best cmp xs) (length xs ≡ 0) (λ x. FirstBest cmp xs x)
first_best_is cmp o [] = refl
first_best_is {C = C} {M = M} cmp o (x ∷ xs) =
    let f = IsFirstBest-from_best_of {beats = beats cmp} (ranks_by o (λ (z : Best C M). z.measure)) x xs in
    let y = best_of (beats cmp) x xs in
    subst (λ r. MatchOption r (length (x ∷ xs) ≡ 0) (λ z. FirstBest cmp (x ∷ xs) z)) (sym (kept_of cmp x xs))
    (f.0, f.1.0, get_or_default (x ∷ xs) f.0 y x f.1.0 ∙ f.2, f.1)

-- what is kept of one candidate more
pub kept_more : {C M : Type 0} (cmp : M → M → Ordering) (mk : ℕ → Best C M) (a i : ℕ) →
    first_best cmp (map mk (range_with_len a (i + 1))) ≡ kept cmp (first_best cmp (map mk (range_with_len a i))) (mk (a + i))
kept_more cmp mk a i =
    let next : i + 1 ≡ suc i = omega arith in
    ap (λ k. first_best cmp (map mk (range_with_len a k))) next
    ∙ ap (λ xs. first_best cmp (map mk xs)) (sym (counting_end a i))
    ∙ ap (first_best cmp) (map-append mk (range_with_len a i) ((a + i) ∷ []))
    ∙ fold-append (kept cmp) None (map mk (range_with_len a i)) (mk (a + i) ∷ [])
  where
    counting_end : (a m : ℕ) → range_with_len a m ++ (a + m) ∷ [] ≡ range_with_len a (suc m)
    counting_end a zero = let e : a + 0 ≡ a = omega arith in ap (λ x. x ∷ []) e
    counting_end a (suc m) = let e : a + suc m ≡ a + 1 + m = omega arith in ap (λ x. a ∷ (range_with_len (a + 1) m ++ x ∷ [])) e ∙ ap (λ xs. a ∷ xs) (counting_end (a + 1) m)

-- ---- candidates that are lent
-- a reference to a candidate, with one to its measure
abbrev Lent : Type 0 → Type 0 → Type 0
Lent C M = Best (Bor (Best C M)) (Bor M)

-- at one place, y is what was made of a reference to z
pub lent_at : {C M : Type 0} (makes : Bor (Best C M) → Lent C M → Type 0) →
    ((x : Bor (Best C M)) (y : Lent C M) → makes x y → (y.candidate ≡ x) × (y.measure.now ≡ x.now.measure)) →
    (o : Option (Lent C M)) (s : Option (Bor (Best C M))) (y : Lent C M) (z : Best C M) →
    option_map (λ v. v) o ≡ Some y → option_map (λ v. v.now) s ≡ Some z → IfSome o (λ v. IsSomeAnd s (λ x. makes x v)) →
    (y.candidate.now ≡ z) × (y.measure.now ≡ z.measure)
lent_at makes means None s y z ho hs h = cc
lent_at makes means (Some v) None y z ho hs h = cc
lent_at makes means (Some v) (Some x) y z ho hs h = let is = means x v h in (cc, cc)

-- the first best of what is lent is lent of the first best
pub lent_first : {C M : Type 0} (cmp : M → M → Ordering) (all : List (Best C M)) (items : List (Lent C M)) → length items ≡ length all →
    ((k : ℕ) (y : Lent C M) (z : Best C M) → k < length items → ((get_or items k y).candidate.now ≡ get_or all k z) × ((get_or items k y).measure.now ≡ (get_or all k z).measure)) →
    (x : Lent C M) → FirstBest (λ v w. cmp v.now w.now) items x → FirstBest cmp all x.candidate.now
lent_first {C = C} {M = M} cmp all items long at x first =
    let b = first.0 in
    let low : b < length all = omega (arith, first.1, long) in
    let same : (k j : ℕ) (z : Best C M) → k < length all → j < length all →
    beats (λ (v w : Bor M). cmp v.now w.now) (get_or items k x) (get_or items j x) ≡ beats cmp (get_or all k z) (get_or all j z) =
    λ k j z lk lj. ap₂ (λ v w. is_lt (cmp v w)) (at k x z (omega arith)).1 (at j x z (omega arith)).1 in (
      b,
      low,
      sym (at b x x.candidate.now first.1).0 ∙ ap (λ (w : Lent C M). w.candidate.now) first.2,
      (low, (λ k z l. sym (same k b z l low) ∙ first.3.1 k x (omega arith)), (λ k z l. sym (same b k z low (omega arith)) ∙ first.3.2 k x l)),
    )

-- what is said of an answer that is made of another
pub answered : {A B : Type 0} (P S : Type 0) (Q : A → Type 0) (T : B → Type 0) (makes : A → B → Type 0) → (P → S) → ((x : A) (y : B) → makes x y → Q x → T y) →
    (o : Option A) (r : Option B) → MatchOption o (r ≡ None) (λ x. IsSomeAnd r (makes x)) → MatchOption o P Q → MatchOption r S T
answered P S Q T makes none some None None made h = none h
answered P S Q T makes none some None (Some y) made h = cc
answered P S Q T makes none some (Some x) None made h = absurd made
answered P S Q T makes none some (Some x) (Some y) made h = some x y made h

-- ---- the first of a to b that none of the others beats
-- the numbers a to b
abbrev range : ℕ → ℕ → List ℕ
range a b = range_with_len a (suc (b - a))

-- it stands at a place of theirs, and nothing there beats it
placed : (wins : ℕ → ℕ → Bool) → IsStrictWeakOrder wins → (a b : ℕ) → a ≤ b →
    (k : ℕ) × (k < suc (b - a)) × (first_from wins a b ≡ a + k) × IsFirstBest wins (range a b) (suc (b - a)) k
placed wins o a b h =
    let f = IsFirstBest-from_best_of {beats = wins} o a (range_with_len (a + 1) (b - a)) in
    let long : length (range a b) ≡ suc (b - a) = length-range_with_len a (suc (b - a)) in
    let low : f.0 < suc (b - a) = omega (arith, f.1.0, long) in
    (f.0, low, sym f.2 ∙ get_or-range_with_len a (suc (b - a)) f.0 a low, subst (λ m. IsFirstBest wins (range a b) m f.0) long f.1)

-- so it is one of them, none of them beats it, and it beats those before
pub first_from_lem : (wins : ℕ → ℕ → Bool) → IsStrictWeakOrder wins → (a b : ℕ) → a ≤ b →
    ((a ≤ first_from wins a b) × (first_from wins a b ≤ b))
    × ((e : ℕ) → a ≤ e → e ≤ b → wins e (first_from wins a b) ≡ false)
    × ((e : ℕ) → a ≤ e → e < first_from wins a b → wins (first_from wins a b) e ≡ true)
first_from_lem wins o a b h =
    let p = placed wins o a b h in
    let at : (k : ℕ) → k < suc (b - a) → get_or (range a b) k a ≡ a + k = λ k l. get_or-range_with_len a (suc (b - a)) k a l in
    let top : get_or (range a b) p.0 a ≡ first_from wins a b = at p.0 p.1 ∙ sym p.2 in
    let here : (e : ℕ) → a ≤ e → e ≤ b → get_or (range a b) (e - a) a ≡ e = λ e l u. at (e - a) (omega arith) ∙ omega arith in
    let k-low = p.1 in
    let is = p.2 in (
      (omega (arith, is), omega (arith, is, k-low)),
      (λ e l u. subst (λ x. wins x (first_from wins a b) ≡ false) (here e l u) (subst (λ y. wins (get_or (range a b) (e - a) a) y ≡ false) top (p.3.1 (e - a) a (omega arith)))),
      (λ e l u. subst (λ x. wins (first_from wins a b) x ≡ true) (here e l (omega (arith, is, k-low))) (subst (λ y. wins y (get_or (range a b) (e - a) a) ≡ true) top (p.3.2 (e - a) a (omega (arith, is))))),
    )

pub first_least_lem : FirstLeast
first_least_lem n g h =
    let f = first_from_lem (λ e f. ltb (g e) (g f)) (IsStrictWeakOrder-by_number g) 1 n h in
    (f.0, (λ e l u. ltb-false (g e) (g (first_least n g)) (f.1 e l u)), (λ e l u. ltb-true (g (first_least n g)) (g e) (f.2 e l u)))

pub first_most_lem : FirstMost
first_most_lem a b g h =
    let f = first_from_lem (λ e f. ltb (g f) (g e)) (IsStrictWeakOrder-flip (λ e f. ltb (g e) (g f)) (IsStrictWeakOrder-by_number g)) a b h in
    (f.0, (λ e l u. ltb-false (g (first_most a b g)) (g e) (f.1 e l u)), (λ e l u. ltb-true (g e) (g (first_most a b g)) (f.2 e l u)))

-- ---- candidates that are made from numbers in a row
-- the first best of mk a .. mk b is mk of the first best of a to b
made_first : {C M : Type 0} (cmp : M → M → Ordering) (mk : ℕ → Best C M) (wins : ℕ → ℕ → Bool) →
    ((e f : ℕ) → beats cmp (mk e) (mk f) ≡ wins e f) → (a b : ℕ) → first_best cmp (map mk (range a b)) ≡ Some (mk (first_from wins a b))
made_first {C = C} {M = M} cmp mk wins same a b = kept_of cmp (mk a) (map mk (range_with_len (a + 1) (b - a))) ∙ ap Some (go a (range_with_len (a + 1) (b - a)))
  where
    pick : (t : Bool) (x y : ℕ) → cond t (mk x) (mk y) ≡ mk (cond t x y)
    pick true x y = refl
    pick false x y = refl

    go : (x : ℕ) (xs : List ℕ) → best_of (beats cmp) (mk x) (map mk xs) ≡ mk (best_of wins x xs)
    go x [] = refl
    go x (y ∷ xs) =
        ap (λ (t : Bool). best_of (beats cmp) (cond t (mk y) (mk x)) (map mk xs)) (same y x)
        ∙ ap (λ (z : Best C M). best_of (beats cmp) z (map mk xs)) (pick (wins y x) y x)
        ∙ go (cond (wins y x) y x) xs

lower : (x y : ℕ) → is_lt (nat_cmp x y) ≡ ltb x y
lower x y = go (ltb x y) (eqb x y)
  where
    go : (s t : Bool) → is_lt (cond s Less (cond t Equal Greater)) ≡ s
    go true t = refl
    go false true = refl
    go false false = refl

-- the greatest first
higher : (x y : Reverse ℕ) → is_lt (nat_cmp y.0 x.0) ≡ ltb y.0 x.0
higher x y = lower y.0 x.0

-- measured by g, the first best of mk 1 .. mk n is that of the first least of g
pub first_by_least : {C : Type 0} (mk : ℕ → Best C ℕ) (g : ℕ → ℕ) → ((e : ℕ) → (mk e).measure ≡ g e) → (n : ℕ) → 1 ≤ n →
    first_best nat_cmp (map mk (range_with_len 1 n)) ≡ Some (mk (first_least n g))
first_by_least mk g is n h =
    let m : n ≡ suc (n - 1) = omega arith in
    ap (λ k. first_best nat_cmp (map mk (range_with_len 1 k))) m
    ∙ made_first nat_cmp mk (λ e f. ltb (g e) (g f)) (λ e f. lower (mk e).measure (mk f).measure ∙ ap₂ ltb (is e) (is f)) 1 n

-- measured by g reversed, the first best of mk a .. mk b is that of the first greatest of g
pub first_by_most : {C : Type 0} (mk : ℕ → Best C (Reverse ℕ)) (g : ℕ → ℕ) → ((e : ℕ) → (mk e).measure.0 ≡ g e) → (a b : ℕ) → a ≤ b →
    first_best (λ x y. nat_cmp y.0 x.0) (map mk (range_with_len a (b + 1 - a))) ≡ Some (mk (first_most a b g))
first_by_most mk g is a b h =
    let m : b + 1 - a ≡ suc (b - a) = omega arith in
    ap (λ k. first_best (λ (x y : Reverse ℕ). nat_cmp y.0 x.0) (map mk (range_with_len a k))) m
    ∙ made_first (λ x y. nat_cmp y.0 x.0) mk (λ e f. ltb (g f) (g e)) (λ e f. higher (mk e).measure (mk f).measure ∙ ap₂ ltb (is f) (is e)) a b

-- ---- a run of an iterator that gives numbers in a row
pub counted : {S : Type 0} {steps : S → Option ℕ → S → Type 0} (p : Run steps) (a n : ℕ) → p.len ≡ n →
    ((k : ℕ) → k < p.len → option_map (λ y. y) (p.at k) ≡ Some (a + k)) → p.items ≡ range_with_len a n
counted p a n long at =
    ext_get_or 0 p.items (range_with_len a n) (omega (arith, p.long, length-range_with_len a n))
    (λ k l. let here : Some (get_or p.items k 0) ≡ Some (a + k) = sym (p.reads k 0 (omega (arith, p.long))) ∙ at k (omega (arith, p.long)) in
    same_value here ∙ sym (get_or-range_with_len a n k 0 (omega (arith, p.long))))
  where
    same_value : {x y : ℕ} → Some x ≡ Some y → x ≡ y
    same_value h = cc
