-- The sheet of marks and the first sides stand for the rows so far.
use Rattle.std.proofs.Common.{◌≡◌, ℕ, zero, suc, ◌+◌, ◌-◌, ◌<◌, ◌≤◌, Bool, true, false, cond, not, ◌&&◌, ◌||◌, eqb, ltb, leb, ◌⊎◌, List, [], ◌∷◌, ◌++◌, length, get_or, take, set, replicate, Some, None, Option, sym, refl, ap, ◌∙◌, subst, ap₂, ⊎_elim, arith}
use lib.Bits.{bit_or}
use Rattle.std.specs.List.{range_with_len, position_or_len}
use Rattle.std.proofs.lemmas.List.{get_or-set_same, get_or-set_other, get_or-take, length-take-le, get_or-replicate, get_or_past, length-replicate}
use Rattle.std.proofs.lemmas.List.Sums.{position_or_len_is, passes_at_first}
use Rattle.std.proofs.ByRecursion.{All-get_or}
use Rattle.std.proofs.lemmas.Bool.{ltb-true, eqb-true, eq-eqb, ne_eqb, cases_eq, cases_lt, cases_order, both_ways, cond-true, cond-false, not_from_true}
use Rattle.ring.specs.Sums.{some}
use Rattle.ring.specs.Ring.{row_over, named, Numbered}
use Rattle.checklines.specs.Faults.{from_to}
use Rattle.checkrows.specs.Rows.{like_first, clash, earliest, form_fault, collision_fault}
use Rattle.ring.specs.Masks.{bits}
use Rattle.checkrows.specs.Track.{mask, held, Tied, marked_at, line_of, line_at, LineOf, first_side, alike, slot_or_side_fault, Seen, ClearOf, ClearTo, FirstClash}
use Rattle.sheet.specs.Marks.{meets}
use Rattle.checkrows.specs.Rows.{row_at}
use Rattle.ring.specs.declared.Demand.{Demand}
use Rattle.ring.specs.declared.Row.{Row}
use Rattle.refusals.specs.declared.Refusal.TheVariants.{SlotOutside, SideWrong, Collision}
use Rattle.checklines.proofs.Walk.{none_passes}
use Rattle.checkrows.proofs.Links.{none_bits}
use Rattle.checkrows.proofs.Places.{some_place}
use Rattle.ring.proofs.Bits.{bits_and, bits_or, bits_same, bits_some, some_same, some_or, some_none}

some_push : {X : Type 0} (p : X → Bool) (xs : List X) (x : X) → some p (xs ++ x ∷ []) ≡ (some p xs || p x)
some_push p [] x = go (p x)
  where
    go : (b : Bool) → (b || false) ≡ b
    go true = refl
    go false = refl
some_push p (y ∷ xs) x = ap (λ b. p y || b) (some_push p xs x) ∙ go (p y)
  where
    go : (b : Bool) → (b || (some p xs || p x)) ≡ ((b || some p xs) || p x)
    go true = refl
    go false = refl

some_and : {X : Type 0} (b : Bool) (p : X → Bool) (xs : List X) → some (λ x. b && p x) xs ≡ (b && some p xs)
some_and true p xs = refl
some_and false p xs = some_none xs

-- ---- a mark shows whether the row clashes with one before
held_step : (a b c d : Bool) → (((a && b) || c) && d) ≡ ((a && (d && b)) || (c && d))
held_step true true c true = refl
held_step true true true false = refl
held_step true true false false = refl
held_step true false true true = refl
held_step true false true false = refl
held_step true false false true = refl
held_step true false false false = refl
held_step false b c d = refl

held_clash : (n : ℕ) (ds : List Demand) (r : Row) (before : List Row) → some (λ e. held ds before r.slot e && row_over ds r e) (range_with_len 1 n) ≡ some (clash n ds r) before
held_clash n ds r [] = some_none (range_with_len 1 n)
held_clash n ds r (q ∷ before) =
    some_same (λ e. ((eqb q.slot r.slot && row_over ds q e) || held ds before r.slot e) && row_over ds r e) (λ e. (eqb q.slot r.slot && (row_over ds r e && row_over ds q e)) || (held ds before r.slot e && row_over ds r e))
    (λ e. held_step (eqb q.slot r.slot) (row_over ds q e) (held ds before r.slot e) (row_over ds r e)) (range_with_len 1 n)
    ∙ some_or (λ e. eqb q.slot r.slot && (row_over ds r e && row_over ds q e)) (λ e. held ds before r.slot e && row_over ds r e) (range_with_len 1 n)
    ∙ ap₂ ◌||◌ (some_and (eqb q.slot r.slot) (λ e. row_over ds r e && row_over ds q e) (range_with_len 1 n)) (held_clash n ds r before)

-- the mark of a slot
tied_at : (n : ℕ) (ds : List Demand) (before : List Row) (marks : List ℕ) (slot : ℕ) → Tied n ds before marks → 1 ≤ slot → slot ≤ 1024 → get_or marks (slot - 1) 0 ≡ bits 1 n (held ds before slot)
tied_at n ds before marks slot t l h = let s : slot - 1 + 1 ≡ slot = omega arith in t (slot - 1) (omega arith) ∙ ap (λ k. bits 1 n (held ds before k)) s

pub tied_taken : (n : ℕ) (ds : List Demand) (before : List Row) (marks : List ℕ) (r : Row) → Tied n ds before marks → 1 ≤ r.slot → r.slot ≤ 1024 →
    meets (mask n ds r) (get_or marks (r.slot - 1) 0) ≡ some (clash n ds r) before
tied_taken n ds before marks r t l h =
    ap (meets (mask n ds r)) (tied_at n ds before marks r.slot t l h)
    ∙ ap (λ z. not (eqb z 0)) (bits_and (held ds before r.slot) (row_over ds r) 1 n)
    ∙ bits_some (λ e. held ds before r.slot e && row_over ds r e) 1 n
    ∙ held_clash n ds r before

-- a blank sheet stands for no rows
pub tied_none : (n : ℕ) (ds : List Demand) (marks : List ℕ) (m : ℕ) → marks ≡ replicate m 0 → Tied n ds [] marks
tied_none n ds marks m h k l =
    ap (λ xs. get_or xs k 0) h ∙ ⊎_elim (λ (a : k < m). get_or-replicate m k 0 0 a) (λ (a : m ≤ k). get_or_past (replicate m 0) k 0 (omega (arith, length-replicate {A = ℕ} m 0))) (cases_lt k m) ∙ sym (none_bits 1 n)

-- one more row is marked
pub tied_mark : (n : ℕ) (ds : List Demand) (before : List Row) (marks : List ℕ) (r : Row) → Tied n ds before marks → 1 ≤ r.slot → r.slot ≤ 1024 → 1024 ≤ length marks →
    Tied n ds (before ++ r ∷ []) (marked_at marks r.slot (mask n ds r))
tied_mark n ds before marks r t l h room k u = ⊎_elim same other (cases_eq k (r.slot - 1))
  where
    y : ℕ
    y = bit_or (get_or marks (r.slot - 1) 0) (mask n ds r)

    by : (s : ℕ) (b : Bool) → eqb r.slot s ≡ b → (e : ℕ) → held ds (before ++ r ∷ []) s e ≡ (held ds before s e || (b && row_over ds r e))
    by s b q e = some_push (λ (q : Row). eqb q.slot s && row_over ds q e) before r ∙ ap (λ b. held ds before s e || (b && row_over ds r e)) q

    false_end : (b : Bool) → (b || false) ≡ b
    false_end true = refl
    false_end false = refl

    same : k ≡ r.slot - 1 → get_or (marked_at marks r.slot (mask n ds r)) k 0 ≡ bits 1 n (held ds (before ++ r ∷ []) (k + 1))
    same q =
        let s : k + 1 ≡ r.slot = omega arith in
        ap (λ j. get_or (set marks (r.slot - 1) y) j 0) q ∙ get_or-set_same marks (r.slot - 1) y 0 (omega arith)
        ∙ ap (λ z. bit_or z (mask n ds r)) (tied_at n ds before marks r.slot t l h)
        ∙ bits_or (held ds before r.slot) (row_over ds r) 1 n
        ∙ bits_same (λ e. held ds before r.slot e || row_over ds r e) (held ds (before ++ r ∷ []) r.slot) (λ e. sym (by r.slot true (eq-eqb r.slot r.slot refl) e)) 1 n
        ∙ ap (λ j. bits 1 n (held ds (before ++ r ∷ []) j)) (sym s)

    other : (k ≡ r.slot - 1 → ⊥) → get_or (marked_at marks r.slot (mask n ds r)) k 0 ≡ bits 1 n (held ds (before ++ r ∷ []) (k + 1))
    other q =
        get_or-set_other marks (r.slot - 1) k y 0 q ∙ t k u
        ∙ bits_same (held ds before (k + 1)) (held ds (before ++ r ∷ []) (k + 1)) (λ e. sym (by (k + 1) false (ne_eqb r.slot (k + 1) (λ f. q (omega arith))) e ∙ false_end (held ds before (k + 1) e))) 1 n

-- ---- a loop of rows: the row clashes with none before, or with the earliest
pub collision_none : (n : ℕ) (ds : List Demand) (before : List Row) (r : Row) → some (clash n ds r) before ≡ false → collision_fault n ds before r ≡ None
collision_none n ds before r h = cond-false (ltb (earliest n ds before r) (length before)) _ _ (sym (some_place (clash n ds r) before) ∙ h)

pub collision_some : (n : ℕ) (ds : List Demand) (before : List Row) (r : Row) → some (clash n ds r) before ≡ true →
    collision_fault n ds before r ≡ Some (Collision (length before + 1) (earliest n ds before r + 1))
collision_some n ds before r h = cond-true (ltb (earliest n ds before r) (length before)) _ _ (sym (some_place (clash n ds r) before) ∙ h)

abbrev none : Row
none = record { demand = 0; side = 0; slot = 0 }

pub clear_more : (n : ℕ) (ds : List Demand) (rows : List Row) (i : ℕ) → i < length rows → ClearTo n ds rows i → some (clash n ds (row_at rows i)) (take i rows) ≡ false → ClearTo n ds rows (i + 1)
clear_more n ds rows i l h k b lb =
    ⊎_elim (λ (e : b ≡ i). λ a la. subst (λ b. (a : ℕ) → a < b → clash n ds (row_at rows b) (row_at rows a) ≡ false) (sym e) here a la) (λ (e : b ≡ i → ⊥). h b (omega arith)) (cases_eq b i)
  where
    here : (a : ℕ) → a < i → clash n ds (row_at rows i) (row_at rows a) ≡ false
    here a la =
        ap (clash n ds (row_at rows i)) (sym (get_or-take i rows a none la))
        ∙ All-get_or (λ (q : Row). clash n ds (row_at rows i) q ≡ false) (take i rows) a none (omega (arith, length-take-le i rows (omega arith))) (none_passes (clash n ds (row_at rows i)) (take i rows) k)

some_here : {X : Type 0} (p : X → Bool) (xs : List X) (d : X) → some p xs ≡ true → ((a : ℕ) → a < length xs → p (get_or xs a d) ≡ false) → ⊥
some_here p xs d h f =
    let l : position_or_len p xs < length xs = ltb-true _ _ (sym (some_place p xs) ∙ h) in
    both_ways (p (get_or xs (position_or_len p xs) d)) (f (position_or_len p xs) l) (passes_at_first p xs d l)

-- some row of the first i clashes with row i, so not all are clear
pub clash_there : (n : ℕ) (ds : List Demand) (rows : List Row) (i : ℕ) → i < length rows → some (clash n ds (row_at rows i)) (take i rows) ≡ true → ClearOf n ds rows i i → ⊥
clash_there n ds rows i l h f =
    let z = length-take-le i rows (omega arith) in
    some_here (clash n ds (row_at rows i)) (take i rows) none h (λ a la. ap (clash n ds (row_at rows i)) (get_or-take i rows a none (omega arith)) ∙ f a (omega arith))

pub first_is : (n : ℕ) (ds : List Demand) (rows : List Row) (i j at : ℕ) → at < length rows → ClearTo n ds rows at → some (clash n ds (row_at rows at)) (take at rows) ≡ true → FirstClash n ds rows i j →
    (i ≡ at) × (j ≡ earliest n ds (take at rows) (row_at rows at))
first_is n ds rows i j at l clear h f =
    let e : i ≡ at = ⊎_elim (λ (s : i ≡ at). s)
    (λ (s : (i < at) ⊎ (at < i)). absurd (⊎_elim (λ (s : i < at). both_ways _ (clear i s j f.0) f.2) (λ (s : at < i). clash_there n ds rows at l h (f.4 at s)) s)) (cases_order i at) in (
      e,
      sym (position_or_len_is (clash n ds (row_at rows at)) (take at rows) j none (omega (arith, f.0, length-take-le at rows (omega arith)))
          (λ a la. ap (clash n ds (row_at rows at)) (get_or-take at rows a none (omega (arith, f.0))) ∙ ap (λ b. clash n ds (row_at rows b) (row_at rows a)) (sym e) ∙ f.3 a la)
          (λ _. ap (clash n ds (row_at rows at)) (get_or-take at rows j none (omega (arith, f.0))) ∙ ap (λ b. clash n ds (row_at rows b) (row_at rows j)) (sym e) ∙ f.2)),
    )

-- ---- the side of each line's first row
like_first_lem : (m s : ℕ) (before : List Row) → like_first m s before ≡ alike (first_side m before) s
like_first_lem m s [] = refl
like_first_lem m s (q ∷ qs) = go (eqb q.demand m) (like_first_lem m s qs)
  where
    go : (t : Bool) → like_first m s qs ≡ alike (first_side m qs) s → cond t (eqb q.side s) (like_first m s qs) ≡ alike (cond t (Some q.side) (first_side m qs)) s
    go true ih = refl
    go false ih = ih

pub line_number : (ds : List Demand) (k : ℕ) → line_of ds k < length ds → (line_at ds (line_of ds k)).number ≡ k
line_number ds k h = eqb-true _ k (passes_at_first (λ (d : Demand). eqb d.number k) ds (line_at [] 0) h)

numbered_apart : (ds : List Demand) → Numbered ds → (i j : ℕ) → i < length ds → j < length ds → (i ≡ j → ⊥) → (line_at ds i).number ≡ (line_at ds j).number → ⊥
numbered_apart [] h i j li lj ne e = absurd (omega arith)
numbered_apart (d ∷ ds) h zero zero li lj ne e = ne refl
numbered_apart (d ∷ ds) h zero (suc j) li lj ne e = All-get_or (λ (c : Demand). c.number ≡ d.number → ⊥) ds j (record { number = 0; lower = 0; upper = 0; units = 0 }) (omega arith) h.0 (sym e)
numbered_apart (d ∷ ds) h (suc i) zero li lj ne e = All-get_or (λ (c : Demand). c.number ≡ d.number → ⊥) ds i (record { number = 0; lower = 0; upper = 0; units = 0 }) (omega arith) h.0 e
numbered_apart (d ∷ ds) h (suc i) (suc j) li lj ne e = numbered_apart ds h.1 i j (omega arith) (omega arith) (λ s. ne (ap suc s)) e

first_push : (m s : ℕ) (before : List Row) (r : Row) → like_first m s before ≡ true → r.demand ≡ m → r.side ≡ s → first_side m (before ++ r ∷ []) ≡ Some s
first_push m s [] r h d e = cond-true (eqb r.demand m) (Some r.side) None (eq-eqb r.demand m d) ∙ ap (λ k. Some k) e
first_push m s (b ∷ before) r h d e = go (eqb b.demand m) h (λ g. first_push m s before r g d e)
  where
    go : (t : Bool) → cond t (eqb b.side s) (like_first m s before) ≡ true → (like_first m s before ≡ true → first_side m (before ++ r ∷ []) ≡ Some s) → cond t (Some b.side) (first_side m (before ++ r ∷ [])) ≡ Some s
    go true g ih = ap (λ k. Some k) (eqb-true b.side s g)
    go false g ih = ih g

first_other : (m : ℕ) (before : List Row) (r : Row) → (r.demand ≡ m → ⊥) → first_side m (before ++ r ∷ []) ≡ first_side m before
first_other m [] r h = cond-false (eqb r.demand m) (Some r.side) None (ne_eqb r.demand m h)
first_other m (b ∷ before) r h = ap (λ k. cond (eqb b.demand m) (Some b.side) k) (first_other m before r h)

pub seen_none : (ds : List Demand) (m : ℕ) → Seen ds [] (replicate m None)
seen_none ds m j l =
    ⊎_elim (λ (a : j < m). get_or-replicate {A = Option ℕ} m j None None a) (λ (a : m ≤ j). get_or_past (replicate m None) j None (omega (arith, length-replicate {A = Option ℕ} m None))) (cases_lt j m)

-- the number of the line of a row
mine : (ds : List Demand) (r : Row) (k : ℕ) → LineOf ds r.demand k → (line_at ds k).number ≡ r.demand
mine ds r k at = let e = at.place in let l = at.inside in ap (λ j. (line_at ds j).number) e ∙ line_number ds r.demand (omega arith)

-- the first side of a row's line
pub seen_at : (ds : List Demand) (before : List Row) (firsts : List (Option ℕ)) (r : Row) (k : ℕ) → Seen ds before firsts → LineOf ds r.demand k → get_or firsts k None ≡ first_side r.demand before
seen_at ds before firsts r k seen at = seen k at.inside ∙ ap (λ m. first_side m before) (mine ds r k at)

pub seen_mark : (ds : List Demand) (before : List Row) (firsts : List (Option ℕ)) (r : Row) (k : ℕ) → Numbered ds → Seen ds before firsts → LineOf ds r.demand k → k < length firsts →
    like_first r.demand r.side before ≡ true → Seen ds (before ++ r ∷ []) (set firsts k (Some r.side))
seen_mark ds before firsts r k num seen at room like j lj =
    ⊎_elim (λ (s : j ≡ k).
    ap (λ i. get_or (set firsts k (Some r.side)) i None) s ∙ get_or-set_same firsts k (Some r.side) None room
    ∙ sym (first_push r.demand r.side before r like refl refl) ∙ ap (λ m. first_side m (before ++ r ∷ [])) (sym (ap (λ i. (line_at ds i).number) s ∙ mine ds r k at)))
    (λ (s : j ≡ k → ⊥).
    get_or-set_other firsts k j (Some r.side) None s ∙ seen j lj
    ∙ sym (first_other (line_at ds j).number before r (λ f. numbered_apart ds num j k lj at.inside s (sym f ∙ sym (mine ds r k at)))))
    (cases_eq j k)

-- ---- what the check of one row says
pub form_known : (ds : List Demand) (before : List Row) (r : Row) (first : Option ℕ) (place : ℕ) → named ds r.demand ≡ true → first ≡ first_side r.demand before → place ≡ length before + 1 →
    form_fault ds before r ≡ slot_or_side_fault r first place
form_known ds before r first place h e at =
    cond-false (not (named ds r.demand)) _ _ (not_from_true _ h)
    ∙ ap (λ t. cond (not (from_to 1 1024 r.slot)) (Some (SlotOutside (length before + 1))) (cond (not (leb r.side 1 && t)) (Some (SideWrong (length before + 1))) None))
    (like_first_lem r.demand r.side before ∙ ap (λ o. alike o r.side) (sym e))
    ∙ ap (slot_or_side_fault r first) (sym at)

-- a row whose line is known
pub form_seen : (ds : List Demand) (before : List Row) (r : Row) (firsts : List (Option ℕ)) (k : ℕ) → Seen ds before firsts → LineOf ds r.demand k →
    form_fault ds before r ≡ slot_or_side_fault r (get_or firsts k None) (length before + 1)
form_seen ds before r firsts k seen line = form_known ds before r (get_or firsts k None) (length before + 1) line.known (seen_at ds before firsts r k seen line) refl
