-- The rows pass exactly where they are of known demands, on the sheet, on one side for each demand, and apart.
use Rattle.std.proofs.Common.{◌≡◌, ℕ, zero, suc, ◌+◌, ◌<◌, ◌≤◌, Bool, true, false, cond, not, ◌&&◌, eqb, ltb, leb, ◌⊎◌, List, [], ◌∷◌, ◌++◌, length, None, sym, refl, ap, ◌∙◌, subst, inl, inr, ⊎_elim, arith}
use Rattle.std.specs.List.{AllByRecursion as Each, range_with_len, position_or_len}
use Rattle.std.proofs.lemmas.List.Sums.{passes_at_first}
use Rattle.std.proofs.lemmas.List.FromFn.{length-range_with_len, get_or-range_with_len}
use Rattle.std.proofs.lemmas.List.{append_assoc}
use Rattle.std.proofs.ByRecursion.{All-weaker}
use Rattle.std.proofs.lemmas.Bool.{ltb-true, eqb-true, eq-eqb, or_cases, or_left, or_right, and_parts, and_from, not-true, not-false, not_from_true, not_from_false, leb-true, le-leb, both_ways, cases_Bool, cases_eq, cond-true, false≢true}
use Rattle.ring.specs.Sums.{some, count_of}
use Rattle.ring.specs.Ring.{Link, row_over, named, Apart, Clear, Plan}
use Rattle.checkrows.specs.Rows.{OnSheet}
use Rattle.checklines.specs.Faults.{from_to}
use Rattle.checkrows.specs.Rows.{like_first, meet, clash, earliest, form_fault, collision_fault, row_fault, rows_fault, is_full, counts_fault}
use Rattle.ring.specs.declared.Demand.{Demand}
use Rattle.ring.specs.declared.Row.{Row}
use Rattle.ring.proofs.Summing.{all_of}
use Rattle.checkrows.proofs.Places.{some_place}
use Rattle.checklines.proofs.Walk.{Walk, Pairs, all_split, or_none, or_pass, passed, pass, walk_none, none_walk, walk_weaker, walk_all, walk_pairs, pairs_walk, walk_both, leading_all, all_leading}

-- ---- links
pub some_at : (p : ℕ → Bool) (a m e : ℕ) → a ≤ e → e < a + m → p e ≡ true → some p (range_with_len a m) ≡ true
some_at p a zero e l h q = absurd (omega arith)
some_at p a (suc m) e l h q =
    ⊎_elim (λ (s : e ≡ a). or_left (p a) (some p (range_with_len (a + 1) m)) (ap p (sym s) ∙ q))
    (λ (ne : e ≡ a → ⊥). or_right (p a) (some p (range_with_len (a + 1) m)) (some_at p (a + 1) m e (omega arith) (omega arith) q)) (cases_eq e a)

pub some_from : (p : ℕ → Bool) (a m : ℕ) → some p (range_with_len a m) ≡ true → (e : ℕ) × (a ≤ e) × (e < a + m) × (p e ≡ true)
some_from p a m h =
    let xs = range_with_len a m in
    let k = position_or_len p xs in
    let l : k < length xs = ltb-true _ _ (sym (some_place p xs) ∙ h) in
    let few : k < m = omega (arith, l, length-range_with_len a m) in
    (a + k, omega arith, omega arith, ap p (sym (get_or-range_with_len a m k 0 few)) ∙ passes_at_first p xs 0 l)

-- two rows clash exactly where they have one slot and share a link
pub clash_link : (n : ℕ) (ds : List Demand) (r q : Row) → clash n ds r q ≡ true → (q.slot ≡ r.slot) × ((e : ℕ) × Link n e × (row_over ds r e ≡ true) × (row_over ds q e ≡ true))
clash_link n ds r q c =
    let p = and_parts (eqb q.slot r.slot) (meet n ds r q) c in
    let f = some_from (λ e. row_over ds r e && row_over ds q e) 1 n p.1 in
    let b = and_parts (row_over ds r f.0) (row_over ds q f.0) f.3 in
    (eqb-true q.slot r.slot p.0, (f.0, (f.1, omega (arith, f.2)), b.0, b.1))

pub link_clash : (n : ℕ) (ds : List Demand) (r q : Row) (e : ℕ) → q.slot ≡ r.slot → Link n e → row_over ds r e ≡ true → row_over ds q e ≡ true → clash n ds r q ≡ true
link_clash n ds r q e s l x y =
    and_from (eqb q.slot r.slot) (meet n ds r q) (eq-eqb q.slot r.slot s)
    (some_at (λ e. row_over ds r e && row_over ds q e) 1 n e l.0 (omega (arith, l.1)) (and_from (row_over ds r e) (row_over ds q e) x y))

pub clash_not : (n : ℕ) (ds : List Demand) (r q : Row) → not (clash n ds r q) ≡ true → Apart n ds q r
clash_not n ds r q h s e l x y = both_ways (clash n ds r q) (not-true (clash n ds r q) h) (link_clash n ds r q e (sym s) l y x)

pub not_clash : (n : ℕ) (ds : List Demand) (r q : Row) → Apart n ds q r → not (clash n ds r q) ≡ true
not_clash n ds r q h = not_from_false (clash n ds r q) (⊎_elim (λ (c : clash n ds r q ≡ true). absurd (no' c)) (λ (c : clash n ds r q ≡ false). c) (cases_Bool (clash n ds r q)))
  where
    no' : clash n ds r q ≡ true → ⊥
    no' c = let p = clash_link n ds r q c in h (sym p.0) p.1.0 p.1.1 p.1.3 p.1.2

-- ---- one row
pub record RowFine (n : ℕ) (ds : List Demand) (before : List Row) (r : Row) : Type 0 where
  pub known : named ds r.demand ≡ true
  pub on_sheet : (1 ≤ r.slot) × (r.slot ≤ 1024)
  pub a_side : r.side ≤ 1
  pub alike : like_first r.demand r.side before ≡ true
  pub apart : Each (λ (q : Row). Apart n ds q r) before

-- nothing is wrong with a row by itself
pub record FormFine (ds : List Demand) (before : List Row) (r : Row) : Type 0 where
  pub known : named ds r.demand ≡ true
  pub on_sheet : (1 ≤ r.slot) × (r.slot ≤ 1024)
  pub a_side : r.side ≤ 1
  pub alike : like_first r.demand r.side before ≡ true

pub form_fine : (ds : List Demand) (before : List Row) (r : Row) → form_fault ds before r ≡ None → FormFine ds before r
form_fine ds before r h =
    let a = passed (not (named ds r.demand)) _ _ h in
    let b = passed (not (from_to 1 1024 r.slot)) _ _ a.1 in
    let c = passed (not (leb r.side 1 && like_first r.demand r.side before)) _ _ b.1 in
    let on = and_parts (leb 1 r.slot) (leb r.slot 1024) (not-false _ b.0) in
    let si = and_parts (leb r.side 1) (like_first r.demand r.side before) (not-false _ c.0) in
    record {
      known = not-false _ a.0;
      on_sheet = (leb-true 1 r.slot on.0, leb-true r.slot 1024 on.1);
      a_side = leb-true r.side 1 si.0;
      alike = si.1;
    }

pub row_fine : (n : ℕ) (ds : List Demand) (before : List Row) (r : Row) → row_fault n ds before r ≡ None → RowFine n ds before r
row_fine n ds before r h =
    let o = or_none (form_fault ds before r) (collision_fault n ds before r) h in
    let g = form_fine ds before r o.0 in
    let f = passed (ltb (earliest n ds before r) (length before)) _ _ o.1 in
    record {
      known = g.known;
      on_sheet = g.on_sheet;
      a_side = g.a_side;
      alike = g.alike;
      apart = All-weaker (λ (q : Row). not (clash n ds r q) ≡ true) (λ (q : Row). Apart n ds q r) (clash_not n ds r) before (leading_all (λ (q : Row). not (clash n ds r q)) before f.0);
    }

pub fine_row : (n : ℕ) (ds : List Demand) (before : List Row) (r : Row) → RowFine n ds before r → row_fault n ds before r ≡ None
fine_row n ds before r h =
    or_pass (form_fault ds before r) (collision_fault n ds before r)
    (pass (not (named ds r.demand)) _ _ (not_from_true _ h.known)
    (pass (not (from_to 1 1024 r.slot)) _ _ (not_from_true _ (and_from (leb 1 r.slot) (leb r.slot 1024) (le-leb 1 r.slot h.on_sheet.0) (le-leb r.slot 1024 h.on_sheet.1)))
    (pass (not (leb r.side 1 && like_first r.demand r.side before)) _ _ (not_from_true _ (and_from (leb r.side 1) (like_first r.demand r.side before) (le-leb r.side 1 h.a_side) h.alike)) refl)))
    ∙ pass (ltb (earliest n ds before r) (length before)) _ _
    (all_leading (λ (q : Row). not (clash n ds r q)) before (All-weaker (λ (q : Row). Apart n ds q r) (λ (q : Row). not (clash n ds r q) ≡ true) (not_clash n ds r) before h.apart))
    refl

-- ---- sides
-- the side of the first row of the demand k, or 0
abbrev pub side_of : ℕ → List Row → ℕ
side_of k [] = 0
side_of k (q ∷ qs) = cond (eqb q.demand k) q.side (side_of k qs)

first_side_lem : (k s : ℕ) (before : List Row) (q : Row) (after : List Row) → like_first k s before ≡ true → q.demand ≡ k → q.side ≡ s → side_of k (before ++ q ∷ after) ≡ s
first_side_lem k s [] q after h d e = cond-true (eqb q.demand k) q.side (side_of k after) (eq-eqb q.demand k d) ∙ e
first_side_lem k s (b ∷ before) q after h d e = go (eqb b.demand k) h (λ g. first_side_lem k s before q after g d e)
  where
    go : (t : Bool) → cond t (eqb b.side s) (like_first k s before) ≡ true → (like_first k s before ≡ true → side_of k (before ++ q ∷ after) ≡ s) → cond t b.side (side_of k (before ++ q ∷ after)) ≡ s
    go true g ih = eqb-true b.side s g
    go false g ih = ih g

all_like : (k s : ℕ) (before : List Row) → Each (λ (r : Row). r.demand ≡ k → r.side ≡ s) before → like_first k s before ≡ true
all_like k s [] a = refl
all_like k s (b ∷ before) a = go (eqb b.demand k) refl (all_like k s before a.1)
  where
    go : (t : Bool) → eqb b.demand k ≡ t → like_first k s before ≡ true → cond t (eqb b.side s) (like_first k s before) ≡ true
    go true e ih = eq-eqb b.side s (a.0 (eqb-true b.demand k e))
    go false e ih = ih

side_least : (k : ℕ) (rows : List Row) → Each (λ (r : Row). r.side ≤ 1) rows → side_of k rows ≤ 1
side_least k [] a = omega arith
side_least k (r ∷ rs) a = go (eqb r.demand k) (side_least k rs a.1)
  where
    go : (t : Bool) → side_of k rs ≤ 1 → cond t r.side (side_of k rs) ≤ 1
    go true ih = a.0
    go false ih = ih

sides_from : (n : ℕ) (ds : List Demand) (k : ℕ) (before rows : List Row) → Walk (RowFine n ds) before rows → Each (λ (r : Row). r.demand ≡ k → r.side ≡ side_of k (before ++ rows)) rows
sides_from n ds k before [] w = tt
sides_from n ds k before (r ∷ rs) w = (
  (λ e. sym (first_side_lem k r.side before r rs (ap (λ d. like_first d r.side before) (sym e) ∙ w.0.alike) e refl)),
  subst (λ (all : List Row). Each (λ (r : Row). r.demand ≡ k → r.side ≡ side_of k all) rs) (append_assoc before (r ∷ []) rs) (sides_from n ds k (before ++ r ∷ []) rs w.1),
)

pairs_clear : (n : ℕ) (ds : List Demand) (rows : List Row) → Pairs (Apart n ds) rows → Clear n ds rows
pairs_clear n ds [] p = tt
pairs_clear n ds (r ∷ rs) p = (p.0, pairs_clear n ds rs p.1)

clear_pairs : (n : ℕ) (ds : List Demand) (rows : List Row) → Clear n ds rows → Pairs (Apart n ds) rows
clear_pairs n ds [] p = tt
clear_pairs n ds (r ∷ rs) p = (p.0, clear_pairs n ds rs p.1)

pub rows_walk : (n : ℕ) (ds : List Demand) (rows : List Row) → rows_fault n ds rows ≡ None → Walk (RowFine n ds) [] rows
rows_walk n ds rows h = walk_weaker (λ b r. row_fault n ds b r ≡ None) (RowFine n ds) (row_fine n ds) [] rows (walk_none (row_fault n ds) [] rows h)

pub rows_known : (n : ℕ) (ds : List Demand) (rows : List Row) → rows_fault n ds rows ≡ None → Each (λ (r : Row). named ds r.demand ≡ true) rows
rows_known n ds rows h = walk_all (λ (r : Row). named ds r.demand ≡ true) [] rows (walk_weaker (RowFine n ds) (λ _ (r : Row). named ds r.demand ≡ true) (λ b r f. f.known) [] rows (rows_walk n ds rows h))

pub rows_on_sheet : (n : ℕ) (ds : List Demand) (rows : List Row) → rows_fault n ds rows ≡ None → OnSheet rows
rows_on_sheet n ds rows h = walk_all (λ (r : Row). (1 ≤ r.slot) × (r.slot ≤ 1024)) [] rows (walk_weaker (RowFine n ds) (λ _ (r : Row). (1 ≤ r.slot) × (r.slot ≤ 1024)) (λ b r f. f.on_sheet) [] rows (rows_walk n ds rows h))

-- ---- all lines have their rows
pub counts_full : (ds : List Demand) (rows : List Row) → counts_fault ds rows ≡ None → Each (λ (d : Demand). count_of (λ (r : Row). eqb d.number r.demand) rows ≡ d.units) ds
counts_full ds rows h =
    All-weaker (λ (d : Demand). is_full rows d ≡ true) (λ (d : Demand). count_of (λ (r : Row). eqb d.number r.demand) rows ≡ d.units) (λ d e. eqb-true _ d.units e) ds
    (leading_all (is_full rows) ds (passed (ltb _ (length ds)) _ _ h).0)

pub full_counts : (ds : List Demand) (rows : List Row) → Each (λ (d : Demand). count_of (λ (r : Row). eqb d.number r.demand) rows ≡ d.units) ds → counts_fault ds rows ≡ None
full_counts ds rows h =
    pass (ltb _ (length ds)) _ _
    (all_leading (is_full rows) ds
    (All-weaker (λ (d : Demand). count_of (λ (r : Row). eqb d.number r.demand) rows ≡ d.units) (λ (d : Demand). is_full rows d ≡ true) (λ d e. eq-eqb _ d.units e) ds h)) refl

-- ---- no fault: a plan on the sheet
pub passed_plan : (n : ℕ) (ds : List Demand) (rows : List Row) → rows_fault n ds rows ≡ None → counts_fault ds rows ≡ None → Plan n ds rows
passed_plan n ds rows h g =
    let w = rows_walk n ds rows h in
    let sides : Each (λ (r : Row). r.side ≤ 1) rows = walk_all (λ (r : Row). r.side ≤ 1) [] rows (walk_weaker (RowFine n ds) (λ _ (r : Row). r.side ≤ 1) (λ b r f. f.a_side) [] rows w) in
    record {
      known = rows_known n ds rows h;
      full = counts_full ds rows g;
      sided = all_of (λ (d : Demand). (s : ℕ) × (s ≤ 1) × Each (λ (r : Row). r.demand ≡ d.number → r.side ≡ s) rows)
          (λ d. (side_of d.number rows, side_least d.number rows sides, sides_from n ds d.number [] rows w)) ds;
      clear = pairs_clear n ds rows (walk_pairs (Apart n ds) [] rows (walk_weaker (RowFine n ds) (λ b (r : Row). Each (λ (q : Row). Apart n ds q r) b) (λ b r f. f.apart) [] rows w)).1;
    }

-- the one side of a known number
side_of_known : (ds : List Demand) (rows : List Row) → Each (λ (d : Demand). (s : ℕ) × (s ≤ 1) × Each (λ (r : Row). r.demand ≡ d.number → r.side ≡ s) rows) ds →
    (k : ℕ) → named ds k ≡ true → (s : ℕ) × (s ≤ 1) × Each (λ (r : Row). r.demand ≡ k → r.side ≡ s) rows
side_of_known [] rows a k h = absurd (false≢true h)
side_of_known (d ∷ ds) rows a k h = go (or_cases (eqb d.number k) (named ds k) h) (side_of_known ds rows a.1 k)
  where
    go : (eqb d.number k ≡ true) ⊎ (named ds k ≡ true) → (named ds k ≡ true → (s : ℕ) × (s ≤ 1) × Each (λ (r : Row). r.demand ≡ k → r.side ≡ s) rows) → (s : ℕ) × (s ≤ 1) × Each (λ (r : Row). r.demand ≡ k → r.side ≡ s) rows
    go (inl e) ih = (a.0.0, a.0.1, All-weaker (λ (r : Row). r.demand ≡ d.number → r.side ≡ a.0.0) (λ (r : Row). r.demand ≡ k → r.side ≡ a.0.0) (λ r f g. f (g ∙ sym (eqb-true d.number k e))) rows a.0.2)
    go (inr e) ih = ih e

sides_walk : (ds : List Demand) (before rows : List Row) → ((k : ℕ) → named ds k ≡ true → (s : ℕ) × (s ≤ 1) × Each (λ (r : Row). r.demand ≡ k → r.side ≡ s) (before ++ rows)) →
    Each (λ (r : Row). named ds r.demand ≡ true) rows → Walk (λ b (r : Row). (r.side ≤ 1) × (like_first r.demand r.side b ≡ true)) before rows
sides_walk ds before [] f a = tt
sides_walk ds before (r ∷ rs) f a =
    let s = f r.demand a.0 in
    let b = all_split (λ (q : Row). q.demand ≡ r.demand → q.side ≡ s.0) before (r ∷ rs) s.2 in
    let e : r.side ≡ s.0 = b.1.0 refl in (
      (omega (arith, s.1), ap (λ t. like_first r.demand t before) e ∙ all_like r.demand s.0 before b.0),
      sides_walk ds (before ++ r ∷ []) rs
          (λ k h. subst (λ (all : List Row). (s : ℕ) × (s ≤ 1) × Each (λ (r : Row). r.demand ≡ k → r.side ≡ s) all) (sym (append_assoc before (r ∷ []) rs)) (f k h)) a.1,
    )

pub plan_rows : (n : ℕ) (ds : List Demand) (rows : List Row) → Plan n ds rows → OnSheet rows → rows_fault n ds rows ≡ None
plan_rows n ds rows p o =
    none_walk (row_fault n ds) [] rows
    (walk_weaker Parts (λ b r. row_fault n ds b r ≡ None) (λ b r q. fine_row n ds b r (record { known = q.0.0; on_sheet = q.0.1; a_side = q.1.0.0; alike = q.1.0.1; apart = q.1.1 })) [] rows
    (walk_both Own (λ b r. Sided b r × Clears b r) [] rows (own [] rows p.known o)
    (walk_both Sided Clears [] rows
    (sides_walk ds [] rows (side_of_known ds rows p.sided) p.known)
    (pairs_walk (Apart n ds) [] rows tt (clear_pairs n ds rows p.clear)))))
  where
    Own : List Row → Row → Type 0
    Own b r = (named ds r.demand ≡ true) × ((1 ≤ r.slot) × (r.slot ≤ 1024))

    Sided : List Row → Row → Type 0
    Sided b r = (r.side ≤ 1) × (like_first r.demand r.side b ≡ true)

    Clears : List Row → Row → Type 0
    Clears b r = Each (λ (q : Row). Apart n ds q r) b

    Parts : List Row → Row → Type 0
    Parts b r = Own b r × (Sided b r × Clears b r)

    own : (before rs : List Row) → Each (λ (r : Row). named ds r.demand ≡ true) rs → OnSheet rs → Walk Own before rs
    own before [] a b = tt
    own before (r ∷ rs) a b = ((a.0, b.0), own (before ++ r ∷ []) rs a.1 b.1)
