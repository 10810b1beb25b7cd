-- What a refusal of the checker names is one of the demands or rows given.
use Rattle.std.proofs.Common.{◌≡◌, ℕ, ◌+◌, ◌<◌, ◌≤◌, Bool, true, false, cond, not, ◌&&◌, ◌||◌, eqb, ltb, leb, List, [], ◌∷◌, ◌++◌, length, Some, None, Ok, Err, Option, Result, refl, subst, arith}
use Rattle.std.specs.List.{prefix_len}
use Rattle.std.specs.Option.{option_or}
use Rattle.std.proofs.lemmas.List.{length-append}
use Rattle.std.proofs.lemmas.Bool.{ltb-true}
use Rattle.refusals.specs.declared.Refusal.{Refusal}
use Rattle.refusals.specs.declared.Refusal.TheVariants.{RingSize, TooFew, BookFull, EndOutside, EndsFalling, UnitsOutside, NumberTaken, UnitsPast, DemandUnknown, SlotOutside, SideWrong, Collision, CountWrong}
use Rattle.ring.specs.Ring.{named, units}
use Rattle.ring.specs.declared.Demand.{Demand}
use Rattle.ring.specs.declared.Row.{Row}
use Rattle.checklines.specs.Faults.{first_fault, from_to}
use Rattle.checklines.specs.Lines.{line_fault, lines_fault}
use Rattle.checkrows.specs.Rows.{like_first, earliest, form_fault, collision_fault, row_fault, rows_fault, is_full, counts_fault}
use Rattle.ring.specs.declared.Figures.{Figures}
use Rattle.checker.specs.Verdicts.{ring_fault, sheet_fault, figures, unless, verdict}
use Rattle.planfile.specs.Places.{Named, RefusalsNamed}

-- ---- a fact of each fault that a definition can give
module _ (P : Refusal → Type 0) where
  -- of no fault, every fact
  none : (e : Refusal) → None ≡ Some e → P e
  none e h = let z : ◌≡◌ {A = ℕ} 0 1 = cc in absurd (omega arith)

  -- of the fault of a test that passes, or of what comes after the test
  tested : (b : Bool) (f : Refusal) (o : Option Refusal) → (b ≡ true → P f) → ((e : Refusal) → o ≡ Some e → P e) → (e : Refusal) → cond b (Some f) o ≡ Some e → P e
  tested true f o here later e h = subst P (cc) (here refl)
  tested false f o here later e h = later e h

  first_or : (o q : Option Refusal) → ((e : Refusal) → o ≡ Some e → P e) → ((e : Refusal) → q ≡ Some e → P e) → (e : Refusal) → option_or o q ≡ Some e → P e
  first_or (Some f) q one two e h = one e h
  first_or None q one two e h = two e h

  -- of the first fault in a list, each element with fewer than m before it
  walked : {X : Type 0} (fault : List X → X → Option Refusal) (m : ℕ) → ((before : List X) (x : X) → length before < m → (e : Refusal) → fault before x ≡ Some e → P e) → (before xs : List X) → length before + length xs ≤ m → (e : Refusal) → first_fault fault before xs ≡ Some e → P e
  walked fault m each before [] h e k = none e k
  walked fault m each before (x ∷ xs) h e k =
      first_or (fault before x) (first_fault fault (before ++ x ∷ []) xs) (each before x (omega arith))
      (walked fault m each (before ++ x ∷ []) xs (omega (arith, length-append before (x ∷ [])))) e k

  -- of the answer that a fault comes before
  barred : (o : Option Refusal) (r : Result Figures Refusal) → ((e : Refusal) → o ≡ Some e → P e) → ((e : Refusal) → r ≡ Err e → P e) → (e : Refusal) → unless o r ≡ Err e → P e
  barred (Some f) r one two e h = one e (cc)
  barred None r one two e h = two e h

-- ---- the checker's
module _ (n : ℕ) (lines : List Demand) (rows : List Row) (marks : ℕ) where
  abbrev In : Refusal → Type 0
  In e = Named (length lines) (length rows) e

  line_in : (before : List Demand) (d : Demand) → length before < length lines → (e : Refusal) → line_fault n before d ≡ Some e → In e
  line_in before d h =
      tested In (leb 128 (length before)) (BookFull (length before + 1)) _ (λ t. (omega arith, omega arith))
      (tested In (not (from_to 1 n d.lower && from_to 1 n d.upper)) (EndOutside (length before + 1)) _ (λ t. (omega arith, omega arith))
      (tested In (leb d.upper d.lower) (EndsFalling (length before + 1)) _ (λ t. (omega arith, omega arith))
      (tested In (not (from_to 1 48 d.units)) (UnitsOutside (length before + 1)) _ (λ t. (omega arith, omega arith))
      (tested In (eqb d.number 0 || named before d.number) (NumberTaken (length before + 1)) _ (λ t. (omega arith, omega arith))
      (tested In (ltb 1024 (units before + d.units)) (UnitsPast (length before + 1)) None (λ t. (omega arith, omega arith)) (none In))))))

  form_in : (before : List Row) (r : Row) → length before < length rows → (e : Refusal) → form_fault lines before r ≡ Some e → In e
  form_in before r h =
      tested In (not (named lines r.demand)) (DemandUnknown (length before + 1)) _ (λ t. (omega arith, omega arith))
      (tested In (not (from_to 1 1024 r.slot)) (SlotOutside (length before + 1)) _ (λ t. (omega arith, omega arith))
      (tested In (not (leb r.side 1 && like_first r.demand r.side before)) (SideWrong (length before + 1)) None (λ t. (omega arith, omega arith)) (none In)))

  collision_in : (before : List Row) (r : Row) → length before < length rows → (e : Refusal) → collision_fault n lines before r ≡ Some e → In e
  collision_in before r h =
      tested In (ltb (earliest n lines before r) (length before)) (Collision (length before + 1) (earliest n lines before r + 1)) None
      (λ t. let k = ltb-true (earliest n lines before r) (length before) t in ((omega arith, omega arith), omega arith, omega arith)) (none In)

  row_in : (before : List Row) (r : Row) → length before < length rows → (e : Refusal) → row_fault n lines before r ≡ Some e → In e
  row_in before r h = first_or In (form_fault lines before r) (collision_fault n lines before r) (form_in before r h) (collision_in before r h)

  counts_in : (e : Refusal) → counts_fault lines rows ≡ Some e → In e
  counts_in =
      tested In (ltb (prefix_len (is_full rows) lines) (length lines)) (CountWrong (prefix_len (is_full rows) lines + 1)) None
      (λ t. let k = ltb-true (prefix_len (is_full rows) lines) (length lines) t in (omega arith, omega arith)) (none In)

  passed_in : (e : Refusal) → Ok (figures n lines rows) ≡ Err e → In e
  passed_in e h = let z : ◌≡◌ {A = ℕ} 0 1 = cc in absurd (omega arith)

  verdict_in_lem : (e : Refusal) → verdict n lines rows marks ≡ Err e → In e
  verdict_in_lem =
      barred In (ring_fault n) _ (tested In (not (from_to 3 16 n)) RingSize None (λ t. tt) (none In))
      (barred In (sheet_fault marks) _ (tested In (ltb marks 1024) (TooFew 1024) None (λ t. refl) (none In))
      (barred In (lines_fault n lines) _ (walked In (line_fault n) (length lines) line_in [] lines (omega arith))
      (barred In (rows_fault n lines rows) _ (walked In (row_fault n lines) (length rows) row_in [] rows (omega arith))
      (barred In (counts_fault lines rows) (Ok (figures n lines rows)) counts_in passed_in))))

pub named_in : RefusalsNamed
named_in n lines rows marks e h = verdict_in_lem n lines rows marks e h
