-- The figures are those of the rows, and they fit, since a plan within the limits has at most 1,024 rows.
use Rattle.std.proofs.Common.{◌≡◌, ℕ, suc, ◌+◌, ◌-◌, ◌<◌, ◌≤◌, Bool, true, false, cond, ◌||◌, eqb, leb, List, [], ◌∷◌, length, get_or, IfOk, Some, None, Option, Result, refl, ◌∙◌, ⊎_elim, arith}
use Rattle.std.specs.List.{AllByRecursion as Each}
use Rattle.std.proofs.lemmas.List.{get_or_past}
use Rattle.std.proofs.lemmas.Bool.{le-leb, lt-leb, cases_lt, cond-true, cond-false, false≢true}
use Rattle.ring.specs.Sums.{sum_of, one, count_of}
use Rattle.ring.specs.Sides.{per_link}
use Rattle.ring.proofs.Summing.{sum_one, sum_swap, sum_le, sum_eq, count_le_length}
use Rattle.std.proofs.lemmas.List.FromFn.{length-map-range_with_len, get_or-map-range_with_len}
use Rattle.ring.specs.Ring.{row_over, named, load, has, slots, slot_count, units, WithinLimits}
use Rattle.checkrows.specs.Rows.{rows_fault, counts_fault}
use Rattle.checklines.specs.Lines.{lines_fault}
use Rattle.checker.specs.Verdicts.{ring_fault, sheet_fault, figures, unless, verdict}
use Rattle.checker.specs.Claims.{FiguresOf, HasFigures}
use Rattle.ring.specs.declared.Demand.{Demand}
use Rattle.ring.specs.declared.Row.{Row}
use Rattle.ring.specs.declared.Figures.{Figures}
use Rattle.refusals.specs.declared.Refusal.{Refusal}
use Rattle.checkrows.proofs.RowsPass.{rows_known, counts_full}
use Rattle.checker.proofs.Passing.{none_ring}

made_unless : (o : Option Refusal) (r : Result Figures Refusal) (P : Figures → Type 0) → (o ≡ None → IfOk r P) → IfOk (unless o r) P
made_unless (Some f) r P h = tt
made_unless None r P h = h refl

-- the figure of a link
figure_at : (n : ℕ) (g : ℕ → ℕ) (e : ℕ) → 1 ≤ e → e ≤ 16 → get_or (per_link n g) (e - 1) 0 ≡ cond (leb e n) (g e) 0
unfolding per_link
figure_at n g e l h = get_or-map-range_with_len (λ e. cond (leb e n) (g e) 0) 1 16 (e - 1) e 0 (omega arith) (omega arith)

figures_end : (n : ℕ) (g : ℕ → ℕ) (e : ℕ) → 16 < e → get_or (per_link n g) (e - 1) 0 ≡ 0
unfolding per_link
figures_end n g e h = get_or_past (per_link n g) (e - 1) 0 (omega (arith, length-map-range_with_len (λ e. cond {A = ℕ} (leb e n) (g e) 0) 1 16))

pub has_figures : (n : ℕ) (lines : List Demand) (rows : List Row) (m : ℕ) → HasFigures n lines rows (verdict n lines rows m)
has_figures n lines rows m =
    made_unless (ring_fault n) _ F (λ h. made_unless (sheet_fault m) _ F (λ _. made_unless (lines_fault n lines) _ F (λ _. made_unless (rows_fault n lines rows) _ F (λ _. made_unless (counts_fault lines rows) _ F (λ _. here (none_ring n h).1)))))
  where
    F : Figures → Type 0
    F = FiguresOf n lines rows

    g : ℕ → ℕ
    g = load lines rows

    past : (e : ℕ) → n < e → get_or (per_link n g) (e - 1) 0 ≡ 0
    past e l =
        ⊎_elim (λ (k : e < 17). figure_at n g e (omega arith) (omega arith) ∙ cond-false (leb e n) (g e) 0 (lt-leb e n l))
        (λ (k : 17 ≤ e). figures_end n g e (omega arith)) (cases_lt e 17)

    here : n ≤ 16 → FiguresOf n lines rows (figures n lines rows)
    here h =
        record {
          slots = refl;
          loads = λ e l. figure_at n g e l.0 (omega (arith, l.1)) ∙ cond-true (leb e n) (g e) 0 (le-leb e n l.1);
          past = past;
        }

-- ---- few rows
named_once : (ds : List Demand) (k : ℕ) → named ds k ≡ true → 1 ≤ sum_of (λ (d : Demand). one (eqb d.number k)) ds
named_once [] k h = absurd (false≢true h)
named_once (d ∷ ds) k h = go (eqb d.number k) h (named_once ds k)
  where
    go : (b : Bool) → (b || named ds k) ≡ true → (named ds k ≡ true → 1 ≤ sum_of (λ (d : Demand). one (eqb d.number k)) ds) → 1 ≤ cond b 1 0 + sum_of (λ (d : Demand). one (eqb d.number k)) ds
    go true e ih = omega arith
    go false e ih = omega (arith, ih e)

each_named : (ds : List Demand) (rows : List Row) → Each (λ (r : Row). named ds r.demand ≡ true) rows → Each (λ (r : Row). 1 ≤ sum_of (λ (d : Demand). one (eqb d.number r.demand)) ds) rows
each_named ds [] a = tt
each_named ds (r ∷ rs) a = (named_once ds r.demand a.0, each_named ds rs a.1)

pub rows_few : (ds : List Demand) (rows : List Row) → Each (λ (r : Row). named ds r.demand ≡ true) rows → Each (λ (d : Demand). count_of (λ (r : Row). eqb d.number r.demand) rows ≡ d.units) ds → length rows ≤ units ds
rows_few ds rows known full =
    omega (
      arith,
      sum_one rows,
      sum_le (λ (r : Row). 1) (λ (r : Row). sum_of (λ (d : Demand). one (eqb d.number r.demand)) ds) rows (each_named ds rows known),
      sum_swap (λ (r : Row) (d : Demand). one (eqb d.number r.demand)) rows ds,
      sum_eq (λ (d : Demand). sum_of (λ (r : Row). one (eqb d.number r.demand)) rows) (λ (d : Demand). d.units) ds full,
    )

pub slots_few : (rows : List Row) → slot_count rows ≤ length rows
slots_few [] = omega arith
slots_few (r ∷ rs) = go (has r.slot (slots rs)) (slots_few rs)
  where
    go : (t : Bool) → length (slots rs) ≤ length rs → length (cond t (slots rs) (r.slot ∷ slots rs)) ≤ suc (length rs)
    go true h = omega arith
    go false h = omega arith

pub load_few : (ds : List Demand) (rows : List Row) (e : ℕ) → load ds rows e ≤ length rows
load_few ds rows e = count_le_length (λ (r : Row). row_over ds r e) rows

pub rows_1024 : (n : ℕ) (ds : List Demand) (rows : List Row) → WithinLimits n ds → rows_fault n ds rows ≡ None → counts_fault ds rows ≡ None → length rows ≤ 1024
rows_1024 n ds rows l r c = omega (arith, rows_few ds rows (rows_known n ds rows r) (counts_full ds rows c), l.total)
