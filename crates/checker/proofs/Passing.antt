-- The verdict passes exactly the plans.
use Rattle.std.proofs.Common.{◌≡◌, ℕ, ◌≤◌, true, not, ltb, leb, List, is_ok, Some, None, Ok, Err, Option, Result, refl, ap, ◌∙◌}
use Rattle.std.proofs.lemmas.Bool.{and_parts, and_from, not-false, not_from_true, leb-true, le-leb, le-ltb, ltb-false, false≢true}
use Rattle.ring.specs.Ring.{Plan}
use Rattle.checkrows.specs.Rows.{OnSheet}
use Rattle.checklines.specs.Faults.{from_to}
use Rattle.checkrows.specs.Rows.{rows_fault, counts_fault}
use Rattle.checklines.specs.Lines.{lines_fault}
use Rattle.checker.specs.Verdicts.{ring_fault, sheet_fault, figures, unless, verdict}
use Rattle.checker.specs.Claims.{PassesPlans, Good, PassesExactly}
use Rattle.ring.specs.declared.Demand.{Demand}
use Rattle.ring.specs.declared.Row.{Row}
use Rattle.ring.specs.declared.Figures.{Figures}
use Rattle.refusals.specs.declared.Refusal.{Refusal}
use Rattle.checklines.proofs.Walk.{passed, pass}
use Rattle.checklines.proofs.LinesPass.{lines_limits, limits_lines}
use Rattle.checkrows.proofs.RowsPass.{passed_plan, rows_on_sheet, plan_rows, full_counts}

unless_ok : (o : Option Refusal) (r : Result Figures Refusal) → is_ok (unless o r) ≡ true → (o ≡ None) × (is_ok r ≡ true)
unless_ok (Some f) r h = absurd (false≢true h)
unless_ok None r h = (refl, h)

pub unless_pass : (o : Option Refusal) (r : Result Figures Refusal) → o ≡ None → unless o r ≡ r
unless_pass o r h = ap (λ x. unless x r) h

pub unless_stop : (o : Option Refusal) (r : Result Figures Refusal) (f : Refusal) → o ≡ Some f → unless o r ≡ Err f
unless_stop o r f h = ap (λ x. unless x r) h

pub ring_none : (n : ℕ) → 3 ≤ n → n ≤ 16 → ring_fault n ≡ None
ring_none n l h = pass (not (from_to 3 16 n)) _ _ (not_from_true _ (and_from (leb 3 n) (leb n 16) (le-leb 3 n l) (le-leb n 16 h))) refl

pub none_ring : (n : ℕ) → ring_fault n ≡ None → (3 ≤ n) × (n ≤ 16)
none_ring n h = let p = and_parts (leb 3 n) (leb n 16) (not-false _ (passed (not (from_to 3 16 n)) _ _ h).0) in (leb-true 3 n p.0, leb-true n 16 p.1)

pub sheet_none : (m : ℕ) → 1024 ≤ m → sheet_fault m ≡ None
sheet_none m h = pass (ltb m 1024) _ _ (le-ltb m 1024 h) refl

pub passes : (n : ℕ) (lines : List Demand) (rows : List Row) (m : ℕ) → PassesPlans n lines rows m (verdict n lines rows m)
passes n lines rows m s w = (to, from)
  where
    to : is_ok (verdict n lines rows m) ≡ true → Plan n lines rows × OnSheet rows
    to k =
        let a = unless_ok (ring_fault n) _ k in
        let b = unless_ok (sheet_fault m) _ a.1 in
        let c = unless_ok (lines_fault n lines) _ b.1 in
        let d = unless_ok (rows_fault n lines rows) _ c.1 in
        let e = unless_ok (counts_fault lines rows) (Ok (figures n lines rows)) d.1 in
        (passed_plan n lines rows d.0 e.0, rows_on_sheet n lines rows d.0)

    from : Plan n lines rows × OnSheet rows → is_ok (verdict n lines rows m) ≡ true
    from p =
        ap is_ok (unless_pass (ring_fault n) _ (ring_none n w.least w.most) ∙ unless_pass (sheet_fault m) _ (sheet_none m s) ∙ unless_pass (lines_fault n lines) _ (limits_lines n lines w)
        ∙ unless_pass (rows_fault n lines rows) _ (plan_rows n lines rows p.0 p.1) ∙ unless_pass (counts_fault lines rows) _ (full_counts lines rows p.0.full))

pub none_sheet : (m : ℕ) → sheet_fault m ≡ None → 1024 ≤ m
none_sheet m h = ltb-false m 1024 (passed (ltb m 1024) _ _ h).0

pub passes_exactly : (n : ℕ) (lines : List Demand) (rows : List Row) (m : ℕ) → PassesExactly n lines rows m (verdict n lines rows m)
passes_exactly n lines rows m = (to, (λ g. (passes n lines rows m g.room g.limits).1 (g.plan, g.on_sheet)))
  where
    to : is_ok (verdict n lines rows m) ≡ true → Good n lines rows m
    to k =
        let a = unless_ok (ring_fault n) _ k in
        let b = unless_ok (sheet_fault m) _ a.1 in
        let c = unless_ok (lines_fault n lines) _ b.1 in
        let d = unless_ok (rows_fault n lines rows) _ c.1 in
        let e = unless_ok (counts_fault lines rows) (Ok (figures n lines rows)) d.1 in
        record {
          room = none_sheet m b.0;
          limits = let ring = none_ring n a.0 in lines_limits n lines ring.0 ring.1 c.0;
          plan = passed_plan n lines rows d.0 e.0;
          on_sheet = rows_on_sheet n lines rows d.0;
        }
