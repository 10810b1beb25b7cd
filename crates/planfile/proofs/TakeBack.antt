-- What is written is taken back.
use Rattle.std.proofs.Common.{◌≡◌, ℕ, suc, ◌+◌, ◌≤◌, Bool, true, false, cond, ◌&&◌, eqb, List, [], ◌∷◌, length, is_ok, IfOk, Some, None, Ok, Err, Option, Result, sym, refl, ap, ◌∙◌, arith}
use Rattle.std.proofs.lemmas.Bool.{and_from, eq-eqb, cond-true, false≢true}
use Rattle.refusals.specs.declared.Refusal.{Refusal}
use Rattle.ring.specs.Ring.{has, slots, slot_count}
use Rattle.ring.specs.declared.Demand.{Demand}
use Rattle.ring.specs.declared.Row.{Row}
use Rattle.frames.specs.Reading.{reading, rows_in}
use Rattle.planwrite.specs.Backs.{whole, ReadsBack}
use Rattle.checklines.specs.Lines.{lines_fault}
use Rattle.checkrows.specs.Rows.{rows_fault, counts_fault}
use Rattle.ring.specs.declared.Figures.{Figures as PlanFigures}
use Rattle.checker.specs.Verdicts.{ring_fault, sheet_fault, figures, unless, verdict}
use Rattle.checker.proofs.Passing.{passes}
use Rattle.planfile.specs.declared.PlanFault.TheVariants.{Figures}
use Rattle.planfile.specs.Taking.{compared, verdict_in, settled}
use Rattle.planfile.specs.Backs.{TakesBack}

-- there are no more slots than rows
pub slots_few : (rows : List Row) → slot_count rows ≤ length rows
slots_few [] = omega arith
slots_few (r ∷ rs) = go (has r.slot (slots rs)) (slots_few rs)
  where
    go : (t : Bool) → length (slots rs) ≤ length rs → length (cond t (slots rs) (r.slot ∷ slots rs)) ≤ suc (length rs)
    go true h = omega arith
    go false h = omega arith

-- an answer that passes has no fault before it
unbarred : (o : Option Refusal) (r : Result PlanFigures Refusal) → is_ok (unless o r) ≡ true → unless o r ≡ r
unbarred (Some f) r h = absurd (false≢true h)
unbarred None r h = refl

-- where the verdict passes, it is the figures of the rows
passed_figures : (n : ℕ) (lines : List Demand) (rows : List Row) (marks : ℕ) → is_ok (verdict n lines rows marks) ≡ true → verdict n lines rows marks ≡ Ok (figures n lines rows)
passed_figures n lines rows marks h =
    let ok = Ok (figures n lines rows) in
    let r4 = unless (counts_fault lines rows) ok in
    let r3 = unless (rows_fault n lines rows) r4 in
    let r2 = unless (lines_fault n lines) r3 in
    let r1 = unless (sheet_fault marks) r2 in
    let e1 : verdict n lines rows marks ≡ r1 = unbarred (ring_fault n) r1 h in
    let h1 : is_ok r1 ≡ true = ap is_ok (sym e1) ∙ h in
    let e2 : r1 ≡ r2 = unbarred (sheet_fault marks) r2 h1 in
    let h2 : is_ok r2 ≡ true = ap is_ok (sym e2) ∙ h1 in
    let e3 : r2 ≡ r3 = unbarred (lines_fault n lines) r3 h2 in
    let h3 : is_ok r3 ≡ true = ap is_ok (sym e3) ∙ h2 in
    let e4 : r3 ≡ r4 = unbarred (rows_fault n lines rows) r4 h3 in
    let h4 : is_ok r4 ≡ true = ap is_ok (sym e4) ∙ h3 in
    e1 ∙ e2 ∙ e3 ∙ e4 ∙ unbarred (counts_fault lines rows) ok h4

-- the figures of a file that reads back are those that were written
same_figures : (number nodes ds us slots : ℕ) (v : PlanFigures) → v.slots ≡ slots → compared (whole number nodes ds us slots) v ≡ Ok (record { number = number; nodes = nodes; demands = ds; units = us; verdict = v })
same_figures number nodes ds us slots v e =
    cond-true (eqb ds ds && (eqb us us && eqb slots v.slots)) (Ok (record { number = number; nodes = nodes; demands = ds; units = us; verdict = v })) (Err (Figures (2 + ds + us)))
    (and_from (eqb ds ds) (eqb us us && eqb slots v.slots) (eq-eqb ds ds refl) (and_from (eqb us us) (eqb slots v.slots) (eq-eqb us us refl) (eq-eqb slots v.slots (sym e))))

pub takes_back : (number nodes : ℕ) (demands : List Demand) (rows : List Row) (text : List ℕ) → ReadsBack number nodes demands rows (slot_count rows) text → TakesBack number nodes demands rows text
takes_back number nodes demands rows text back limits plan on_sheet forDemands forUnits marks l k room =
    let g = back forDemands forUnits l k in
    let r = reading forDemands forUnits text in
    let w = whole number nodes (length demands) (length rows) (slot_count rows) in
    let v = figures nodes demands rows in
    let e : verdict nodes demands rows marks ≡ Ok v = passed_figures nodes demands rows marks ((passes nodes demands rows marks room limits).1 (plan, on_sheet)) in
    record {
      same_demands = g.same_demands;
      same_rows = g.same_rows;
      passes = e;
      answer =
          ap (λ ds. settled marks ds (rows_in r.frames) r.outcome) g.same_demands
          ∙ ap (λ rs. settled marks demands rs r.outcome) g.same_rows
          ∙ ap (settled marks demands rows) g.ends
          ∙ ap (verdict_in w) e
          ∙ same_figures number nodes (length demands) (length rows) (slot_count rows) v refl;
    }

-- of an answer with a text for each length
pub made_takes : (number nodes : ℕ) (demands : List Demand) (rows : List Row) (r : Result ℕ Refusal) (text : ℕ → List ℕ) → IfOk r (λ n. ReadsBack number nodes demands rows (slot_count rows) (text n)) → IfOk r (λ n. TakesBack number nodes demands rows (text n))
made_takes number nodes demands rows (Ok n) text back = takes_back number nodes demands rows (text n) back
made_takes number nodes demands rows (Err e) text back = tt
