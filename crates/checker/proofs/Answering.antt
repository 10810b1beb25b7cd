-- The answer of the check, put together from its parts.
use Rattle.std.proofs.Common.{◌≡◌, ℕ, ◌≤◌, List, length, Some, None, Ok, Err, Option, Result, sym, refl, ap, ◌∙◌, subst}
use Rattle.refusals.specs.declared.Refusal.{Refusal}
use Rattle.ring.specs.Ring.{WithinLimits}
use Rattle.ring.specs.declared.Demand.{Demand}
use Rattle.ring.specs.declared.Row.{Row}
use Rattle.std.specs.Option.{option_or}
use Rattle.checklines.specs.Lines.{lines_fault}
use Rattle.checklines.proofs.Walk.{or_none}
use Rattle.checklines.proofs.LinesPass.{lines_limits}
use Rattle.checkrows.specs.Rows.{rows_fault, counts_fault}
use Rattle.checker.specs.Verdicts.{ring_fault, sheet_fault, figures, unless, verdict}
use Rattle.checker.specs.Claims.{Answered}
use Rattle.ring.specs.declared.Figures.{Figures}
use Rattle.checker.proofs.Passing.{none_ring, none_sheet, passes, passes_exactly, unless_pass, unless_stop}
use Rattle.checker.proofs.Numbers.{has_figures, rows_1024}
use Rattle.checker.proofs.Collisions.{names_collision}

pub answered : (n : ℕ) (lines : List Demand) (rows : List Row) (m : ℕ) (r : Result Figures Refusal) → r ≡ verdict n lines rows m → Answered n lines rows m r
answered n lines rows m r e =
    subst (λ r. Answered n lines rows m r) (sym e)
    (record { answer = refl; passes = passes n lines rows m; exactly = passes_exactly n lines rows m; figures = has_figures n lines rows m; collision = names_collision n lines rows m })

-- ---- a fault of each part
module _ (n : ℕ) (lines : List Demand) (rows : List Row) (m : ℕ) where
  -- of what comes before the rows
  abbrev pub Given : Option Refusal
  Given = option_or (ring_fault n) (option_or (sheet_fault m) (lines_fault n lines))

  unless_first : (o p q : Option Refusal) (r : Result Figures Refusal) → unless o (unless p (unless q r)) ≡ unless (option_or o (option_or p q)) r
  unless_first (Some f) p q r = refl
  unless_first None (Some f) q r = refl
  unless_first None None q r = refl

  by_given : verdict n lines rows m ≡ unless Given (unless (rows_fault n lines rows) (unless (counts_fault lines rows) (Ok (figures n lines rows))))
  by_given = unless_first (ring_fault n) (sheet_fault m) (lines_fault n lines) _

  pub given_stops : (f : Refusal) → Given ≡ Some f → Answered n lines rows m (Err f)
  given_stops f h = answered n lines rows m (Err f) (sym (by_given ∙ unless_stop Given _ f h))

  module _ (h : Given ≡ None) where
    pub limits : WithinLimits n lines
    limits =
        let a = or_none (ring_fault n) _ h in
        let b = or_none (sheet_fault m) _ a.1 in
        let ring = none_ring n a.0 in
        lines_limits n lines ring.0 ring.1 b.1

    pub room : 1024 ≤ m
    room = none_sheet m (or_none (sheet_fault m) _ (or_none (ring_fault n) _ h).1).0

    pub rows_stop : (f : Refusal) → rows_fault n lines rows ≡ Some f → Answered n lines rows m (Err f)
    rows_stop f e = answered n lines rows m (Err f) (sym (by_given ∙ unless_pass Given _ h ∙ unless_stop (rows_fault n lines rows) _ f e))

    module _ (g : rows_fault n lines rows ≡ None) where
      pub counts_stop : (f : Refusal) → counts_fault lines rows ≡ Some f → Answered n lines rows m (Err f)
      counts_stop f e = answered n lines rows m (Err f) (sym (by_given ∙ unless_pass Given _ h ∙ unless_pass (rows_fault n lines rows) _ g ∙ unless_stop (counts_fault lines rows) _ f e))

      module _ (k : counts_fault lines rows ≡ None) where
        pub few : length rows ≤ 1024
        few = rows_1024 n lines rows limits g k

        pub all_pass : (v : Figures) → v ≡ figures n lines rows → Answered n lines rows m (Ok v)
        all_pass v e =
            answered n lines rows m (Ok v)
            (ap (λ v. Ok v) e ∙ sym (by_given ∙ unless_pass Given _ h ∙ unless_pass (rows_fault n lines rows) _ g ∙ unless_pass (counts_fault lines rows) _ k))
