-- The verdict of the checker: the figures of the rows, or the first cause against them in the order of the checks.
use Rattle.std.specs.Prelude.{ℕ, cond, not, List, Some, None, Ok, Err, Option, Result, nat_lt}
use Rattle.refusals.specs.declared.Refusal.{Refusal}
use Rattle.refusals.specs.declared.Refusal.TheVariants.{RingSize, TooFew}
use Rattle.ring.specs.Ring.{load, slot_count}
use Rattle.ring.specs.Sides.{per_link}
use Rattle.ring.specs.declared.Demand.{Demand}
use Rattle.ring.specs.declared.Row.{Row}
use Rattle.checklines.specs.Faults.{from_to}
use Rattle.checklines.specs.Lines.{lines_fault}
use Rattle.checkrows.specs.Rows.{rows_fault, counts_fault}
use Rattle.ring.specs.declared.Figures.{Figures}

abbrev pub ring_fault : ℕ → Option Refusal
ring_fault n = cond (not (from_to 3 16 n)) (Some RingSize) None

-- the number of marks that the sheet has is too small
abbrev pub sheet_fault : ℕ → Option Refusal
sheet_fault marks = cond (nat_lt marks 1024) (Some (TooFew 1024)) None

-- the slot count and the loads of the rows
abbrev pub figures : ℕ → List Demand → List Row → Figures
figures n lines rows = record { slots = slot_count rows; loads = per_link n (load lines rows) }

-- the fault, if there is one, else the answer
abbrev pub unless : Option Refusal → Result Figures Refusal → Result Figures Refusal
unless (Some f) r = Err f
unless None r = r

-- for n nodes, demand lines, rows, and a sheet of so many marks
abbrev pub verdict : ℕ → List Demand → List Row → ℕ → Result Figures Refusal
verdict n lines rows marks =
    unless (ring_fault n)
    (unless (sheet_fault marks)
    (unless (lines_fault n lines)
    (unless (rows_fault n lines rows)
    (unless (counts_fault lines rows)
    (Ok (figures n lines rows))))))
