-- What is wrong with the demand lines: the first cause in the order of the checks.
use Rattle.std.specs.Prelude.{◌≡◌, ℕ, ◌+◌, ◌≤◌, cond, not, ◌&&◌, ◌||◌, List, [], length, Some, None, Option, ◌==◌, nat_le, nat_lt}
use Rattle.refusals.specs.declared.Refusal.{Refusal}
use Rattle.refusals.specs.declared.Refusal.TheVariants.{BookFull, EndOutside, EndsFalling, UnitsOutside, NumberTaken, UnitsPast}
use Rattle.ring.specs.Ring.{named, units, WithinLimits}
use Rattle.ring.specs.declared.Demand.{Demand}
use Rattle.checklines.specs.Faults.{first_fault, from_to}

-- what is wrong with a line, after the lines before it
abbrev pub line_fault : ℕ → List Demand → Demand → Option Refusal
line_fault n before d =
    cond (nat_le 128 (length before)) (Some (BookFull (length before + 1)))
    (cond (not (from_to 1 n d.lower && from_to 1 n d.upper)) (Some (EndOutside (length before + 1)))
    (cond (nat_le d.upper d.lower) (Some (EndsFalling (length before + 1)))
    (cond (not (from_to 1 48 d.units)) (Some (UnitsOutside (length before + 1)))
    (cond (d.number == 0 || named before d.number) (Some (NumberTaken (length before + 1)))
    (cond (nat_lt 1024 (units before + d.units)) (Some (UnitsPast (length before + 1)))
    None)))))

-- what is wrong with the lines: the fault of the first line that has one
abbrev pub lines_fault : ℕ → List Demand → Option Refusal
lines_fault n lines = first_fault (line_fault n) [] lines

-- on a ring of 3 to 16 nodes, lines have no fault exactly where they are within the limits
abbrev pub LinesDecided : Type 0
LinesDecided = (n : ℕ) (lines : List Demand) → 3 ≤ n → n ≤ 16 →
    (lines_fault n lines ≡ None → WithinLimits n lines) × (WithinLimits n lines → lines_fault n lines ≡ None)
