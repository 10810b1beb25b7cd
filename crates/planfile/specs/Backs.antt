-- A plan that is taken back from a text.
use Rattle.std.specs.Prelude.{◌≡◌, ℕ, ◌≤◌, List, length, Ok}
use Rattle.ring.specs.Ring.{Plan, WithinLimits}
use Rattle.ring.specs.declared.Demand.{Demand}
use Rattle.ring.specs.declared.Row.{Row}
use Rattle.frames.specs.Reading.{Reading, reading, demands_in, rows_in}
use Rattle.checkrows.specs.Rows.{OnSheet}
use Rattle.checker.specs.Verdicts.{figures, verdict}
use Rattle.planfile.specs.Taking.{taking}

-- taking what was read gives a plan back: the same demands and rows, the same book number and ring size, the counts, and the verdict of the
-- checker, which passes it with its figures
pub record Returns (number nodes : ℕ) (demands : List Demand) (rows : List Row) (marks : ℕ) (r : Reading) : Type 0 where
  pub same_demands : demands_in r.frames ≡ demands
  pub same_rows : rows_in r.frames ≡ rows
  pub passes : verdict nodes demands rows marks ≡ Ok (figures nodes demands rows)
  pub answer : taking marks r ≡ Ok (record { number = number; nodes = nodes; demands = length demands; units = length rows; verdict = figures nodes demands rows })

-- a text is taken back as a plan, if it is one within the limits with slots 1 to 1,024, wherever there are places and marks enough
abbrev pub TakesBack : ℕ → ℕ → List Demand → List Row → List ℕ → Type 0
TakesBack number nodes demands rows text =
    WithinLimits nodes demands → Plan nodes demands rows → OnSheet rows →
    (forDemands forUnits marks : ℕ) → length demands ≤ forDemands → length rows ≤ forUnits → 1024 ≤ marks →
    Returns number nodes demands rows marks (reading forDemands forUnits text)
