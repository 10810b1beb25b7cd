-- A plan that reads back from a text.
use Rattle.std.specs.Prelude.{◌≡◌, ℕ, ◌≤◌, List, length, Ok}
use Rattle.ring.specs.declared.Demand.{Demand}
use Rattle.ring.specs.declared.Row.{Row}
use Rattle.frames.specs.declared.Contents.{Contents}
use Rattle.frames.specs.Reading.{Reading, reading, demands_in, rows_in}

-- what the whole file of a plan says
abbrev pub whole : ℕ → ℕ → ℕ → ℕ → ℕ → Contents
whole number nodes demands units slots =
    record { heading = record { number = number; nodes = nodes }; demands = demands; units = units; totals = record { demands = demands; units = units; slots = slots } }

-- a reading gives a plan back: the same demands and rows, and at the end the same book number, ring size, counts and slot count
pub record Gives (number nodes : ℕ) (demands : List Demand) (rows : List Row) (slots : ℕ) (r : Reading) : Type 0 where
  pub same_demands : demands_in r.frames ≡ demands
  pub same_rows : rows_in r.frames ≡ rows
  pub ends : r.outcome ≡ Ok (whole number nodes (length demands) (length rows) slots)

-- a text reads back as a plan, wherever there are places enough
abbrev pub ReadsBack : ℕ → ℕ → List Demand → List Row → ℕ → List ℕ → Type 0
ReadsBack number nodes demands rows slots text =
    (forDemands forUnits : ℕ) → length demands ≤ forDemands → length rows ≤ forUnits →
    Gives number nodes demands rows slots (reading forDemands forUnits text)
