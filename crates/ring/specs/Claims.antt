-- What some of the definitions mean in other words.
use Rattle.std.specs.Prelude.{◌≡◌, ℕ, true, List}
use Rattle.std.specs.List.{AllByRecursion as Each}
use Rattle.ring.specs.Ring.{Link, WithinLimits, within_limits, slots, slot_count, Clear, ClearAt, Once, has, in_use}
use Rattle.ring.specs.declared.Demand.{Demand}
use Rattle.ring.specs.declared.Row.{Row}

-- Clear says of every two places of the rows that what stands there may stand in one plan
abbrev pub ClearByPlaces : Type 0
ClearByPlaces = (n : ℕ) (ds : List Demand) (rows : List Row) → (Clear n ds rows → ClearAt n ds rows) × (ClearAt n ds rows → Clear n ds rows)

-- the test of the limits decides them
abbrev pub LimitsDecided : Type 0
LimitsDecided = (n : ℕ) (ds : List Demand) → (within_limits n ds ≡ true → WithinLimits n ds) × (WithinLimits n ds → within_limits n ds ≡ true)

-- the slots that are counted are the slots in use, each once
abbrev pub SlotsCountedOnce : List Row → Type 0
SlotsCountedOnce rows = Once (slots rows) × ((k : ℕ) → has k (slots rows) ≡ in_use k rows)

-- where the slots in use are 1 to m without a gap, m are counted
abbrev pub GaplessSlotsCounted : List Row → Type 0
GaplessSlotsCounted rows = (m : ℕ) → Each (λ (r : Row). Link m r.slot) rows → ((k : ℕ) → Link m k → in_use k rows ≡ true) → slot_count rows ≡ m
