-- What a refusal of the checker is about, by the lines of a plan file: its demand k stands on line 1 + k, and with so many demands its row r
-- stands on line 1 + demands + r.
use Rattle.std.specs.Prelude.{◌≡◌, ℕ, ◌+◌, ◌<◌, ◌≤◌, List, length, Err}
use Rattle.refusals.specs.declared.Refusal.{Refusal}
use Rattle.refusals.specs.declared.Refusal.TheVariants.{RingSize, Planned, Unplanned, EndOutside, EndsFalling, UnitsOutside, NumberTaken, NumberUnknown, BookFull, UnitsPast, NodesOut, NodeOut, SlipsSpent, SlipUnknown, TooFew, LineForm, FrameForm, FrameOrder, FiguresWrong, DemandUnknown, SideWrong, SlotOutside, Collision, CountWrong, NoWeight, NoLink}
use Rattle.ring.specs.declared.Demand.{Demand}
use Rattle.ring.specs.declared.Row.{Row}
use Rattle.checker.specs.Verdicts.{verdict}

-- the line that a refusal is of: the demand's, the row's (of two rows that collide the later one's), and line 1 for the ring size and the sheet;
-- the other causes are not the checker's
abbrev pub line_of : ℕ → Refusal → ℕ
line_of demands (EndOutside place) = 1 + place
line_of demands (EndsFalling place) = 1 + place
line_of demands (UnitsOutside place) = 1 + place
line_of demands (NumberTaken place) = 1 + place
line_of demands (BookFull place) = 1 + place
line_of demands (UnitsPast place) = 1 + place
line_of demands (CountWrong line) = 1 + line
line_of demands (DemandUnknown row) = 1 + demands + row
line_of demands (SideWrong row) = 1 + demands + row
line_of demands (SlotOutside row) = 1 + demands + row
line_of demands (Collision row met) = 1 + demands + row
line_of demands RingSize = 1
line_of demands (TooFew needed) = 1
line_of demands Planned = 1
line_of demands Unplanned = 1
line_of demands NumberUnknown = 1
line_of demands NodesOut = 1
line_of demands NodeOut = 1
line_of demands SlipsSpent = 1
line_of demands SlipUnknown = 1
line_of demands (LineForm line character) = 1
line_of demands (FrameForm line) = 1
line_of demands (FrameOrder line) = 1
line_of demands (FiguresWrong line) = 1
line_of demands (NoWeight link) = 1
line_of demands NoLink = 1

-- k is one of 1 to m
abbrev pub OneOf : ℕ → ℕ → Type 0
OneOf m k = (1 ≤ k) × (k ≤ m)

-- what a refusal names is one of so many demands or so many rows; the causes that are not the checker's are ruled out
abbrev pub Named : ℕ → ℕ → Refusal → Type 0
Named demands rows (EndOutside place) = OneOf demands place
Named demands rows (EndsFalling place) = OneOf demands place
Named demands rows (UnitsOutside place) = OneOf demands place
Named demands rows (NumberTaken place) = OneOf demands place
Named demands rows (BookFull place) = OneOf demands place
Named demands rows (UnitsPast place) = OneOf demands place
Named demands rows (CountWrong line) = OneOf demands line
Named demands rows (DemandUnknown row) = OneOf rows row
Named demands rows (SideWrong row) = OneOf rows row
Named demands rows (SlotOutside row) = OneOf rows row
Named demands rows (Collision row met) = OneOf rows row × (1 ≤ met) × (met < row)
Named demands rows RingSize = Unit {0}
Named demands rows (TooFew needed) = needed ≡ 1024
Named demands rows Planned = ⊥
Named demands rows Unplanned = ⊥
Named demands rows NumberUnknown = ⊥
Named demands rows NodesOut = ⊥
Named demands rows NodeOut = ⊥
Named demands rows SlipsSpent = ⊥
Named demands rows SlipUnknown = ⊥
Named demands rows (LineForm line character) = ⊥
Named demands rows (FrameForm line) = ⊥
Named demands rows (FrameOrder line) = ⊥
Named demands rows (FiguresWrong line) = ⊥
Named demands rows (NoWeight link) = ⊥
Named demands rows NoLink = ⊥

-- this holds of every refusal of the checker
abbrev pub RefusalsNamed : Type 0
RefusalsNamed = (n : ℕ) (lines : List Demand) (rows : List Row) (marks : ℕ) (e : Refusal) →
    verdict n lines rows marks ≡ Err e → Named (length lines) (length rows) e
