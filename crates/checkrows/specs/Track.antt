-- What the code keeps while it goes through the rows: the sheet of marks, and the side of each line's first row. No contract of the whole
-- check speaks of this.
use Rattle.std.specs.Prelude.{◌≡◌, ℕ, ◌+◌, ◌-◌, ◌<◌, Bool, true, false, cond, not, ◌&&◌, List, [], ◌∷◌, length, take, drop, Some, None, Option, ◌==◌, bit_or, nat_le, slice_index, slice_index_or, slice_set}
use Rattle.std.specs.List.{position_or_len}
use Rattle.std.specs.Option.{option_map_or}
use Rattle.refusals.specs.declared.Refusal.{Refusal}
use Rattle.refusals.specs.declared.Refusal.TheVariants.{SlotOutside, SideWrong}
use Rattle.ring.specs.Sums.{some}
use Rattle.ring.specs.Ring.{named, row_over}
use Rattle.ring.specs.Masks.{bits}
use Rattle.ring.specs.declared.Demand.{Demand}
use Rattle.ring.specs.declared.Row.{Row}
use Rattle.checklines.specs.Faults.{from_to, first_fault}
use Rattle.checkrows.specs.Rows.{clash, row_fault, rows_fault, row_at}

-- ---- lines by their numbers
-- the place of the first line with the number, or how many lines there are
abbrev pub line_of : List Demand → ℕ → ℕ
line_of lines number = position_or_len (λ (d : Demand). d.number == number) lines

-- a line by its place, and past the end a line of noughts
abbrev pub line_at : List Demand → ℕ → Demand
line_at lines k = slice_index_or lines k (record { number = 0; lower = 0; upper = 0; units = 0 })

-- k is the place of the line with the number
pub record LineOf (lines : List Demand) (number k : ℕ) : Type 0 where
  pub place : k ≡ line_of lines number
  pub inside : k < length lines
  pub known : named lines number ≡ true

-- ---- the side of each line's first row
-- of the first row of the demand, if there is one
abbrev pub first_side : ℕ → List Row → Option ℕ
first_side number [] = None
first_side number (q ∷ qs) = cond (q.demand == number) (Some q.side) (first_side number qs)

-- the side, if there is one, is s
abbrev pub alike : Option ℕ → ℕ → Bool
alike first s = option_map_or (λ t. t == s) first true

-- what is wrong with the slot or the side of a row, where its demand's first row has the given side
abbrev pub slot_or_side_fault : Row → Option ℕ → ℕ → Option Refusal
slot_or_side_fault r first place =
    cond (not (from_to 1 1024 r.slot)) (Some (SlotOutside place))
    (cond (not (nat_le r.side 1 && alike first r.side)) (Some (SideWrong place)) None)

-- for each line, the side of its first row
abbrev pub Seen : List Demand → List Row → List (Option ℕ) → Type 0
Seen lines rows firsts = (j : ℕ) → j < length lines → slice_index_or firsts j None ≡ first_side (line_at lines j).number rows

-- ---- the sheet
-- the link mask of a row: bit e - 1 says whether its route holds the link e
abbrev pub mask : ℕ → List Demand → Row → ℕ
mask n lines r = bits 1 n (row_over lines r)

-- a row in the slot holds the link
abbrev pub held : List Demand → List Row → ℕ → ℕ → Bool
held lines rows slot e = some (λ (q : Row). (q.slot == slot) && row_over lines q e) rows

-- each mark has the bits of the links that rows in its slot hold
abbrev pub Tied : ℕ → List Demand → List Row → List ℕ → Type 0
Tied n lines rows marks = (k : ℕ) → k < 1024 → slice_index marks k ≡ bits 1 n (held lines rows (k + 1))

-- the sheet with a mask marked in a slot
abbrev pub marked_at : List ℕ → ℕ → ℕ → List ℕ
marked_at marks slot w = slice_set marks (slot - 1) (bit_or (slice_index marks (slot - 1)) w)

-- ---- pairs of rows
-- row i clashes with none of the first m rows
abbrev pub ClearOf : ℕ → List Demand → List Row → ℕ → ℕ → Type 0
ClearOf n lines rows i m = (a : ℕ) → a < m → clash n lines (row_at rows i) (row_at rows a) ≡ false

-- of the first m rows no two clash
abbrev pub ClearTo : ℕ → List Demand → List Row → ℕ → Type 0
ClearTo n lines rows m = (b : ℕ) → b < m → ClearOf n lines rows b b

-- row i is the first that clashes with an earlier row, and j the first such
abbrev pub FirstClash : ℕ → List Demand → List Row → ℕ → ℕ → Type 0
FirstClash n lines rows i j = (j < i) × (i < length rows) × (clash n lines (row_at rows i) (row_at rows j) ≡ true) × ClearOf n lines rows i j × ClearTo n lines rows i

-- ---- the rows so far
-- the first i rows have passed: what is left decides, and the sheet and the first sides stand for them
pub record Going (n : ℕ) (lines : List Demand) (rows : List Row) (i : ℕ) (firsts : List (Option ℕ)) (marks : List ℕ) : Type 0 where
  pub fault : first_fault (row_fault n lines) (take i rows) (drop i rows) ≡ rows_fault n lines rows
  pub tied : Tied n lines (take i rows) marks
  pub seen : Seen lines (take i rows) firsts
  pub size : length firsts ≡ 128
  pub clear : ClearTo n lines rows i
