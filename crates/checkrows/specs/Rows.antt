-- What is wrong with the rows: the first cause in the order of the checks. Places count from 0, and a refusal names lines and rows from 1.
use Rattle.std.specs.Prelude.{◌≡◌, ℕ, ◌+◌, ◌≤◌, Bool, true, cond, not, ◌&&◌, List, [], ◌∷◌, length, Some, None, Option, ◌==◌, nat_eq, nat_le, nat_lt, slice_index_or}
use Rattle.std.specs.List.{range_with_len, prefix_len, position_or_len, AllByRecursion as Each}
use Rattle.refusals.specs.declared.Refusal.{Refusal}
use Rattle.refusals.specs.declared.Refusal.TheVariants.{DemandUnknown, SlotOutside, SideWrong, Collision, CountWrong}
use Rattle.ring.specs.Sums.{count_of, some}
use Rattle.ring.specs.Ring.{named, row_over, Plan}
use Rattle.ring.specs.declared.Demand.{Demand}
use Rattle.ring.specs.declared.Row.{Row}
use Rattle.std.specs.Option.{option_or}
use Rattle.checklines.specs.Faults.{first_fault, from_to}

-- the row at a place, and past the end a row of noughts
abbrev pub row_at : List Row → ℕ → Row
row_at rows k = slice_index_or rows k (record { demand = 0; side = 0; slot = 0 })

-- ---- one row after another
-- the first row of the demand k, if there is one, has the side s
abbrev pub like_first : ℕ → ℕ → List Row → Bool
like_first k s [] = true
like_first k s (q ∷ qs) = cond (q.demand == k) (q.side == s) (like_first k s qs)

-- the routes of two rows share a link of the ring of n nodes
abbrev pub meet : ℕ → List Demand → Row → Row → Bool
meet n lines r q = some (λ e. row_over lines r e && row_over lines q e) (range_with_len 1 n)

-- two rows cannot stand in one plan
abbrev pub clash : ℕ → List Demand → Row → Row → Bool
clash n lines r q = q.slot == r.slot && meet n lines r q

-- the place of the earliest row that r clashes with, or how many rows there are
abbrev pub earliest : ℕ → List Demand → List Row → Row → ℕ
earliest n lines before r = position_or_len (clash n lines r) before

-- what is wrong with a row by itself, and beside its demand's first row
abbrev pub form_fault : List Demand → List Row → Row → Option Refusal
form_fault lines before r =
    cond (not (named lines r.demand)) (Some (DemandUnknown (length before + 1)))
    (cond (not (from_to 1 1024 r.slot)) (Some (SlotOutside (length before + 1)))
    (cond (not (nat_le r.side 1 && like_first r.demand r.side before)) (Some (SideWrong (length before + 1)))
    None))

-- a row clashes with an earlier one
abbrev pub collision_fault : ℕ → List Demand → List Row → Row → Option Refusal
collision_fault n lines before r =
    cond (nat_lt (earliest n lines before r) (length before)) (Some (Collision (length before + 1) (earliest n lines before r + 1))) None

-- what is wrong with a row, after the rows before it
abbrev pub row_fault : ℕ → List Demand → List Row → Row → Option Refusal
row_fault n lines before r = option_or (form_fault lines before r) (collision_fault n lines before r)

-- what is wrong with the rows: the fault of the first row that has one
abbrev pub rows_fault : ℕ → List Demand → List Row → Option Refusal
rows_fault n lines rows = first_fault (row_fault n lines) [] rows

-- ---- all rows of each line
-- the demand has as many rows as units
abbrev pub is_full : List Row → Demand → Bool
is_full rows d = count_of (λ (r : Row). nat_eq d.number r.demand) rows == d.units

-- the first line with too few or too many rows
abbrev pub counts_fault : List Demand → List Row → Option Refusal
counts_fault lines rows = cond (nat_lt (prefix_len (is_full rows) lines) (length lines)) (Some (CountWrong (prefix_len (is_full rows) lines + 1))) None

-- ---- the same in other words
-- all slots are 1 to 1,024
abbrev pub OnSheet : List Row → Type 0
OnSheet rows = Each (λ (r : Row). (1 ≤ r.slot) × (r.slot ≤ 1024)) rows

-- the rows and their counts have no fault exactly where the rows are a plan on the sheet
abbrev pub RowsDecided : Type 0
RowsDecided = (n : ℕ) (lines : List Demand) (rows : List Row) →
    (rows_fault n lines rows ≡ None → counts_fault lines rows ≡ None → Plan n lines rows × OnSheet rows) ×
    (Plan n lines rows → OnSheet rows → (rows_fault n lines rows ≡ None) × (counts_fault lines rows ≡ None))
