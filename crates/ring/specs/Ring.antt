-- Routes, cuts, demands, rows and plans. A ring has n nodes, 1 to n clockwise, and n links: link e joins the nodes e and e + 1, and link n
-- the nodes n and 1. Numbers have no upper end here, so whatever is said of every plan holds of plans with slots of any size.
use Rattle.std.specs.Prelude.{◌≡◌, ℕ, ◌+◌, ◌-◌, ◌/◌, ◌<◌, ◌≤◌, Bool, true, false, cond, not, ◌&&◌, ◌||◌, leb, List, [], ◌∷◌, length, ◌==◌, ◌≢◌, nat_eq, nat_le, nat_lt, slice_index_or}
use Rattle.std.specs.List.{AllByRecursion as Each}
use Rattle.ring.specs.Sums.{sum_of, count_of, most_of, each}
use Rattle.ring.specs.declared.Demand.{Demand}
use Rattle.ring.specs.declared.Row.{Row}

-- e is a link of the ring of n nodes
abbrev pub Link : ℕ → ℕ → Type 0
Link n e = (1 ≤ e) × (e ≤ n)

-- i and j are the ends of a demand on that ring, the lower first
abbrev pub Ends : ℕ → ℕ → ℕ → Type 0
Ends n i j = (1 ≤ i) × (i < j) × (j ≤ n)

-- ---- routes
-- the clockwise route of the ends i < j holds the links i to j - 1
abbrev pub within : ℕ → ℕ → ℕ → Bool
within i j e = nat_le i e && nat_lt e j

-- whether the route on a side holds the link e of the ring. On side 0, clockwise, it holds the links within the ends; on any other side it goes
-- the other way round, and holds all the other links
abbrev pub over : ℕ → ℕ → ℕ → ℕ → Bool
over side i j e = cond (side == 0) (within i j e) (not (within i j e))

-- ---- cuts
-- whether exactly one of two tests passes
abbrev pub differ : Bool → Bool → Bool
differ true b = not b
differ false b = b

-- whether the clockwise route of the demand holds exactly one of the links e and f; then so does the other route
abbrev pub crosses : Demand → ℕ → ℕ → Bool
crosses d e f = differ (within d.lower d.upper e) (within d.lower d.upper f)

-- the total of the cut at the links e and f: the units of the demands that cross it, each demand's once
abbrev pub cut : List Demand → ℕ → ℕ → ℕ
cut ds e f = sum_of (λ d. cond (crosses d e f) d.units 0) ds

-- the total of the heaviest cut of the ring, over all links e < f
abbrev pub heaviest : ℕ → List Demand → ℕ
heaviest n ds = most_of n (λ f. most_of (f - 1) (λ e. cut ds e f))

-- half the heaviest total, rounded up
abbrev pub lower_bound_of : ℕ → List Demand → ℕ
lower_bound_of n ds = (heaviest n ds + 1) / 2

-- ---- demands
-- no number is given twice
abbrev pub Numbered : List Demand → Type 0
Numbered [] = Unit {0}
Numbered (d ∷ ds) = Each (λ (c : Demand). c.number ≢ d.number) ds × Numbered ds

-- the ends are on the ring, the lower below the upper
abbrev pub Fitting : ℕ → List Demand → Type 0
Fitting n ds = Each (λ (d : Demand). Ends n d.lower d.upper) ds

-- all units of the demands
abbrev pub units : List Demand → ℕ
units ds = sum_of (λ (d : Demand). d.units) ds

-- what a list of demands has to keep to: a ring of 3 to 16 nodes, ends on it, numbers from 1 and no two alike, 1 to 48 units each, at most
-- 128 demands and 1,024 units. (That a number is at most 65,535 its type says.)
pub record WithinLimits (n : ℕ) (ds : List Demand) : Type 0 where
  pub least : 3 ≤ n
  pub most : n ≤ 16
  pub fitting : Fitting n ds
  pub numbered : Numbered ds
  pub numbers : Each (λ (d : Demand). 1 ≤ d.number) ds
  pub sized : Each (λ (d : Demand). (1 ≤ d.units) × (d.units ≤ 48)) ds
  pub few : length ds ≤ 128
  pub total : units ds ≤ 1024

-- the same as a test, which a field of a struct can state
abbrev pub ends_test : ℕ → Demand → Bool
ends_test n d = nat_le 1 d.lower && (nat_lt d.lower d.upper && nat_le d.upper n)

abbrev pub units_test : Demand → Bool
units_test d = nat_le 1 d.units && nat_le d.units 48

abbrev pub numbered_test : List Demand → Bool
numbered_test [] = true
numbered_test (d ∷ ds) = each (λ (c : Demand). not (c.number == d.number)) ds && numbered_test ds

abbrev pub within_limits : ℕ → List Demand → Bool
within_limits n ds =
    nat_le 3 n
    && (nat_le n 16
    && (each (ends_test n) ds && (numbered_test ds && (each (λ (d : Demand). leb 1 d.number) ds && (each units_test ds && (nat_le (length ds) 128 && nat_le (units ds) 1024))))))

-- whether some demand has the number k
abbrev pub named : List Demand → ℕ → Bool
named [] k = false
named (d ∷ ds) k = d.number == k || named ds k

-- ---- rows
-- whether the route of a row, between the ends of the demand of its number, holds the link e
abbrev pub row_over : List Demand → Row → ℕ → Bool
row_over [] r e = false
row_over (d ∷ ds) r e = cond (d.number == r.demand) (over r.side d.lower d.upper e) (row_over ds r e)

-- the load of the link e: how many rows have a route that holds it
abbrev pub load : List Demand → List Row → ℕ → ℕ
load ds rows e = count_of (λ r. row_over ds r e) rows

-- whether k stands in the list
abbrev pub has : ℕ → List ℕ → Bool
has k [] = false
has k (x ∷ xs) = k == x || has k xs

-- the slots in use, each once
abbrev pub slots : List Row → List ℕ
slots [] = []
slots (r ∷ rs) = cond (has r.slot (slots rs)) (slots rs) (r.slot ∷ slots rs)

-- the slot count: the number of distinct slots
abbrev pub slot_count : List Row → ℕ
slot_count rows = length (slots rows)

-- whether a row has the slot k
abbrev pub in_use : ℕ → List Row → Bool
in_use k [] = false
in_use k (r ∷ rs) = k == r.slot || in_use k rs

-- ---- plans
-- the rows r and q, of two places, may stand in one plan: if they have one slot, no link of the ring is in both routes
abbrev pub Apart : ℕ → List Demand → Row → Row → Type 0
Apart n ds r q = q.slot ≡ r.slot → (e : ℕ) → Link n e → row_over ds r e ≡ true → row_over ds q e ≢ true

-- any two rows may
abbrev pub Clear : ℕ → List Demand → List Row → Type 0
Clear n ds [] = Unit {0}
Clear n ds (r ∷ rs) = Each (λ (q : Row). Apart n ds r q) rs × Clear n ds rs

-- The rows are a plan for the demands. A rival of a plan is any rows that are a plan for the same demands, however routed and slotted.
pub record Plan (n : ℕ) (ds : List Demand) (rows : List Row) : Type 0 where
  -- every row is of one of the demands
  pub known : Each (λ (r : Row). named ds r.demand ≡ true) rows
  -- each demand has as many rows as units
  pub full : Each (λ (d : Demand). count_of (λ (r : Row). nat_eq d.number r.demand) rows ≡ d.units) ds
  -- its rows have one side, 0 or 1
  pub sided : Each (λ (d : Demand). (s : ℕ) × (s ≤ 1) × Each (λ (r : Row). r.demand ≡ d.number → r.side ≡ s) rows) ds
  -- no two rows in one slot have routes that share a link
  pub clear : Clear n ds rows

-- ---- the same in other words
-- Clear, by places
abbrev pub ClearAt : ℕ → List Demand → List Row → Type 0
ClearAt n ds rows = (a b : ℕ) (z : Row) → a < b → b < length rows → Apart n ds (slice_index_or rows a z) (slice_index_or rows b z)

-- each number once
abbrev pub Once : List ℕ → Type 0
Once [] = Unit {0}
Once (x ∷ xs) = (has x xs ≡ false) × Once xs
