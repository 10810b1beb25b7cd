-- What the verdict means, in the words of the ring.
use Rattle.std.specs.Prelude.{◌≡◌, ℕ, ◌-◌, ◌<◌, ◌≤◌, true, List, length, is_ok, IfOk, Err, Decides, Result, slice_index}
use Rattle.refusals.specs.declared.Refusal.{Refusal}
use Rattle.refusals.specs.declared.Refusal.TheVariants.{Collision}
use Rattle.ring.specs.Ring.{Link, Plan, WithinLimits, row_over, load, slot_count}
use Rattle.ring.specs.declared.Demand.{Demand}
use Rattle.ring.specs.declared.Row.{Row}
use Rattle.checkrows.specs.Rows.{OnSheet, row_at}
use Rattle.checker.specs.Verdicts.{verdict}
use Rattle.ring.specs.declared.Figures.{Figures}

-- ---- exactly the plans
-- for a ring and lines within the limits and a sheet of 1,024 marks or more, it passes if and only if the rows are a plan for the lines with
-- slots 1 to 1,024
abbrev pub PassesPlans : ℕ → List Demand → List Row → ℕ → Result Figures Refusal → Type 0
PassesPlans n lines rows marks r = 1024 ≤ marks → WithinLimits n lines → Decides (is_ok r) (Plan n lines rows × OnSheet rows)

-- all that has to hold for it to pass
pub record Good (n : ℕ) (lines : List Demand) (rows : List Row) (marks : ℕ) : Type 0 where
  pub room : 1024 ≤ marks
  pub limits : WithinLimits n lines
  pub plan : Plan n lines rows
  pub on_sheet : OnSheet rows

-- it passes if and only if all of this holds, whatever it is given
abbrev pub PassesExactly : ℕ → List Demand → List Row → ℕ → Result Figures Refusal → Type 0
PassesExactly n lines rows marks r = Decides (is_ok r) (Good n lines rows marks)

-- ---- the figures
-- they are those of the rows
pub record FiguresOf (n : ℕ) (lines : List Demand) (rows : List Row) (v : Figures) : Type 0 where
  pub slots : v.slots ≡ slot_count rows
  pub loads : (e : ℕ) → Link n e → slice_index v.loads (e - 1) ≡ load lines rows e
  pub past : (e : ℕ) → n < e → slice_index v.loads (e - 1) ≡ 0

-- where it passes, it has the figures of the rows
abbrev pub HasFigures : ℕ → List Demand → List Row → Result Figures Refusal → Type 0
HasFigures n lines rows r = IfOk r (FiguresOf n lines rows)

-- ---- collisions
-- two rows have one slot and share a link
abbrev pub Collide : ℕ → List Demand → Row → Row → Type 0
Collide n lines r q = (r.slot ≡ q.slot) × ((e : ℕ) × Link n e × (row_over lines r e ≡ true) × (row_over lines q e ≡ true))

-- by places from 0: row i is the first that collides with an earlier row, and row j is the first that it collides with
pub record FirstCollision (n : ℕ) (lines : List Demand) (rows : List Row) (i j : ℕ) : Type 0 where
  pub earlier : j < i
  pub given : i < length rows
  pub collide : Collide n lines (row_at rows i) (row_at rows j)
  pub first_met : (b : ℕ) → b < j → Collide n lines (row_at rows i) (row_at rows b) → ⊥
  pub none_before : (a b : ℕ) → b < a → a < i → Collide n lines (row_at rows a) (row_at rows b) → ⊥

-- where the refusal is a collision, it names the first one; the refusal names rows from 1
abbrev pub NamesCollision : ℕ → List Demand → List Row → Result Figures Refusal → Type 0
NamesCollision n lines rows r = (row met : ℕ) → r ≡ Err (Collision row met) → (1 ≤ row) × (1 ≤ met) × FirstCollision n lines rows (row - 1) (met - 1)

-- ---- all of this together, of an answer r that is the verdict
pub record Answered (n : ℕ) (lines : List Demand) (rows : List Row) (marks : ℕ) (r : Result Figures Refusal) : Type 0 where
  pub answer : r ≡ verdict n lines rows marks
  pub passes : PassesPlans n lines rows marks r
  pub exactly : PassesExactly n lines rows marks r
  pub figures : HasFigures n lines rows r
  pub collision : NamesCollision n lines rows r

-- the verdict means all of this, whatever it is given
abbrev pub VerdictMeans : Type 0
VerdictMeans = (n : ℕ) (lines : List Demand) (rows : List Row) (marks : ℕ) → Answered n lines rows marks (verdict n lines rows marks)
