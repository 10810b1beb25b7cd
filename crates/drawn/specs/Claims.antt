-- The theorems of slotting. A rival is any plan for the same demands, routed and slotted anyhow.
use Rattle.std.specs.Prelude.{◌≡◌, ℕ, ◌+◌, ◌*◌, ◌≤◌, true, List, ◌++◌, length}
use Rattle.std.specs.List.{AllByRecursion as Each}
use Rattle.ring.specs.Ring.{Plan, WithinLimits, Link, heaviest, load, slot_count, in_use}
use Rattle.ring.specs.Sides.{Choice, Parallel, chosen_load, route_load, shut}
use Rattle.ring.specs.declared.Demand.{Demand}
use Rattle.ring.specs.declared.Route.{Route}
use Rattle.ring.specs.declared.Row.{Row}
use Rattle.drawn.specs.FirstFit.{fitted}
use Rattle.drawn.specs.Slotting.{shares, units_over, units_beside, slotted_at, slotted, slots_of, Rising, drawn, slots_shut, best_link}

-- ---- the definitions in other words
-- The units over the cut link are as many as its load, and the slots that they get are the lowest that are free for them too: slotting is first fit
-- throughout, with the units over the cut link first.
abbrev pub OverFirst : Type 0
OverFirst = (n c : ℕ) (routes : List Route) → Link n c →
    (length (units_over routes c) ≡ route_load routes c) × (slotted_at n routes c ≡ fitted (shares n) (units_over routes c ++ units_beside n routes c))

-- the slots of a demand rise
abbrev pub SlotsRise : Type 0
SlotsRise = (n : ℕ) (routes : List Route) (d : Route) → Rising (slots_of 1 d (slotted n routes))

-- the rows over a link are as many as its load by the chosen sides
abbrev pub RowsLoadLinks : Type 0
RowsLoadLinks = (n : ℕ) (σ : Choice) (ds : List Demand) → WithinLimits n ds → (e : ℕ) → load ds (drawn n σ ds) e ≡ chosen_load σ n ds e

-- ---- a lawful choice
-- What rows that were drawn by a lawful choice are.
pub record WellDrawn (n : ℕ) (ds : List Demand) (rows : List Row) : Type 0 where
  -- a plan
  pub plan : Plan n ds rows
  -- in slots from 1 to 1,024
  pub inside : Each (λ (r : Row). (1 ≤ r.slot) × (r.slot ≤ 1024)) rows
  pub few : slot_count rows ≤ 1024
  -- the slots in use are 1 to the slot count, without gaps
  pub gapless : (k : ℕ) → (in_use k rows ≡ true → Link (slot_count rows) k) × (Link (slot_count rows) k → in_use k rows ≡ true)
  -- no more slots than the heaviest cut's total
  pub light : slot_count rows ≤ heaviest n ds
  -- nor than twice those of any rival
  pub twice : (rival : List Row) → Plan n ds rival → slot_count rows ≤ 2 * slot_count rival

-- every lawful choice draws well
abbrev pub DrawsWell : Type 0
DrawsWell = (n : ℕ) (σ : Choice) (ds : List Demand) → WithinLimits n ds → Parallel σ → WellDrawn n ds (drawn n σ ds)

-- ---- the best link shut
pub record BestDrawn (n : ℕ) (ds : List Demand) (link : ℕ) (rows : List Row) : Type 0 where
  pub link_there : Link n link
  pub well : WellDrawn n ds rows
  -- no link would be better to shut
  pub best : (e : ℕ) → Link n e → slot_count rows ≤ slots_shut n ds e
  -- no rival has fewer slots by more than its own load on any one link
  pub near : (rival : List Row) → Plan n ds rival → (e : ℕ) → Link n e → slot_count rows ≤ slot_count rival + load ds rival e

abbrev pub DrawsBest : Type 0
DrawsBest = (n : ℕ) (ds : List Demand) → WithinLimits n ds → BestDrawn n ds (best_link n ds) (drawn n (shut (best_link n ds)) ds)
