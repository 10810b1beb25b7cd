-- What the placing does to the marks and to the list of slots, turn after turn. The marks are the sheet's, one a slot; the list has a place for
-- each unit, those of one route after those of another.
use Rattle.std.specs.Prelude.{◌≡◌, ℕ, ◌≤◌, Bool, cond, not, ◌&&◌, List, [], ◌∷◌, ◌++◌, map, length, take, drop, replicate, fold, ◌==◌, slice_index}
use Rattle.std.specs.List.{range_with_len, AllByRecursion as Each}
use Rattle.ring.specs.Sums.{sum_of}
use Rattle.ring.specs.Sides.{code, holds, route_units}
use Rattle.ring.specs.Masks.{link_mask}
use Rattle.ring.specs.declared.Route.{Route}
use Rattle.ring.specs.declared.Row.{Row}
use Rattle.sheet.specs.Marks.{marked, in_turn}
use Rattle.drawn.specs.Slotting.{start_node, row_of, Valid, Distinct}
use Rattle.placing.specs.declared.Turn.{Turn}
use Rattle.placing.specs.declared.Turn.TheVariants.{Over, From}

-- whether it is the turn of the route, if the ring is cut open at the link c
abbrev pub comes : ℕ → Turn → Route → Bool
comes c Over d = holds d c
comes c (From v) d = not (holds d c) && start_node d == v

-- the link mask of a route
abbrev pub mask : ℕ → Route → ℕ
mask n d = link_mask n (code d.side) d.demand.lower d.demand.upper

-- ---- one turn, of the routes that pass t
-- the marks after a route: its units are marked if it is its turn
unfoldable pub marks_after : ℕ → (Route → Bool) → List ℕ → Route → List ℕ
marks_after n t marks d = cond (t d) (fold marked marks (replicate d.demand.units (mask n d))) marks

-- the slots of a route: it gets them now if it is its turn, else its part of the list is as it was
unfoldable pub slots_after : ℕ → (Route → Bool) → List ℕ → List ℕ → Route → List ℕ
slots_after n t marks part d = cond (t d) (in_turn marks (replicate d.demand.units (mask n d))) part

-- the list after the turn
abbrev pub filled : ℕ → (Route → Bool) → List ℕ → List ℕ → List Route → List ℕ
filled n t marks out [] = out
filled n t marks out (d ∷ ds) = slots_after n t marks (take d.demand.units out) d ++ filled n t (marks_after n t marks d) (drop d.demand.units out) ds

-- the units that get their slots in a turn
abbrev pub turn_size : ℕ → List Route → Turn → ℕ
turn_size c routes r = sum_of (λ d. cond (comes c r d) d.demand.units 0) routes

-- ---- some turns
abbrev pub turns_size : ℕ → List Route → List Turn → ℕ
turns_size c routes rs = sum_of (turn_size c routes) rs

abbrev pub marks_turns : ℕ → ℕ → List Route → List ℕ → List Turn → List ℕ
marks_turns n c routes marks rs = fold (λ s r. fold (marks_after n (comes c r)) s routes) marks rs

abbrev pub slots_turns : ℕ → ℕ → List Route → List ℕ → List ℕ → List Turn → List ℕ
slots_turns n c routes marks out [] = out
slots_turns n c routes marks out (r ∷ rs) = slots_turns n c routes (fold (marks_after n (comes c r)) marks routes) (filled n (comes c r) marks out routes) rs

-- the turns of m nodes from v on
abbrev pub node_turns : ℕ → ℕ → List Turn
node_turns v m = map From (range_with_len v m)

-- ---- the rows
-- the rows of the routes with the slots in the list
abbrev pub rows_from : List Route → List ℕ → List Row
rows_from [] out = []
rows_from (d ∷ ds) out = map (row_of d) (take d.demand.units out) ++ rows_from ds (drop d.demand.units out)

-- ---- what the placing asks for
-- no link is marked
abbrev pub Empty : List ℕ → Type 0
Empty marks = (k : ℕ) → slice_index marks k ≡ 0

-- routes on a ring of 3 to 16 nodes, no two of one demand, with a mark and a place in the list for each unit
pub record Ready (n : ℕ) (routes : List Route) (marks out : List ℕ) : Type 0 where
  pub least : 3 ≤ n
  pub most : n ≤ 16
  pub valid : Each (Valid n) routes
  pub distinct : Distinct routes
  pub long : length marks ≤ 1024
  pub room : length out ≤ length marks
  pub places : route_units routes ≡ length out
