-- Slotting: from the demands of a book, in the book's order, and a side for each to the rows of a plan. In words:
--   1. the sides come from the rule, and the loads of the links from the sides;
--   2. the cut link is the first link of least load, and m is that load;
--   3. the units over the cut link get the slots 1 to m in the book's order, one unit a slot;
--   4. the other units come by start node, clockwise from the node just after the cut link, and at one node in the book's order; each gets the
--      lowest slot in which no unit placed before shares a link with it;
--   5. the rows stand in the book's order, and the units of one demand by rising slot.
use Rattle.std.specs.Prelude.{ℕ, ◌+◌, ◌-◌, ◌<◌, Bool, cond, not, ◌&&◌, ◌≢◌, List, [], ◌∷◌, ◌++◌, map, replicate, filter, ◌==◌, nat_eq}
use Rattle.std.specs.List.{range_with_len, flat_map, AllByRecursion as Each}
use Rattle.ring.specs.Sums.{some}
use Rattle.ring.specs.Ring.{Ends, slot_count}
use Rattle.ring.specs.Sides.{code, Choice, holds, route_load, routes_by, shut}
use Rattle.ring.specs.Choosing.{first_least}
use Rattle.ring.specs.declared.Demand.{Demand}
use Rattle.ring.specs.declared.Route.{Route}
use Rattle.ring.specs.declared.Row.{Row}
use Rattle.ring.specs.declared.Side.{Side}
use Rattle.ring.specs.declared.Side.TheVariants.{Clockwise, CounterClockwise}
use Rattle.drawn.specs.FirstFit.{fitted_after, one_each}

-- ---- routes
-- whether two routes share a link of the ring of n nodes
abbrev pub shares : ℕ → Route → Route → Bool
shares n a b = some (λ e. holds a e && holds b e) (range_with_len 1 n)

-- the start node, from which a route goes clockwise: the lower end of a clockwise route, the upper end of a counter-clockwise one. The link of the
-- same number is the first of the route
abbrev pub begins_at : Side → ℕ → ℕ → ℕ
begins_at Clockwise lower upper = lower
begins_at CounterClockwise lower upper = upper

abbrev pub start_node : Route → ℕ
start_node d = begins_at d.side d.demand.lower d.demand.upper

-- ---- the order of the units. Each unit is named by the route of its demand
-- 2. the first link of least load
abbrev pub cut_link : ℕ → List Route → ℕ
cut_link n routes = first_least n (route_load routes)

-- all units of some routes, those of one route after those of another
abbrev pub units_of : List Route → List Route
units_of routes = flat_map (λ d. replicate d.demand.units d) routes

-- 3. the units over the link c
abbrev pub units_over : List Route → ℕ → List Route
units_over routes c = units_of (filter (λ d. holds d c) routes)

-- the other units with the start node v
abbrev pub units_from : List Route → ℕ → ℕ → List Route
units_from routes c v = units_of (filter (λ d. not (holds d c) && start_node d == v) routes)

-- the nodes clockwise from the one just after the link c: c + 1 to n, then 1 to c
abbrev pub round : ℕ → ℕ → List ℕ
round n c = range_with_len (c + 1) (n - c) ++ range_with_len 1 c

-- 4. the other units by start node
abbrev pub units_beside : ℕ → List Route → ℕ → List Route
units_beside n routes c = flat_map (units_from routes c) (round n c)

-- ---- the slots and the rows
-- the slots, each with the units in it, if the ring is cut open at the link c: one unit over c each, then the others by first fit
abbrev pub slotted_at : ℕ → List Route → ℕ → List (List Route)
slotted_at n routes c = fitted_after (shares n) (one_each (units_over routes c)) (units_beside n routes c)

abbrev pub slotted : ℕ → List Route → List (List Route)
slotted n routes = slotted_at n routes (cut_link n routes)

-- whether a slot holds a unit of the demand of d
abbrev pub has_unit : Route → List Route → Bool
has_unit d slot = some (λ u. nat_eq u.demand.number d.demand.number) slot

-- the numbers of the slots that hold a unit of the demand of d, where the first of the slots has the number k
abbrev pub slots_of : ℕ → Route → List (List Route) → List ℕ
slots_of k d [] = []
slots_of k d (s ∷ ss) = cond (has_unit d s) (k ∷ slots_of (k + 1) d ss) (slots_of (k + 1) d ss)

-- the slots of the units, route by route
abbrev pub slots_in : List (List Route) → List Route → List ℕ
slots_in ss routes = flat_map (λ d. slots_of 1 d ss) routes

-- 5. the row of a unit, and the rows route by route
abbrev pub row_of : Route → ℕ → Row
row_of d slot = record { demand = d.demand.number; side = code d.side; slot = slot }

abbrev pub rows_in : List (List Route) → List Route → List Row
rows_in ss routes = flat_map (λ d. map (row_of d) (slots_of 1 d ss)) routes

-- the rows that are drawn for the demands on the ring of n nodes by a choice of sides
unfoldable pub drawn : ℕ → Choice → List Demand → List Row
drawn n σ ds = rows_in (slotted n (routes_by σ n ds)) (routes_by σ n ds)

-- ---- the best link
-- the slot count of what is drawn with the link e shut
abbrev pub slots_shut : ℕ → List Demand → ℕ → ℕ
slots_shut n ds e = slot_count (drawn n (shut e) ds)

-- the first link that gives the fewest slots if it is shut
abbrev pub best_link : ℕ → List Demand → ℕ
best_link n ds = first_least n (slots_shut n ds)

-- ---- what routes keep to
-- the ends are on the ring
abbrev pub Valid : ℕ → Route → Type 0
Valid n d = Ends n d.demand.lower d.demand.upper

-- no two routes are of one demand
abbrev pub Distinct : List Route → Type 0
Distinct [] = Unit {0}
Distinct (d ∷ ds) = Each (λ (e : Route). d.demand.number ≢ e.demand.number) ds × Distinct ds

-- numbers that rise
abbrev pub Rising : List ℕ → Type 0
Rising [] = Unit {0}
Rising (k ∷ ks) = Each (λ j. k < j) ks × Rising ks
