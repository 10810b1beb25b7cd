-- Sides chosen for the ends of demands: what a routing rule means, its law, the loads that it gives, and the choices that the rules make.
use Rattle.std.specs.Prelude.{◌≡◌, ℕ, ◌-◌, ◌*◌, ◌≤◌, min, Bool, true, false, cond, ◌&&◌, List, map, nat_le, nat_lt, slice_index}
use Rattle.std.specs.List.{range_with_len}
use Rattle.ring.specs.Sums.{sum_of, sum_to}
use Rattle.ring.specs.Ring.{within, over, Link, Ends}
use Rattle.ring.specs.declared.Demand.{Demand}
use Rattle.ring.specs.declared.Route.{Route}
use Rattle.ring.specs.declared.Side.{Side}
use Rattle.ring.specs.declared.Side.TheVariants.{Clockwise, CounterClockwise}

-- a side as the number that rows have
abbrev pub code : Side → ℕ
code Clockwise = 0
code CounterClockwise = 1

-- what a rule means: a side for each ring size, lower end and upper end
abbrev pub Choice : Type 0
Choice = ℕ → ℕ → ℕ → Side

-- ---- demands on their sides
-- whether the route holds the link e
abbrev pub holds : Route → ℕ → Bool
holds d e = over (code d.side) d.demand.lower d.demand.upper e

-- the load of the link e by the chosen sides: the units of the demands whose route holds it
abbrev pub route_load : List Route → ℕ → ℕ
route_load routes e = sum_of (λ d. cond (holds d e) d.demand.units 0) routes

-- all units of the routes
abbrev pub route_units : List Route → ℕ
route_units routes = sum_of (λ (d : Route). d.demand.units) routes

-- a figure for each of the links 1 to 16, the one of link e at place e - 1, and 0 for links that the ring of n nodes does not have
unfoldable pub per_link : ℕ → (ℕ → ℕ) → List ℕ
per_link n g = map (λ e. cond (nat_le e n) (g e) 0) (range_with_len 1 16)

-- each demand on the side that the choice gives its ends
abbrev pub route_by : Choice → ℕ → Demand → Route
route_by σ n d = record { demand = d; side = σ n d.lower d.upper }

abbrev pub routes_by : Choice → ℕ → List Demand → List Route
routes_by σ n ds = map (route_by σ n) ds

-- whether the chosen route of the demand holds the link e
abbrev pub chosen : Choice → ℕ → Demand → ℕ → Bool
chosen σ n d e = holds (route_by σ n d) e

-- the load of the link e where each demand goes by its chosen side
abbrev pub chosen_load : Choice → ℕ → List Demand → ℕ → ℕ
chosen_load σ n ds e = route_load (routes_by σ n ds) e

-- ---- the law
-- some link of the ring is in neither route
abbrev pub Missed : ℕ → ℕ → ℕ → ℕ → ℕ → ℕ → ℕ → Type 0
Missed n s i j t k l = (f : ℕ) × Link n f × (over s i j f ≡ false) × (over t k l f ≡ false)

-- parallel routing: on each ring, if the routes chosen for two pairs of ends share a link, some link is in neither
abbrev pub Parallel : Choice → Type 0
Parallel σ = (n : ℕ) → 3 ≤ n → n ≤ 16 → (i j k l : ℕ) → Ends n i j → Ends n k l →
    (e : ℕ) → Link n e → over (code (σ n i j)) i j e ≡ true → over (code (σ n k l)) k l e ≡ true →
    Missed n (code (σ n i j)) i j (code (σ n k l)) k l

-- whether a ring may have n nodes, and then has i < j as the ends of a demand
abbrev pub on_ring : ℕ → ℕ → ℕ → Bool
on_ring n i j = nat_le 3 n && (nat_le n 16 && (nat_le 1 i && (nat_lt i j && nat_le j n)))

-- where no ring of n nodes has i < j as ends, the choice is clockwise
abbrev pub Elsewhere : Choice → Type 0
Elsewhere σ = (n i j : ℕ) → on_ring n i j ≡ false → σ n i j ≡ Clockwise

-- ---- the choices that the rules make
-- the route with fewer links, clockwise on a tie: clockwise has j - i links, counter-clockwise the other n - (j - i)
abbrev pub short_side : Choice
short_side n i j = cond (on_ring n i j && nat_lt n (2 * (j - i))) CounterClockwise Clockwise

-- the route that does not hold the link s or, on a ring that has no link s, its last link
abbrev pub shut : ℕ → Choice
shut s n i j = cond (on_ring n i j && within i j (min s n)) CounterClockwise Clockwise

-- the total weight of the links that a route holds, where the weight of the link e stands at place e - 1
abbrev pub weight_of : List ℕ → ℕ → ℕ → ℕ → ℕ → ℕ
weight_of ws n s i j = sum_to n (λ e. cond (over s i j e) (slice_index ws (e - 1)) 0)

-- the route of smaller total weight, clockwise on a tie
abbrev pub light_side : List ℕ → Choice
light_side ws n i j = cond (on_ring n i j && nat_lt (weight_of ws n 1 i j) (weight_of ws n 0 i j)) CounterClockwise Clockwise
