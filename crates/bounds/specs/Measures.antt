-- Links and cuts as candidates, each with its measure.
use Rattle.std.specs.Prelude.{ℕ, List}
use Rattle.std.specs.declared.cmp.Reverse.{Reverse}
use Rattle.ring.specs.Sides.{route_load}
use Rattle.ring.specs.Choosing.{first_least}
use Rattle.ring.specs.declared.Cut.{Cut}
use Rattle.ring.specs.declared.Route.{Route}
use Rattle.ring.specs.declared.choosing.Best.{Best}

-- a link with its load
abbrev pub loaded_link : List Route → ℕ → Best ℕ ℕ
loaded_link routes e = record { candidate = e; measure = route_load routes e }

-- the first link of least load of the ring of n nodes, with that load
abbrev pub least_loaded : ℕ → List Route → Best ℕ ℕ
least_loaded n routes = loaded_link routes (first_least n (route_load routes))

-- a cut with its total, the greatest first
abbrev pub heavy_cut : Cut → Best Cut (Reverse ℕ)
heavy_cut c = record { candidate = c; measure = record { 0 = c.total } }
