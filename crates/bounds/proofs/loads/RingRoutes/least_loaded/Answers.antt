use Rattle.std.proofs.Common.{◌≡◌, ℕ, ◌+◌, ◌<◌, map, Some, refl, ap, ◌∙◌, rules, of_calls, arith}
use Rattle.std.specs.Option.{option_map}
use Rattle.std.proofs.iter.runs.Sources.{ranges}
use Rattle.ring.specs.Sides.{route_load}
use Rattle.ring.specs.Choosing.{first_best}
use Rattle.ring.proofs.FirstBest.{first_by_least, counted}
use Rattle.std.specs.Ordering.{nat_cmp}
use Rattle.bounds.specs.Measures.{loaded_link, least_loaded}
use Rattle.bounds.proofs.loads.RingRoutes.least_loaded.Goals as goal
use Rattle.bounds.proofs.loads.RingRoutes.least_loaded.Goals.{After-first_best_of}

-- the links are 1 to n, each with its load
best : (c : After-first_best_of) → c.first_best_of.result ≡ Some (least_loaded c.args.self.now.nodes c.args.self.now.routes.now)
best c =
    let mk = loaded_link c.args.self.now.routes.now in
    let run = c.first_best_of.ensures in
    let links = c.map-links.ensures.runs run.0 run.0.seen run.1 in
    let many : links.0.len ≡ c.args.self.now.nodes = search (rules, ranges) in
    let each : (k : ℕ) → k < links.0.len → option_map (λ y. y) (links.0.at k) ≡ Some (1 + k) = search (rules, ranges) in
    let made = links.2.3 mk (λ x r f k. search (rules, of_calls)) in
    run.3.0 ∙ ap (first_best nat_cmp) (made ∙ ap (map mk) (counted links.0 1 c.args.self.now.nodes many each))
    ∙ first_by_least mk (route_load c.args.self.now.routes.now) (λ e. refl) c.args.self.now.nodes (omega (arith, c.args.self.now.ring.0))

pub unwrap-requires : goal.unwrap-requires
unwrap-requires c = let e = best c in search rules

pub returns : goal.returns
returns c = let e = best (goal.at.returns c).After-first_best_of in cc
