use Rattle.std.proofs.Common.{rules, of_calls}
use Rattle.ring.specs.Sides.{route_load}
use Rattle.bounds.proofs.Bound.{loads_fit_the_heaviest_cut}
use Rattle.bounds.proofs.Shut.{shut_routes_load_cuts}
use Rattle.bounds.proofs.loads.RingRoutes.link_loads.Goals as goal

pub returns : goal.returns
returns c =
    let low = c.args.self.now.ring.0 in
    let high = c.args.self.now.ring.1 in
    let routes = c.args.self.now.routes.now in
    record { value = c.figure_per_link.ensures (route_load routes) (λ e r low_e high_e is. search (rules, of_calls)); lawful = loads_fit_the_heaviest_cut c.args.self.now.nodes low high routes; shut = shut_routes_load_cuts c.args.self.now.nodes low high routes }
