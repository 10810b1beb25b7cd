use Rattle.std.proofs.Common.{ap, arith}
use Rattle.ring.specs.Sides.{route_units}
use Rattle.ring.proofs.Summing.{route_units_lem}
use Rattle.ring.proofs.Limits.{to_limits}
use Rattle.ringfigures.proofs.print_rule.Goals as goal

pub print_loads-requires : goal.print_loads-requires
print_loads-requires g c =
    let n = c.args.traffic.now.nodes in
    let ds = c.args.traffic.now.demands.now in
    omega (arith, ap route_units c.choose_routes.ensures, route_units_lem (g.R.Rule.side c.args.rule.now) n ds, (to_limits n ds c.args.traffic.now.limits).total)
