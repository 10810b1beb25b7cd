use Rattle.std.proofs.Common.{ap, ◌∙◌, length-take, arith}
use Rattle.ring.specs.Ring.{slot_count}
use Rattle.ring.proofs.Limits.{to_limits}
use Rattle.drawn.proofs.Bears.{draws_well}
use Rattle.placing.proofs.Lays.{ready_by, units_by_lem, rows_drawn}
use Rattle.slotting.proofs.Figures.{loads_drawn}
use Rattle.slotting.proofs.drawing.draw_on.Goals as goal

pub slot_routes-requires : goal.slot_routes-requires
slot_routes-requires g c =
    let n = c.args.traffic.now.nodes in
    let ds = c.args.traffic.now.demands.now in
    let limits = to_limits n ds c.args.traffic.now.limits in
    ready_by n (g.R.Rule.side c.args.rule.now) ds limits c.choose_routes.new.routes c.choose_routes.ensures _ _
    (simp length-take (omega (arith, c.if-marks-lt-MARKS.false))) (simp length-take (omega (arith, c.count_units.ensures, limits.total)))

pub replace-requires-clause-places : goal.replace-requires-clause-places
replace-requires-clause-places g c =
    let n = c.args.traffic.now.nodes in
    let ds = c.args.traffic.now.demands.now in
    let limits = to_limits n ds c.args.traffic.now.limits in
    let all = units_by_lem n (g.R.Rule.side c.args.rule.now) ds limits c.choose_routes.new.routes c.choose_routes.ensures in
    let long = simp length-take at c.slot_routes.auto.slots in
    omega (arith, all, long, c.count_units.ensures, limits.total)

pub overflow_cast-count : goal.overflow_cast-count
overflow_cast-count g c =
    let n = c.args.traffic.now.nodes in
    let ds = c.args.traffic.now.demands.now in
    let limits = to_limits n ds c.args.traffic.now.limits in
    let σ = g.R.Rule.side c.args.rule.now in
    let routes = c.choose_routes.new.routes in
    let well = draws_well n σ ds limits (g.R.Rule.parallel c.args.rule.now) in
    let are = rows_drawn n σ ds limits routes c.choose_routes.ensures c.slot_routes.new.slots c.replace.new.self.items c.slot_routes.ensures c.replace.ensures.items in
    omega (arith, well.few, c.slot_count-count.ensures.value, ap slot_count (c.as_slice.ensures ∙ are))

pub invariant_of-link_loads : goal.invariant_of-link_loads
invariant_of-link_loads g c =
    let n = c.args.traffic.now.nodes in
    let ds = c.args.traffic.now.demands.now in
    let limits = to_limits n ds c.args.traffic.now.limits in
    let all = units_by_lem n (g.R.Rule.side c.args.rule.now) ds limits c.choose_routes.new.routes c.choose_routes.ensures in
    record { ring = (limits.least, limits.most); few = omega (arith, all, limits.total) }

pub returns : goal.returns
returns g c =
    let n = c.args.traffic.now.nodes in
    let ds = c.args.traffic.now.demands.now in
    let limits = to_limits n ds c.args.traffic.now.limits in
    let σ = g.R.Rule.side c.args.rule.now in
    let routes = c.choose_routes.new.routes in
    let are = rows_drawn n σ ds limits routes c.choose_routes.ensures c.slot_routes.new.slots c.replace.new.self.items c.slot_routes.ensures c.replace.ensures.items in
    record {
      answer = record {
        long = c.if-marks-lt-MARKS.false;
        rows_are = are;
        slots_are = c.slot_count-count.ensures.value ∙ ap slot_count c.as_slice.ensures;
        loads_are = loads_drawn n σ ds routes _ _ limits c.choose_routes.ensures are c.link_loads.ensures.value;
      };
      room = c.replace.ensures.capacity;
    }
