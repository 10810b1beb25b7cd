use Rattle.std.proofs.Common.{arith}
use Rattle.bounds.proofs.Rival.{loads_fit_slots, plans_pay_for_cuts}
use Rattle.bounds.proofs.Shut.{heaviest_bound}
use Rattle.bounds.proofs.cuts.RingDemands.lower_bound.Goals as goal

pub returns : goal.returns
returns c =
    let n = c.args.self.now.nodes in
    let ds = c.args.self.now.demands.now in
    let top = c.heaviest_cut.ensures.heaviest.greatest in
    record {
      value = omega (arith, c.div_ceil.ensures, top);
      least = λ apart rival plan. omega (arith, c.div_ceil.ensures, top, heaviest_bound n ds rival apart plan);
      cuts = plans_pay_for_cuts n ds;
      loads = loads_fit_slots n ds;
    }
