use Rattle.std.proofs.Common.{sym, subst}
use Rattle.std.proofs.lemmas.Result.{MatchResult-weaker}
use Rattle.drawn.specs.Claims.{WellDrawn}
use Rattle.drawn.proofs.Bears.{draws_well}
use Rattle.ring.proofs.Limits.{to_limits}
use Rattle.slotting.proofs.drawing.draw.Goals as goal

pub returns-clause-well : goal.returns-clause-well
returns-clause-well g c =
    let rule = c.args.rule.now in
    let n = c.args.traffic.now.nodes in
    let ds = c.args.traffic.now.demands.now in
    let well = draws_well n (g.R.Rule.side rule) ds (to_limits n ds c.args.traffic.now.limits) (g.R.Rule.parallel rule) in
    MatchResult-weaker c.draw_on.result c.draw_on.ensures.answer (λ s drew. subst (WellDrawn n ds) (sym drew.rows_are) well) (λ e refused. tt)
