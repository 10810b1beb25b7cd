use Rattle.std.proofs.Common.{◌≡◌, sym, ap, ◌∙◌, subst₂, arith}
use Rattle.ring.specs.Sides.{shut}
use Rattle.ring.proofs.FirstBest.{first_least_lem}
use Rattle.ring.proofs.Limits.{to_limits}
use Rattle.drawn.specs.Slotting.{slots_shut, drawn, best_link}
use Rattle.drawn.specs.Claims.{BestDrawn}
use Rattle.drawn.proofs.Bears.{draws_best}
use Rattle.slotting.proofs.trials.best_link.Goals as goal

pub draw_shut-requires : goal.draw_shut-requires
draw_shut-requires c =
    let n = c.args.traffic.now.nodes in
    let ds = c.args.traffic.now.demands.now in
    let limits = to_limits n ds c.args.traffic.now.limits in
    let tried = c.in_ok-link.ensures in
    let inside = (first_least_lem n (slots_shut n ds) (omega (arith, limits.least))).0 in
    (omega (arith, inside.0, tried.answer.link_is), omega (arith, inside.1, tried.answer.link_is, limits.most))

pub returns-clause-best : goal.returns-clause-best
returns-clause-best c =
    let n = c.args.traffic.now.nodes in
    let ds = c.args.traffic.now.demands.now in
    let rows : c.draw_shut.new.rows.items ≡ drawn n (shut (best_link n ds)) ds = c.in_ok-figures.ensures.answer.rows_are ∙ ap (λ e. drawn n (shut e) ds) c.in_ok-link.ensures.answer.link_is in
    subst₂ (BestDrawn n ds) (sym c.in_ok-link.ensures.answer.link_is) (sym rows) (draws_best n ds (to_limits n ds c.args.traffic.now.limits))
