use Rattle.checkrows.proofs.Links.{route_is, row_unknown}
use Rattle.checkrows.proofs.routes.route_of.Goals as goal

pub returns-in_err-k : goal.returns-in_err-k
returns-in_err-k c = rw c.from_residual.ensures (λ e. row_unknown c.args.lines.now c.args.row e c.in_err-k.ensures)

pub returns : goal.returns
returns c = route_is c.args.lines.now c.args.row c.in_ok-k.k c.side_of.result c.in_ok-k.ensures c.side_of.ensures
