use Rattle.std.proofs.Common.{rules, of_calls}
use Rattle.checkrows.proofs.Links.{mask_by}
use Rattle.checkrows.proofs.routes.DemandLines.row_mask.Goals as goal

pub returns : goal.returns
returns c = mask_by c.args.self.now.nodes c.args.self.now.lines.now c.args.row c.route_of.result c.map_or.result _ c.route_of.ensures c.map_or.ensures (λ d q. search (rules, of_calls))
