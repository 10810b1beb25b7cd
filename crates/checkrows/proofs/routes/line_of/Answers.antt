use Rattle.std.proofs.Common.{eqb, rules, tests}
use Rattle.std.proofs.lemmas.Iterator.{YieldsList-from_slice}
use Rattle.std.proofs.lemmas.Iterator.Search.{position_from_yields_List}
use Rattle.ring.specs.declared.Demand.{Demand}
use Rattle.checkrows.proofs.Places.{line_found}
use Rattle.checkrows.proofs.routes.line_of.Goals as goal

pub returns : goal.returns
returns c =
    let lines = c.args.lines.now in
    let k = c.args.number in
    line_found lines k c.position.result
    (position_from_yields_List (λ (d : Demand). eqb d.number k) _ _ _ c.position.ensures.ran (YieldsList-from_slice lines cc) (λ x b q h. search (rules, tests)))
