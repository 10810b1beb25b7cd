use Rattle.std.proofs.Common.{◌∙◌, eqb, sym, rules, tests}
use Rattle.std.proofs.lemmas.Iterator.{YieldsList-from_slice}
use Rattle.std.proofs.lemmas.Iterator.Search.{any_from_yields_List}
use Rattle.ring.specs.declared.Demand.{Demand}
use Rattle.checklines.proofs.Named.{as_list_any}
use Rattle.checklines.proofs.is_named.Goals as goal

pub returns : goal.returns
returns c =
    let lines = c.args.lines.now in
    let k = c.args.number in
    any_from_yields_List (λ (d : Demand). eqb d.number k) _ _ _ c.any.ensures.ran (YieldsList-from_slice lines cc) (λ x b q k. search (rules, tests)) ∙ sym (as_list_any lines k)
