use Rattle.std.proofs.Common.{◌≡◌, not, rules, tests, Some, None, position, sym, ◌∙◌}
use Rattle.std.proofs.lemmas.Iterator.{YieldsList-from_slice}
use Rattle.std.proofs.lemmas.Iterator.Search.{position_from_yields_List}
use Rattle.ring.specs.declared.Demand.{Demand}
use Rattle.checkrows.specs.Rows.{is_full}
use Rattle.checkrows.proofs.Places.{counts_found}
use Rattle.checkrows.proofs.counts.check_counts.Goals as goal

pub returns-in-Some : goal.returns-in-Some
returns-in-Some c =
    let lines = c.args.lines.now in
    let rows = c.args.rows.now in
    let at : c.position.result ≡ position (λ (d : Demand). not (is_full rows d)) lines =
    position_from_yields_List (λ (d : Demand). not (is_full rows d)) _ _ c.position.result c.position.ensures.ran (YieldsList-from_slice lines cc) (λ x b q h. search (rules, tests)) in
    counts_found lines rows (Some c.in-Some.i) (sym c.in-Some.is ∙ at)

pub returns-in-None : goal.returns-in-None
returns-in-None c =
    let lines = c.args.lines.now in
    let rows = c.args.rows.now in
    let at : c.position.result ≡ position (λ (d : Demand). not (is_full rows d)) lines =
    position_from_yields_List (λ (d : Demand). not (is_full rows d)) _ _ c.position.result c.position.ensures.ran (YieldsList-from_slice lines cc) (λ x b q h. search (rules, tests)) in
    counts_found lines rows None (sym c.in-None.is ∙ at)
