use Rattle.std.proofs.Common.{◌≡◌, ℕ, ◌≤◌, cond, sum_by, sym, ◌∙◌, rules, arith}
use Rattle.std.proofs.iter.runs.Made.{chains}
use Rattle.ring.specs.declared.Demand.{Demand}
use Rattle.ring.specs.Ring.{crosses}
use Rattle.ring.proofs.Summing.{part_le, as_sum_by}
use Rattle.bounds.proofs.cuts.cut_total.Goals as goal

pub sum-requires-clause-fits : goal.sum-requires-clause-fits
sum-requires-clause-fits c =
    let ds = c.args.demands.now in
    let part : Demand → ℕ = λ d. cond (crosses d c.args.first c.args.second) d.units 0 in
    let fits : sum_by part ds ≤ 1024 = omega (arith, as_sum_by part ds, part_le (λ (d : Demand). crosses d c.args.first c.args.second) (λ (d : Demand). d.units) ds, c.requires) in
    search (rules, chains)

pub returns : goal.returns
returns c =
    let ds = c.args.demands.now in
    let part : Demand → ℕ = λ d. cond (crosses d c.args.first c.args.second) d.units 0 in
    let is : c.sum.result ≡ sum_by part ds = search (rules, chains) in
    is ∙ sym (as_sum_by part ds)
