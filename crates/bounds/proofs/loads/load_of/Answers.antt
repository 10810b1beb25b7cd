use Rattle.std.proofs.Common.{◌≡◌, ℕ, ◌≤◌, cond, sum_by, sym, ◌∙◌, rules, arith}
use Rattle.std.proofs.iter.runs.Made.{chains}
use Rattle.ring.specs.declared.Route.{Route}
use Rattle.ring.specs.Sides.{holds}
use Rattle.ring.proofs.Summing.{part_le, as_sum_by}
use Rattle.bounds.proofs.loads.load_of.Goals as goal

pub sum-requires-clause-fits : goal.sum-requires-clause-fits
sum-requires-clause-fits c =
    let routes = c.args.routes.now in
    let part : Route → ℕ = λ r. cond (holds r c.args.link) r.demand.units 0 in
    let fits : sum_by part routes ≤ 1024 = omega (arith, as_sum_by part routes, part_le (λ (r : Route). holds r c.args.link) (λ (r : Route). r.demand.units) routes, c.requires) in
    search (rules, chains)

pub returns : goal.returns
returns c =
    let routes = c.args.routes.now in
    let part : Route → ℕ = λ r. cond (holds r c.args.link) r.demand.units 0 in
    let is : c.sum.result ≡ sum_by part routes = search (rules, chains) in
    is ∙ sym (as_sum_by part routes)
