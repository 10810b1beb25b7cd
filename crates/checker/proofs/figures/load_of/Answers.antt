use Rattle.std.proofs.Common.{◌≡◌, count_by, rules, sym, ◌∙◌}
use Rattle.std.proofs.iter.runs.Made.{chains}
use Rattle.ring.specs.Sums.{one}
use Rattle.ring.specs.Ring.{row_over}
use Rattle.ring.specs.declared.Row.{Row}
use Rattle.ring.proofs.Summing.{as_sum_by}
use Rattle.checker.proofs.figures.load_of.Goals as goal

pub returns : goal.returns
returns c =
    let lines = c.args.lines.now in
    let e : c.count.result ≡ count_by (λ (r : Row). row_over lines r c.args.link) c.args.rows.now = search (rules, chains) in
    e ∙ sym (as_sum_by (λ (r : Row). one (row_over lines r c.args.link)) c.args.rows.now)
