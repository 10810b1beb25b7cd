use Rattle.std.proofs.Common.{◌≡◌, rules, eqb, count_by, sym, ◌∙◌, ap₂}
use Rattle.std.proofs.iter.runs.Made.{chains}
use Rattle.ring.specs.Sums.{one, count_of}
use Rattle.ring.specs.declared.Row.{Row}
use Rattle.ring.proofs.Summing.{as_sum_by}
use Rattle.checkrows.proofs.counts.is_full.Goals as goal

pub returns : goal.returns
returns c =
    let k = c.args.line.number in
    let rows = c.args.rows.now in
    let e : c.count.result ≡ count_by (λ (q : Row). eqb k q.demand) rows = search (rules, chains) in
    let n : c.count.result ≡ count_of (λ (q : Row). eqb k q.demand) rows = e ∙ sym (as_sum_by (λ (q : Row). one (eqb k q.demand)) rows) in
    ap₂ eqb n c.from.ensures
