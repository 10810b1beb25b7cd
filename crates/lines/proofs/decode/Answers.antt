use Rattle.std.proofs.Common.{◌≤◌, length, map, sym, ap, ◌∙◌}
use Rattle.std.proofs.lemmas.List.{at_drop_all}
use Rattle.lines.specs.Writes.{overwrite}
use Rattle.lines.proofs.Writes.{byte_at, bytes_of_pairs}
use Rattle.lines.proofs.decode.Goals as goal

pub returns : goal.returns
returns c =
    let l = c.loop-k in
    let pairs = c.as_chunks.result.0.now in
    let old = c.args.bytes.now in
    let end : length pairs ≤ l.k = c.loop-k-test.false in
    sym (at_drop_all (λ ps. overwrite l.bytes l.k (map byte_at ps)) pairs l.k end) ∙ l.invariant
    ∙ ap (λ ps. overwrite old 0 (map byte_at ps)) c.as_chunks.ensures.front
    ∙ ap (overwrite old 0) (bytes_of_pairs c.args.digits.now)
