use Rattle.std.proofs.Common.{◌≡◌, map, drop}
use Rattle.lines.specs.Writes.{overwrite}
use Rattle.lines.proofs.Writes.{byte_at}
use Rattle.lines.proofs.decode.Given as goal

-- the bytes are those written and those of the pairs that are left
abbrev pub invariant-loop-k : goal.invariant-loop-k
invariant-loop-k l = overwrite l.bytes l.k (map byte_at (drop l.k l.pairs)) ≡ overwrite l.initial.bytes 0 (map byte_at l.pairs)
