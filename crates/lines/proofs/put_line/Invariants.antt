use Rattle.std.proofs.Common.{◌≡◌, ◌+◌, ◌*◌, drop}
use Rattle.lines.specs.Lines.{line_text}
use Rattle.lines.specs.Writes.{overwrite}
use Rattle.lines.proofs.put_line.Given as goal

-- the line is what was written and the digits of the bytes that are left
abbrev pub invariant-loop-k : goal.invariant-loop-k
invariant-loop-k l = overwrite l.bytes (l.at + 2 * l.k) (line_text (drop l.k l.frame)) ≡ overwrite l.initial.bytes l.at (line_text l.frame)
