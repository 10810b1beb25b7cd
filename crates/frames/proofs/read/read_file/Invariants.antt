use Rattle.std.proofs.Common.{length}
use Rattle.frames.proofs.Steps.{Left}
use Rattle.frames.proofs.read.read_file.Given as goal

-- the reading of the text is what was written and the reading of what is left
abbrev pub invariant-loop-rest : goal.invariant-loop-rest
invariant-loop-rest l = Left (length l.initial.demands) (length l.initial.rows) l.text l.initial.demands l.initial.rows l.rest l.line l.p l.demands l.rows

abbrev pub decreases-loop-rest : goal.decreases-loop-rest
decreases-loop-rest l = length l.rest
