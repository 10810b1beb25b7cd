use Rattle.std.proofs.Common.{◌≡◌, ◌*◌, ◌≤◌}
use Rattle.ring.specs.Sides.{weight_of, code}
use Rattle.rules.proofs.weights.Weights.weight_of.Given as goal

-- the total of the first links
abbrev pub invariant-loop-e : goal.invariant-loop-e
invariant-loop-e l = (l.total ≡ weight_of l.self.weights l.e (code l.side) l.lower l.upper) × (l.total ≤ 65535 * l.e)
