use Rattle.std.proofs.Common.{◌≡◌, None}
use Rattle.checkrows.specs.Track.{ClearTo, ClearOf}
use Rattle.checkrows.proofs.routes.DemandLines.colliding_pair.Given as goal

abbrev pub invariant-loop-j : goal.invariant-loop-j
invariant-loop-j l = (l.pair ≡ None) × ClearOf l.self.nodes l.self.lines.now l.rows l.i l.j

abbrev pub invariant-search : goal.invariant-search
invariant-search l = (l.pair ≡ None) × ClearTo l.self.nodes l.self.lines.now l.rows l.i
