use Rattle.checkrows.specs.Track.{Going}
use Rattle.checkrows.proofs.rows.check_rows.Given as goal

abbrev pub invariant-loop-i : goal.invariant-loop-i
invariant-loop-i l = Going l.n l.lines l.rows l.i l.firsts l.marks
