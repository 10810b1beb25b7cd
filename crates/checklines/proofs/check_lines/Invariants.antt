use Rattle.std.proofs.Common.{◌≡◌, ◌≤◌, take, drop}
use Rattle.ring.specs.Ring.{units}
use Rattle.checklines.specs.Faults.{first_fault}
use Rattle.checklines.specs.Lines.{line_fault, lines_fault}
use Rattle.checklines.proofs.check_lines.Given as goal

abbrev pub invariant-loop-i : goal.invariant-loop-i
invariant-loop-i l =
    (first_fault (line_fault l.n) (take l.i l.lines) (drop l.i l.lines) ≡ lines_fault l.n l.lines) ×
    (l.units ≡ units (take l.i l.lines)) × (l.units ≤ 1024)
