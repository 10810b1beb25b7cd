use Rattle.std.proofs.Common.{◌≡◌, ◌++◌, length, take, drop}
use Rattle.booklaw.specs.Books.{node_rows}
use Rattle.handouts.proofs.NodeRows.copy_to.Given as goal

-- the rows that were yielded stand in the front
abbrev pub invariant-loop-at : goal.invariant-loop-at
invariant-loop-at l =
    l.places ≡ take (length l.yielded) (node_rows l.self.demands.now l.self.rows.now l.self.node) ++ drop (length l.yielded) l.initial.places
