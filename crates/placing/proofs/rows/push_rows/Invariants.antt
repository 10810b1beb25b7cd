use Rattle.std.proofs.Common.{◌≡◌, ◌+◌, ◌++◌, map, take, vec_len, vec_capacity}
use Rattle.drawn.specs.Slotting.{row_of}
use Rattle.placing.proofs.rows.push_rows.Given as goal

abbrev pub invariant-loop-slot : goal.invariant-loop-slot
invariant-loop-slot l =
    (l.rows.items ≡ l.initial.rows.items ++ map (row_of l.route) (take l.slot-index l.slots))
    × (vec_len l.rows ≡ vec_len l.initial.rows + l.slot-index)
    × (vec_capacity l.rows ≡ vec_capacity l.initial.rows)
