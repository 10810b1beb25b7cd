use Rattle.std.proofs.Common.{◌≡◌, ◌+◌, ◌≤◌, ◌++◌, length, drop, vec_len, vec_capacity}
use Rattle.ring.specs.Sides.{route_units}
use Rattle.placing.specs.Drawing.{rows_from}
use Rattle.placing.proofs.rows.write_rows.Given as goal

abbrev pub invariant-loop-route : goal.invariant-loop-route
invariant-loop-route l =
    (route_units (drop l.route-index l.routes) ≡ length l.rest)
    × (l.rows.items ++ rows_from (drop l.route-index l.routes) l.rest ≡ l.initial.rows.items ++ rows_from l.routes l.slots)
    × (vec_len l.rows + length l.rest ≤ vec_capacity l.rows)
    × (vec_capacity l.rows ≡ vec_capacity l.initial.rows)
