use Rattle.std.proofs.Common.{◌≡◌, ◌+◌, ◌≤◌, ◌++◌, length, take, drop, fold}
use Rattle.ring.specs.Sides.{route_units}
use Rattle.sheet.specs.Marks.{used}
use Rattle.placing.specs.Drawing.{comes, marks_after, filled, turn_size}
use Rattle.placing.proofs.OpenRing.place_turn.Given as goal

abbrev pub invariant-loop-route : goal.invariant-loop-route
invariant-loop-route l =
    (l.at + route_units (drop l.route-index l.routes) ≡ length l.slots)
    × (used l.marks + turn_size l.self.cut (drop l.route-index l.routes) l.turn ≤ length l.marks)
    × (fold (marks_after l.self.nodes (comes l.self.cut l.turn)) l.marks (drop l.route-index l.routes) ≡ fold (marks_after l.self.nodes (comes l.self.cut l.turn)) l.initial.marks l.routes)
    × (take l.at l.slots ++ filled l.self.nodes (comes l.self.cut l.turn) l.marks (drop l.at l.slots) (drop l.route-index l.routes) ≡ filled l.self.nodes (comes l.self.cut l.turn) l.initial.marks l.initial.slots l.routes)
