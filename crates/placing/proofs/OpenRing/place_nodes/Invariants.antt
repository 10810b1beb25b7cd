use Rattle.std.proofs.Common.{◌≡◌, ◌+◌, ◌-◌, ◌≤◌, length}
use Rattle.sheet.specs.Marks.{used}
use Rattle.placing.specs.Drawing.{turns_size, marks_turns, slots_turns, node_turns}
use Rattle.placing.proofs.OpenRing.place_nodes.Given as goal

abbrev pub invariant-loop-v : goal.invariant-loop-v
invariant-loop-v l =
    (used l.marks + turns_size l.self.cut l.routes (node_turns l.v (l.end - l.v)) ≤ length l.marks)
    × (marks_turns l.self.nodes l.self.cut l.routes l.marks (node_turns l.v (l.end - l.v)) ≡ marks_turns l.self.nodes l.self.cut l.routes l.initial.marks (node_turns l.first (l.end - l.first)))
    × (slots_turns l.self.nodes l.self.cut l.routes l.marks l.slots (node_turns l.v (l.end - l.v)) ≡ slots_turns l.self.nodes l.self.cut l.routes l.initial.marks l.initial.slots (node_turns l.first (l.end - l.first)))
