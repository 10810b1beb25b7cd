use Rattle.std.proofs.Common.{◌≡◌, ℕ, ◌+◌, ◌-◌, ◌<◌, [], sym, ap, ◌∙◌, ap₂, arith}
use Rattle.placing.specs.Drawing.{marks_turns, slots_turns, node_turns}
use Rattle.placing.proofs.Draws.{room_here, room_more, sheet_turns_more, out_turns_more, nodes_all}
use Rattle.placing.proofs.OpenRing.place_nodes.Goals as goal

pub loop-v-preserved : goal.loop-v-preserved
loop-v-preserved c =
    let n : ℕ = c.args.self.nodes in
    let k : ℕ = c.args.self.cut in
    let routes = c.args.routes.now in
    let v : ℕ = c.loop-v.v in
    let m : ℕ = c.args.end in
    let lt : v < m = omega arith in (
      room_more n k routes v m lt c.loop-v.marks c.place_turn.new.marks c.place_turn.ensures.marks c.loop-v.invariant.0,
      ap (λ s. marks_turns n k routes s (node_turns (v + 1) (m - (v + 1)))) c.place_turn.ensures.marks ∙ sheet_turns_more n k routes v m lt c.loop-v.marks ∙ c.loop-v.invariant.1,
      ap₂ (λ s o. slots_turns n k routes s o (node_turns (v + 1) (m - (v + 1)))) c.place_turn.ensures.marks c.place_turn.ensures.slots ∙ out_turns_more n k routes v m lt c.loop-v.marks c.loop-v.slots ∙ c.loop-v.invariant.2,
    )
