use Rattle.std.proofs.Common.{sym, ◌∙◌, arith}
use Rattle.placing.proofs.Draws.{room_over, room_past, room_before, draws}
use Rattle.placing.proofs.OpenRing.place_routes.Goals as goal

pub place_turn-requires : goal.place_turn-requires
place_turn-requires c =
    record {
      long = c.requires.ready.long;
      places = c.requires.ready.places;
      room = room_over c.args.self.nodes c.args.self.cut c.args.routes.now c.args.marks.now c.args.slots.now (c.args.self.first, c.args.self.last) c.requires.blank c.requires.ready;
    }

pub place_nodes-requires : goal.place_nodes-requires
place_nodes-requires c =
    record {
      long = omega (arith, c.requires.ready.long, c.place_turn.auto.marks);
      places = c.requires.ready.places ∙ sym c.place_turn.auto.slots;
      room = room_past c.args.self.nodes c.args.self.cut c.args.routes.now c.args.marks.now c.args.slots.now (c.args.self.first, c.args.self.last) c.requires.blank c.requires.ready
          c.place_turn.new.marks c.place_turn.new.slots c.place_turn.ensures.marks;
    }

pub place_nodes-requires-2 : goal.place_nodes-requires-2
place_nodes-requires-2 c =
    record {
      long = omega (arith, c.requires.ready.long, c.place_turn.auto.marks, c.place_nodes.auto.marks);
      places = c.requires.ready.places ∙ sym c.place_turn.auto.slots ∙ sym c.place_nodes.auto.slots;
      room = room_before c.args.self.nodes c.args.self.cut c.args.routes.now c.args.marks.now c.args.slots.now (c.args.self.first, c.args.self.last) c.requires.blank c.requires.ready
          c.place_turn.new.marks c.place_turn.new.slots c.place_turn.ensures.marks c.place_nodes.new.marks c.place_nodes.ensures.marks;
    }

pub returns : goal.returns
returns c =
    draws c.args.self.nodes c.args.self.cut c.args.routes.now c.args.marks.now c.args.slots.now (c.args.self.first, c.args.self.last) c.requires.blank c.requires.ready
    c.place_turn.new.marks c.place_turn.new.slots c.place_turn.ensures.marks
    c.place_nodes.new.marks c.place_nodes.new.slots c.place_nodes-2.new.slots c.place_turn.ensures.slots c.place_nodes.ensures.marks c.place_nodes.ensures.slots c.place_nodes-2.ensures.slots
