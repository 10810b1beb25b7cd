use Rattle.std.proofs.Common.{arith}
use Rattle.book.proofs.Doing.{has_place, room_back, cleared}
use Rattle.book.proofs.book.Book.hand_back_returned.Goals as goal

pub prove-unreachable-requires : goal.prove-unreachable-requires
prove-unreachable-requires c = omega (arith, room_back c.args.self.now c.args.slip c.in_ok-slip.ensures.0)

pub invariant_of-self : goal.invariant_of-self
invariant_of-self c =
    let b = c.args.self.now in
    let less = cleared b c.args.slip c.in_ok-slip.ensures.0 _ _ c.in_ok-slip.ensures.1 c.clear.ensures in
    record { room = b.room; limits = b.limits; held = b.held; places = less.0; accounted = omega (arith, less.1, b.accounted) }
