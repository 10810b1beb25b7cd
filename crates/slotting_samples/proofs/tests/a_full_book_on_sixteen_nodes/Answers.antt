use Rattle.ring.proofs.Limits.{from_limits}
use Rattle.slotting_samples.proofs.tests.a_full_book_on_sixteen_nodes.Goals as goal

pub invariant_of-traffic : goal.invariant_of-traffic
invariant_of-traffic g c = record { limits = from_limits 16 _ c.full_book-demands.ensures }
