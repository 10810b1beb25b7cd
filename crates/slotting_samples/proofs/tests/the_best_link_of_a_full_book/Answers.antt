use Rattle.ring.proofs.Limits.{from_limits}
use Rattle.slotting_samples.proofs.tests.the_best_link_of_a_full_book.Goals as goal

pub invariant_of-traffic : goal.invariant_of-traffic
invariant_of-traffic g c = record { limits = from_limits 16 _ c.full_book-demands.ensures }
