use Rattle.std.proofs.Common.{refl}
use Rattle.ring.specs.Sides.{per_link}
use Rattle.checker_samples.proofs.sample_verdicts_stand.Goals as goal

pub returns : goal.returns
unfolding per_link
returns c = record { in_slot_3 = refl; in_slot_2 = refl; in_slot_1025 = refl; two_nodes = refl; short_sheet = refl; three_nodes = refl; no_rows = refl }
