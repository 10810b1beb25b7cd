use Rattle.std.proofs.Common.{refl}
use Rattle.drawn.specs.Slotting.{drawn}
use Rattle.slotting_samples.proofs.sample_plans_stand.Goals as goal

-- each is computed
pub returns : goal.returns
unfolding drawn
returns c = record { neighbours_short = refl; neighbours_shut = refl; neighbours_link = refl; neighbours_best = refl; opposites_short = refl; crossing_short = refl; none = refl }
