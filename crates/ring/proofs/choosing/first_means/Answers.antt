use Rattle.ring.proofs.FirstBest.{first_least_lem, first_most_lem}
use Rattle.ring.proofs.choosing.first_means.Goals as goal

pub returns : goal.returns
returns c = record { least = first_least_lem; most = first_most_lem }
