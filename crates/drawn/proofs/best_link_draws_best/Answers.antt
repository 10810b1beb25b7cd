use Rattle.drawn.proofs.Bears.{draws_best}
use Rattle.drawn.proofs.best_link_draws_best.Goals as goal

pub returns : goal.returns
returns c = draws_best
