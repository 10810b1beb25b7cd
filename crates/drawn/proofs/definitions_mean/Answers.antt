use Rattle.drawn.proofs.Bounds.{over_first}
use Rattle.drawn.proofs.Says.{slots_rise}
use Rattle.drawn.proofs.Bears.{rows_load_links}
use Rattle.drawn.proofs.definitions_mean.Goals as goal

pub returns : goal.returns
returns c = record { first = over_first; rise = slots_rise; loads = rows_load_links }
