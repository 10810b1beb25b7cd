use Rattle.planfile.proofs.Naming.{named_in}
use Rattle.planfile.proofs.take.refusals_named.Goals as goal

pub returns : goal.returns
returns c = named_in
