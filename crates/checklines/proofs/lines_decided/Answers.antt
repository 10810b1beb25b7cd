use Rattle.checklines.proofs.LinesPass.{lines_decided}
use Rattle.checklines.proofs.lines_decided.Goals as goal

pub returns : goal.returns
returns c = lines_decided
