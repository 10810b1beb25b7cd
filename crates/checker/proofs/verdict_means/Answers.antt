use Rattle.std.proofs.Common.{refl}
use Rattle.checker.proofs.Answering.{answered}
use Rattle.checker.proofs.verdict_means.Goals as goal

pub returns : goal.returns
returns c n lines rows m = answered n lines rows m _ refl
