use Rattle.rules.proofs.LongWays.{long_ways_break_the_law}
use Rattle.rules.proofs.long_ways_break_the_law.Goals as goal

pub returns : goal.returns
returns c = long_ways_break_the_law
