use Rattle.drawn.proofs.Bears.{draws_well}
use Rattle.drawn.proofs.lawful_choices_draw_well.Goals as goal

pub returns : goal.returns
returns c = draws_well
