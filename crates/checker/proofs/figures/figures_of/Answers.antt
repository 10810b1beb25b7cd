use Rattle.std.proofs.Common.{◌≡◌, ap₂, rules, of_calls, arith}
use Rattle.ring.specs.Ring.{load}
use Rattle.ring.specs.Sides.{per_link}
use Rattle.checker.proofs.Numbers.{slots_few}
use Rattle.checker.proofs.figures.figures_of.Goals as goal

pub overflow_cast-result : goal.overflow_cast-result
overflow_cast-result c = omega (arith, c.slot_count.ensures.value, slots_few c.args.rows.now, c.requires)
