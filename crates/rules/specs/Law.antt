-- What the law rules out.
use Rattle.std.specs.Prelude.{◌≡◌}
use Rattle.ring.specs.Sides.{Choice, Parallel}
use Rattle.ring.specs.declared.Side.TheVariants.{CounterClockwise}

-- On three nodes the counter-clockwise routes of 1-2 and 2-3 hold the links 2, 3 and 3, 1: they share link 3 and leave no link out. So no lawful
-- choice has both.
abbrev pub LongWaysBreakTheLaw : Type 0
LongWaysBreakTheLaw = (σ : Choice) → σ 3 1 2 ≡ CounterClockwise → σ 3 2 3 ≡ CounterClockwise → Parallel σ → ⊥
