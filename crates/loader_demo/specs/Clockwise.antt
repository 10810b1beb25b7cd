-- The rule of this program: everything goes clockwise. A clockwise route has its ends i < j ≤ n and holds the links i to j - 1, so never link n: that link is in neither of
-- any two chosen routes, and the law holds.
use Rattle.std.specs.Prelude.{◌≡◌, ℕ, ◌≤◌, false, nat_le, nat_lt, refl}
use Rattle.std.proofs.Common.{arith}
use Rattle.std.proofs.lemmas.Bool.{and_right, le-ltb}
use Rattle.ring.specs.Ring.{within}
use Rattle.ring.specs.Sides.{Choice, Parallel, Elsewhere}
use Rattle.ring.specs.declared.Side.TheVariants.{Clockwise}

abbrev pub all_clockwise : Choice
all_clockwise n i j = Clockwise

past_the_ends : (i j n : ℕ) → j ≤ n → within i j n ≡ false
past_the_ends i j n h = and_right (nat_le i n) (nat_lt n j) (le-ltb n j h)

pub clockwise_parallel : Parallel all_clockwise
clockwise_parallel n low high i j k l ij kl e on a b = (n, (omega arith, omega arith), past_the_ends i j n ij.2, past_the_ends k l n kl.2)

pub clockwise_elsewhere : Elsewhere all_clockwise
clockwise_elsewhere n i j h = refl
