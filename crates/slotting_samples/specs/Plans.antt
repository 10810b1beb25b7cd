-- What slotting gives for the sample rings, by the definitions.
use Rattle.std.specs.Prelude.{◌≡◌, ℕ, [], ◌∷◌}
use Rattle.ring.specs.Ring.{slot_count}
use Rattle.ring.specs.Sides.{short_side, shut}
use Rattle.ring.specs.declared.Row.{Row}
use Rattle.samples.specs.Samples.{neighbours, opposites, crossing}
use Rattle.drawn.specs.Slotting.{drawn, best_link}

-- a unit of the demand numbered k, on the clockwise side, in a slot
abbrev pub clockwise : ℕ → ℕ → Row
clockwise k slot = record { demand = k; side = 0; slot = slot }

pub record SamplePlans : Type 0 where
  -- six nodes, one unit between each two neighbours: one slot by the short side
  pub neighbours_short : slot_count (drawn 6 short_side neighbours) ≡ 1
  -- with link 6 shut, two
  pub neighbours_shut : slot_count (drawn 6 (shut 6) neighbours) ≡ 2
  -- no link does better, so the best link is the first, link 1, with two
  pub neighbours_link : best_link 6 neighbours ≡ 1
  pub neighbours_best : slot_count (drawn 6 (shut (best_link 6 neighbours)) neighbours) ≡ 2
  -- six nodes, units 1-4, 2-5, 3-6: three slots by the short side
  pub opposites_short : slot_count (drawn 6 short_side opposites) ≡ 3
  -- four nodes, two units 1-3 and one unit 2-4: slots 1, 2 and 3
  pub crossing_short : drawn 4 short_side crossing ≡ clockwise 1 1 ∷ clockwise 1 2 ∷ clockwise 2 3 ∷ []
  -- no demands, no rows
  pub none : slot_count (drawn 3 short_side []) ≡ 0
