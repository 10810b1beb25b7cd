-- The known figures of some sample rings, by the definitions.
use Rattle.std.specs.Prelude.{◌≡◌, ℕ, List, [], ◌∷◌}
use Rattle.ring.specs.Ring.{heaviest, lower_bound_of}
use Rattle.ring.specs.Sides.{chosen_load, short_side, shut, light_side}
use Rattle.ring.specs.Cuts.{cut_at, heaviest_cut}
use Rattle.ring.specs.declared.Demand.{Demand}
use Rattle.ring.specs.declared.Side.TheVariants.{Clockwise, CounterClockwise}

-- so many units between two nodes
abbrev pub between : ℕ → ℕ → ℕ → ℕ → Demand
between k i j u = record { number = k; lower = i; upper = j; units = u }

-- six nodes, one unit between each two neighbours
abbrev pub neighbours : List Demand
neighbours = between 1 1 2 1 ∷ between 2 2 3 1 ∷ between 3 3 4 1 ∷ between 4 4 5 1 ∷ between 5 5 6 1 ∷ between 6 1 6 1 ∷ []

-- six nodes, one unit between each two that lie opposite
abbrev pub opposites : List Demand
opposites = between 1 1 4 1 ∷ between 2 2 5 1 ∷ between 3 3 6 1 ∷ []

-- four nodes, two units between 1 and 3, one between 2 and 4
abbrev pub crossing : List Demand
crossing = between 1 1 3 2 ∷ between 2 2 4 1 ∷ []

pub record SampleFigures : Type 0 where
  -- neighbours: the heaviest cut is the first of those with the total 2, and one slot cannot be excluded
  pub neighbours_cut : heaviest_cut 6 neighbours ≡ cut_at neighbours 1 2
  pub neighbours_total : heaviest 6 neighbours ≡ 2
  pub neighbours_bound : lower_bound_of 6 neighbours ≡ 1
  -- link 6 shut: the demand between 1 and 6 goes round over the links 1 to 5
  pub neighbours_shut : chosen_load (shut 6) 6 neighbours 5 ≡ 2
  pub neighbours_shut_link : chosen_load (shut 6) 6 neighbours 6 ≡ 0
  -- opposites: the cut total is 3, so at least two slots
  pub opposites_total : heaviest 6 opposites ≡ 3
  pub opposites_bound : lower_bound_of 6 opposites ≡ 2
  -- crossing, by the short side: loads 2, 3, 1, 0, and the cut (1, 3) with the total 3
  pub crossing_load_1 : chosen_load short_side 4 crossing 1 ≡ 2
  pub crossing_load_2 : chosen_load short_side 4 crossing 2 ≡ 3
  pub crossing_load_3 : chosen_load short_side 4 crossing 3 ≡ 1
  pub crossing_load_4 : chosen_load short_side 4 crossing 4 ≡ 0
  pub crossing_cut : heaviest_cut 4 crossing ≡ record { first = 1; second = 3; total = 3 }
  pub crossing_bound : lower_bound_of 4 crossing ≡ 2
  -- three nodes and no demand: the cut (1, 2) with the total 0
  pub empty_cut : heaviest_cut 3 [] ≡ record { first = 1; second = 2; total = 0 }
  pub empty_bound : lower_bound_of 3 [] ≡ 0
  -- three nodes with the weights 1, 1, 2: the routes of the ends 1 and 3 weigh the same, so clockwise; with 1, 2, 2 no longer
  pub equal_weights : light_side (1 ∷ 1 ∷ 2 ∷ []) 3 1 3 ≡ Clockwise
  pub unequal_weights : light_side (1 ∷ 2 ∷ 2 ∷ []) 3 1 3 ≡ CounterClockwise
