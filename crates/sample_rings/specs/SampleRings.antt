-- The known figures, plans and verdicts of some sample rings, by the definitions alone: no run of the code is in it.
use Rattle.std.specs.Prelude.{◌≡◌, ℕ, List, [], ◌∷◌, Ok, Err}
use Rattle.refusals.specs.declared.Refusal.TheVariants.{RingSize, EndOutside, TooFew, SlotOutside, Collision, CountWrong}
use Rattle.refusals.specs.Refusals.{refusal_number}
use Rattle.ring.specs.Ring.{heaviest, load, lower_bound_of, slot_count}
use Rattle.ring.specs.Sides.{chosen_load, per_link, short_side, shut, light_side}
use Rattle.ring.specs.Cuts.{cut_at, heaviest_cut}
use Rattle.ring.specs.declared.Demand.{Demand}
use Rattle.ring.specs.declared.Row.{Row}
use Rattle.ring.specs.declared.Side.TheVariants.{Clockwise, CounterClockwise}
use Rattle.drawn.specs.Slotting.{drawn, best_link}
use Rattle.checker.specs.Verdicts.{verdict}

-- so many units between two nodes
abbrev pub between : ℕ → ℕ → ℕ → ℕ → Demand
between k i j u = record { number = k; lower = i; upper = j; units = u }

-- six nodes, one unit between each two neighbours
abbrev pub neighbours : List Demand
neighbours = between 1 1 2 1 ∷ between 2 2 3 1 ∷ between 3 3 4 1 ∷ between 4 4 5 1 ∷ between 5 5 6 1 ∷ between 6 1 6 1 ∷ []

-- six nodes, one unit between each two that lie opposite
abbrev pub opposites : List Demand
opposites = between 1 1 4 1 ∷ between 2 2 5 1 ∷ between 3 3 6 1 ∷ []

-- four nodes, two units between 1 and 3, one between 2 and 4
abbrev pub crossing : List Demand
crossing = between 1 1 3 2 ∷ between 2 2 4 1 ∷ []

-- a unit of the demand numbered k, on the clockwise side, in a slot
abbrev pub clockwise : ℕ → ℕ → Row
clockwise k slot = record { demand = k; side = 0; slot = slot }

-- the rows of crossing, all clockwise, the last one in the slot k
abbrev pub crossing_rows : ℕ → List Row
crossing_rows k = clockwise 1 1 ∷ clockwise 1 2 ∷ clockwise 2 k ∷ []

-- the loads 2, 3, 1, 0 of the four links, and 0 past them
abbrev pub crossing_loads : List ℕ
crossing_loads = 2 ∷ 3 ∷ 1 ∷ 0 ∷ 0 ∷ 0 ∷ 0 ∷ 0 ∷ 0 ∷ 0 ∷ 0 ∷ 0 ∷ 0 ∷ 0 ∷ 0 ∷ 0 ∷ []

-- all of it in one statement
pub record SampleRings : Type 0 where
  -- neighbours: the heaviest cut is the first of those with the total 2, so the lower bound is 1; one slot by the short side
  pub neighbours_cut : heaviest_cut 6 neighbours ≡ cut_at neighbours 1 2
  pub neighbours_total : heaviest 6 neighbours ≡ 2
  pub neighbours_bound : lower_bound_of 6 neighbours ≡ 1
  pub neighbours_short : slot_count (drawn 6 short_side neighbours) ≡ 1
  -- with link 6 shut, the demand between 1 and 6 goes round over the links 1 to 5: two slots
  pub neighbours_shut_load : chosen_load (shut 6) 6 neighbours 5 ≡ 2
  pub neighbours_shut_link : chosen_load (shut 6) 6 neighbours 6 ≡ 0
  pub neighbours_shut : slot_count (drawn 6 (shut 6) neighbours) ≡ 2
  -- no link does better, so the best link is the first, link 1, with two
  pub neighbours_link : best_link 6 neighbours ≡ 1
  pub neighbours_best : slot_count (drawn 6 (shut (best_link 6 neighbours)) neighbours) ≡ 2
  -- opposites: the cut total is 3, so the lower bound is 2; three slots by the short side
  pub opposites_total : heaviest 6 opposites ≡ 3
  pub opposites_bound : lower_bound_of 6 opposites ≡ 2
  pub opposites_short : slot_count (drawn 6 short_side opposites) ≡ 3
  -- crossing, by the short side: slots 1, 2 and 3, loads 2, 3, 1, 0, the cut (1, 3) with the total 3, lower bound 2
  pub crossing_short : drawn 4 short_side crossing ≡ crossing_rows 3
  pub crossing_short_loads : per_link 4 (load crossing (drawn 4 short_side crossing)) ≡ crossing_loads
  pub crossing_cut : heaviest_cut 4 crossing ≡ record { first = 1; second = 3; total = 3 }
  pub crossing_bound : lower_bound_of 4 crossing ≡ 2
  -- three nodes and no demand: no slots, the cut (1, 2) with the total 0
  pub empty_short : slot_count (drawn 3 short_side []) ≡ 0
  pub empty_cut : heaviest_cut 3 [] ≡ record { first = 1; second = 2; total = 0 }
  pub empty_bound : lower_bound_of 3 [] ≡ 0
  -- three nodes with the weights 1, 1, 2: the routes of the ends 1 and 3 weigh the same, so clockwise; with 1, 2, 2 no longer
  pub equal_weights : light_side (1 ∷ 1 ∷ 2 ∷ []) 3 1 3 ≡ Clockwise
  pub unequal_weights : light_side (1 ∷ 2 ∷ 2 ∷ []) 3 1 3 ≡ CounterClockwise
  -- the checker on the rows of crossing: they pass as they are; with the last slot made 2, row 3 meets row 2, which is refusal 23
  pub checked : verdict 4 crossing (crossing_rows 3) 1024 ≡ Ok (record { slots = 3; loads = crossing_loads })
  pub collision : verdict 4 crossing (crossing_rows 2) 1024 ≡ Err (Collision 3 2)
  pub collision_number : refusal_number (Collision 3 2) ≡ 23
  -- and at other edges
  pub slot_outside : verdict 4 crossing (crossing_rows 1025) 1024 ≡ Err (SlotOutside 3)
  pub two_nodes : verdict 2 crossing (crossing_rows 3) 1024 ≡ Err RingSize
  pub short_sheet : verdict 4 crossing (crossing_rows 3) 1023 ≡ Err (TooFew 1024)
  pub end_outside : verdict 3 crossing (crossing_rows 3) 1024 ≡ Err (EndOutside 2)
  pub no_rows : verdict 4 crossing [] 1024 ≡ Err (CountWrong 1)
