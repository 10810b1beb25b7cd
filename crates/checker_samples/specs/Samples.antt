-- The known verdicts on some sample plans, by the definition.
use Rattle.std.specs.Prelude.{◌≡◌, ℕ, List, [], ◌∷◌, Ok, Err}
use Rattle.refusals.specs.declared.Refusal.TheVariants.{RingSize, EndOutside, TooFew, SlotOutside, Collision, CountWrong}
use Rattle.ring.specs.declared.Demand.{Demand}
use Rattle.ring.specs.declared.Row.{Row}
use Rattle.checker.specs.Verdicts.{verdict}

-- four nodes, two units between 1 and 3, one between 2 and 4
abbrev pub sample_lines : List Demand
sample_lines = record { number = 1; lower = 1; upper = 3; units = 2 } ∷ record { number = 2; lower = 2; upper = 4; units = 1 } ∷ []

-- all units clockwise, the last one in the slot k
abbrev pub sample_rows : ℕ → List Row
sample_rows k = record { demand = 1; side = 0; slot = 1 } ∷ record { demand = 1; side = 0; slot = 2 } ∷ record { demand = 2; side = 0; slot = k } ∷ []

pub record Samples : Type 0 where
  -- in slot 3 they are a plan with three slots and the loads 2, 3, 1, 0
  pub in_slot_3 : verdict 4 sample_lines (sample_rows 3) 1024 ≡ Ok (record { slots = 3; loads = 2 ∷ 3 ∷ 1 ∷ 0 ∷ 0 ∷ 0 ∷ 0 ∷ 0 ∷ 0 ∷ 0 ∷ 0 ∷ 0 ∷ 0 ∷ 0 ∷ 0 ∷ 0 ∷ [] })
  -- in slot 2 the last row meets row 2
  pub in_slot_2 : verdict 4 sample_lines (sample_rows 2) 1024 ≡ Err (Collision 3 2)
  pub in_slot_1025 : verdict 4 sample_lines (sample_rows 1025) 1024 ≡ Err (SlotOutside 3)
  pub two_nodes : verdict 2 sample_lines (sample_rows 3) 1024 ≡ Err RingSize
  pub short_sheet : verdict 4 sample_lines (sample_rows 3) 1023 ≡ Err (TooFew 1024)
  -- on three nodes the second line has an end outside
  pub three_nodes : verdict 3 sample_lines (sample_rows 3) 1024 ≡ Err (EndOutside 2)
  pub no_rows : verdict 4 sample_lines [] 1024 ≡ Err (CountWrong 1)
