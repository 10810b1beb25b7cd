-- Weights that are taken, and weights that are refused.
use Rattle.std.specs.Prelude.{◌≡◌, ℕ, ◌+◌, ◌<◌, ◌≤◌, List, slice_index}
use Rattle.refusals.specs.declared.Refusal.{Refusal}
use Rattle.refusals.specs.declared.Refusal.TheVariants.{NoWeight}

-- none of the first m links has the weight 0
abbrev pub WeightyTo : ℕ → List ℕ → Type 0
WeightyTo m ws = (k : ℕ) → k < m → 1 ≤ slice_index ws k

abbrev pub Weighty : List ℕ → Type 0
Weighty ws = WeightyTo 16 ws

-- the refusal names the first of the 16 links with the weight 0
abbrev pub FirstWeightless : List ℕ → Refusal → Type 0
FirstWeightless ws e = (k : ℕ) × (k < 16) × (e ≡ NoWeight (k + 1)) × (slice_index ws k ≡ 0) × WeightyTo k ws
