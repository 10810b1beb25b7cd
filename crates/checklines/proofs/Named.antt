-- Whether a number is named, in the library's word.
use Rattle.std.proofs.Common.{◌≡◌, ℕ, ◌||◌, eqb, List, [], ◌∷◌, refl, ap}
use Rattle.std.specs.List.{list_any}
use Rattle.ring.specs.Ring.{named}
use Rattle.ring.specs.declared.Demand.{Demand}

pub as_list_any : (ds : List Demand) (k : ℕ) → named ds k ≡ list_any (λ (d : Demand). eqb d.number k) ds
as_list_any [] k = refl
as_list_any (d ∷ ds) k = ap (λ b. eqb d.number k || b) (as_list_any ds k)
