-- The rows from the slots that the routes have.
use Rattle.std.proofs.Common.{◌≡◌, ℕ, List, [], ◌∷◌, ◌++◌, map, length, refl, ap, ◌∙◌, ap₂}
use Rattle.std.specs.List.{AllByRecursion as Each}
use Rattle.std.proofs.lemmas.List.{take_at, drop_at}
use Rattle.ring.specs.declared.Route.{Route}
use Rattle.drawn.specs.Slotting.{slots_of, slots_in, row_of, rows_in}
use Rattle.placing.specs.Drawing.{rows_from}

-- the rows from the slots that the routes have are the rows in those slots
pub rows_from_slots : (ss : List (List Route)) (routes : List Route) → Each (λ (d : Route). length (slots_of 1 d ss) ≡ d.demand.units) routes →
    rows_from routes (slots_in ss routes) ≡ rows_in ss routes
rows_from_slots ss [] h = refl
rows_from_slots ss (d ∷ ds) h =
    let rest : List ℕ = slots_in ss ds in
    ap₂ (λ a b. map (row_of d) a ++ rows_from ds b) (take_at (slots_of 1 d ss) rest d.demand.units h.0) (drop_at (slots_of 1 d ss) rest d.demand.units h.0)
    ∙ ap (λ r. map (row_of d) (slots_of 1 d ss) ++ r) (rows_from_slots ss ds h.1)
