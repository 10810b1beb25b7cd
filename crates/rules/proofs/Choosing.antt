-- The steps of the loop that puts demands on their sides.
use Rattle.std.proofs.Common.{◌≡◌, ℕ, ◌+◌, ◌<◌, ◌≤◌, List, [], ◌∷◌, ◌++◌, length, get_or, take, set, sym, ap, ◌∙◌, ap₂, arith}
use Rattle.std.proofs.lemmas.List.{take_more, take_more_set, take_all, map-append}
use Rattle.ring.specs.Sides.{Choice, route_by, routes_by}
use Rattle.ring.specs.declared.Demand.{Demand}
use Rattle.ring.specs.declared.Route.{Route}

pub sides_more : (σ : Choice) (n : ℕ) (ds : List Demand) (routes : List Route) (i : ℕ) (z : Demand) (r : Route) → i < length ds → length routes ≡ length ds →
    r ≡ route_by σ n (get_or ds i z) → take i routes ≡ routes_by σ n (take i ds) → take (i + 1) (set routes i r) ≡ routes_by σ n (take (i + 1) ds)
sides_more σ n ds routes i z r lt same is h =
    take_more_set routes i r (omega arith)
    ∙ ap₂ (λ (rs : List Route) (q : Route). rs ++ q ∷ []) h is
    ∙ sym (map-append (route_by σ n) (take i ds) (get_or ds i z ∷ []))
    ∙ ap (routes_by σ n) (sym (take_more ds i z lt))

pub sides_all : (σ : Choice) (n : ℕ) (ds : List Demand) (routes : List Route) (i : ℕ) → length ds ≤ i → length routes ≡ length ds →
    take i routes ≡ routes_by σ n (take i ds) → routes ≡ routes_by σ n ds
sides_all σ n ds routes i h same inv = sym (take_all i routes (omega arith)) ∙ inv ∙ ap (routes_by σ n) (take_all i ds h)
