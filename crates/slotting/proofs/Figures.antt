-- The figures and the theorems of what was drawn.
use Rattle.std.proofs.Common.{◌≡◌, ℕ, cond, leb, List, [], ◌∷◌, map, sym, refl, ap, ◌∙◌, ap₂}
use Rattle.std.specs.List.{range_with_len}
use Rattle.ring.specs.Ring.{WithinLimits, load}
use Rattle.ring.specs.Sides.{Choice, chosen_load, route_load, routes_by, per_link}
use Rattle.ring.specs.declared.Demand.{Demand}
use Rattle.ring.specs.declared.Route.{Route}
use Rattle.ring.specs.declared.Row.{Row}
use Rattle.drawn.specs.Slotting.{drawn}
use Rattle.drawn.proofs.Bears.{rows_load_links}

map_same : (f g : ℕ → ℕ) → ((e : ℕ) → f e ≡ g e) → (es : List ℕ) → map f es ≡ map g es
map_same f g h [] = refl
map_same f g h (e ∷ es) = ap₂ (λ x xs. x ∷ xs) (h e) (map_same f g h es)

per_link_same : (n : ℕ) (f g : ℕ → ℕ) → ((e : ℕ) → f e ≡ g e) → per_link n f ≡ per_link n g
unfolding per_link
per_link_same n f g h = map_same (λ e. cond (leb e n) (f e) 0) (λ e. cond (leb e n) (g e) 0) (λ e. ap (λ k. cond {A = ℕ} (leb e n) k 0) (h e)) (range_with_len 1 16)

-- the loads by the chosen sides are those of the rows
pub loads_drawn : (n : ℕ) (σ : Choice) (ds : List Demand) (routes : List Route) (rows : List Row) (loads : List ℕ) → WithinLimits n ds → routes ≡ routes_by σ n ds → rows ≡ drawn n σ ds →
    loads ≡ per_link n (route_load routes) → loads ≡ per_link n (load ds rows)
loads_drawn n σ ds routes rows loads limits is are h =
    h ∙ ap (λ rs. per_link n (route_load rs)) is
    ∙ per_link_same n (chosen_load σ n ds) (load ds (drawn n σ ds)) (λ e. sym (rows_load_links n σ ds limits e))
    ∙ ap (λ rs. per_link n (load ds rs)) (sym are)
