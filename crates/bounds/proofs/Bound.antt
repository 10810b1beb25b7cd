-- The loads of a parallel choice against the cuts.
use Rattle.std.proofs.Common.{◌≡◌, ℕ, ◌+◌, ◌-◌, ◌≤◌, Bool, true, false, cond, not, eqb, List, [], ◌∷◌, sym, refl, subst, arith}
use Rattle.std.specs.List.{AllByRecursion as Each}
use Rattle.std.proofs.lemmas.Bool.{true≢false}
use Rattle.ring.specs.Sums.{most_of, least_of}
use Rattle.ring.specs.Ring.{within, differ, cut, heaviest, Link, Fitting}
use Rattle.ring.specs.Sides.{Choice, code, chosen, chosen_load, route_load, Parallel}
use Rattle.bounds.specs.Claims.{LinksHavePartners, LawfulLoadsFitTheHeaviestCut, LoadsFitTheHeaviestCut}
use Rattle.ring.specs.declared.Route.{Route}
use Rattle.ring.specs.declared.Demand.{Demand}
use Rattle.bounds.proofs.Spread.{most_le, least_le, cut_le_heaviest}
use Rattle.bounds.proofs.Helly.{partner}

-- of two links that no chosen route holds both, the loads are the cut
pub pair_load : (σ : Choice) (n e f : ℕ) (ds : List Demand) → Each (λ (d : Demand). chosen σ n d e ≡ true → chosen σ n d f ≡ false) ds →
    chosen_load σ n ds e + chosen_load σ n ds f ≡ cut ds e f
pair_load σ n e f [] h = refl
pair_load σ n e f (d ∷ ds) h =
    omega (arith, go (eqb (code (σ n d.lower d.upper)) 0) (within d.lower d.upper e) (within d.lower d.upper f) d.units h.0, pair_load σ n e f ds h.1)
  where
    go : (c a b : Bool) (u : ℕ) → (cond c a (not a) ≡ true → cond c b (not b) ≡ false) →
        cond (cond c a (not a)) u 0 + cond (cond c b (not b)) u 0 ≡ cond (differ a b) u 0
    go true true true u k = absurd (true≢false (k refl))
    go true true false u k = omega arith
    go true false true u k = omega arith
    go true false false u k = omega arith
    go false true true u k = omega arith
    go false true false u k = omega arith
    go false false true u k = omega arith
    go false false false u k = absurd (true≢false (k refl))

pub links_have_partners : LinksHavePartners
links_have_partners σ par n a b ds fits e le =
    let p = partner σ par n a b e le ds fits in
    (p.0, p.1, p.2, pair_load σ n e p.0 ds p.2)

-- the load of a link and the least load
with_least : (σ : Choice) → Parallel σ → (n : ℕ) → 3 ≤ n → n ≤ 16 → (ds : List Demand) → Fitting n ds → (e : ℕ) → Link n e →
    chosen_load σ n ds e + least_of (chosen_load σ n ds 1) n (chosen_load σ n ds) ≤ heaviest n ds
with_least σ par n a b ds fits e le =
    let p = links_have_partners σ par n a b ds fits e le in
    omega (arith, p.3, least_le (chosen_load σ n ds 1) n (chosen_load σ n ds) p.0 p.1, cut_le_heaviest n ds e p.0 le p.1)

pub lawful_loads_fit : LawfulLoadsFitTheHeaviestCut
lawful_loads_fit σ par n a b ds fits =
    let least = least_of (chosen_load σ n ds 1) n (chosen_load σ n ds) in
    let each : (e : ℕ) → Link n e → chosen_load σ n ds e ≤ heaviest n ds - least = λ e le. omega (arith, with_least σ par n a b ds fits e le) in
    omega (arith, with_least σ par n a b ds fits 1 (omega arith, omega arith), most_le n (chosen_load σ n ds) (heaviest n ds - least) each)

pub loads_fit_the_heaviest_cut : (n : ℕ) → 3 ≤ n → n ≤ 16 → (routes : List Route) → LoadsFitTheHeaviestCut n routes
loads_fit_the_heaviest_cut n a b routes σ par ds fits is =
    subst (λ rs. most_of n (route_load rs) + least_of (route_load rs 1) n (route_load rs) ≤ heaviest n ds) (sym is) (lawful_loads_fit σ par n a b ds fits)
