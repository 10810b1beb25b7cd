-- What the demands alone say of every plan for them, and what a lawful choice of sides says of its loads. A rival is any plan for the same
-- demands, routed and slotted anyhow.
use Rattle.std.specs.Prelude.{◌≡◌, ℕ, ◌+◌, ◌*◌, ◌≤◌, true, false, List}
use Rattle.std.specs.List.{AllByRecursion as Each}
use Rattle.ring.specs.Sums.{most_of, least_of}
use Rattle.ring.specs.Ring.{Plan, Numbered, Fitting, Link, cut, heaviest, load, slot_count}
use Rattle.ring.specs.Sides.{Choice, Parallel, chosen, chosen_load, route_load, routes_by, shut}
use Rattle.ring.specs.declared.Demand.{Demand}
use Rattle.ring.specs.declared.Row.{Row}
use Rattle.ring.specs.declared.Route.{Route}

-- the greatest and the least of the figures of the links 1 to n
abbrev pub greatest_of : ℕ → (ℕ → ℕ) → ℕ
greatest_of n g = most_of n g

abbrev pub smallest_of : ℕ → (ℕ → ℕ) → ℕ
smallest_of n g = least_of (g 1) n g

-- ---- every plan pays for every link and every cut
-- in a plan the load of a link is at most the slot count
abbrev pub LoadsFitSlots : ℕ → List Demand → Type 0
LoadsFitSlots n ds = (rival : List Row) → Plan n ds rival → (e : ℕ) → Link n e → load ds rival e ≤ slot_count rival

-- a plan has a cut's total on the cut's two links, so at least half of it as slots
abbrev pub PlansPayForCuts : ℕ → List Demand → Type 0
PlansPayForCuts n ds = Numbered ds → (rival : List Row) → Plan n ds rival → (e f : ℕ) → Link n e → Link n f →
    (cut ds e f ≤ load ds rival e + load ds rival f) × (cut ds e f ≤ 2 * slot_count rival)

-- no plan has fewer slots than this
abbrev pub NoPlanHasFewer : ℕ → List Demand → ℕ → Type 0
NoPlanHasFewer n ds least = Numbered ds → (rival : List Row) → Plan n ds rival → least ≤ slot_count rival

-- twice a plan's slots are at least the heaviest cut's total
abbrev pub PlansPayForTheHeaviest : Type 0
PlansPayForTheHeaviest = (n : ℕ) (ds : List Demand) (rival : List Row) → Numbered ds → Plan n ds rival → heaviest n ds ≤ 2 * slot_count rival

-- ---- a lawful choice
-- each link has another that no chosen route holds together with it, so their loads are a cut
abbrev pub LinksHavePartners : Type 0
LinksHavePartners = (σ : Choice) → Parallel σ → (n : ℕ) → 3 ≤ n → n ≤ 16 → (ds : List Demand) → Fitting n ds →
    (e : ℕ) → Link n e →
    (f : ℕ) × Link n f × Each (λ (d : Demand). chosen σ n d e ≡ true → chosen σ n d f ≡ false) ds × (chosen_load σ n ds e + chosen_load σ n ds f ≡ cut ds e f)

-- the greatest load and the least are together at most the heaviest cut's total
abbrev pub LawfulLoadsFitTheHeaviestCut : Type 0
LawfulLoadsFitTheHeaviestCut = (σ : Choice) → Parallel σ → (n : ℕ) → 3 ≤ n → n ≤ 16 → (ds : List Demand) → Fitting n ds →
    greatest_of n (chosen_load σ n ds) + smallest_of n (chosen_load σ n ds) ≤ heaviest n ds

-- the same of routes that were chosen by some lawful choice
abbrev pub LoadsFitTheHeaviestCut : ℕ → List Route → Type 0
LoadsFitTheHeaviestCut n routes = (σ : Choice) → Parallel σ → (ds : List Demand) → Fitting n ds → routes ≡ routes_by σ n ds →
    greatest_of n (route_load routes) + smallest_of n (route_load routes) ≤ heaviest n ds

-- ---- a link shut
-- where all routes avoid the link s, the loads are the cuts with s
abbrev pub ShutLoadsAreCuts : Type 0
ShutLoadsAreCuts = (s n : ℕ) (ds : List Demand) → 3 ≤ n → n ≤ 16 → Link n s → Fitting n ds → (e : ℕ) → chosen_load (shut s) n ds e ≡ cut ds e s

-- nothing is over s, and no load passes a rival's slots together with its load on s
abbrev pub ShutLoadsFitRivals : Type 0
ShutLoadsFitRivals = (s n : ℕ) (ds : List Demand) (rival : List Row) → 3 ≤ n → n ≤ 16 → Link n s → Fitting n ds → Numbered ds → Plan n ds rival →
    (chosen_load (shut s) n ds s ≡ 0) × (greatest_of n (chosen_load (shut s) n ds) ≤ slot_count rival + load ds rival s)

-- both of routes that were chosen with a link shut
abbrev pub ShutRoutesLoadCuts : ℕ → List Route → Type 0
ShutRoutesLoadCuts n routes = (s : ℕ) → Link n s → (ds : List Demand) → Fitting n ds → routes ≡ routes_by (shut s) n ds →
    ((e : ℕ) → route_load routes e ≡ cut ds e s)
    × (Numbered ds → (rival : List Row) → Plan n ds rival → (e : ℕ) → Link n e → route_load routes e ≤ slot_count rival + load ds rival s)
