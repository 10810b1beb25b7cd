-- The rows that are drawn are a plan.
use Rattle.std.proofs.Common.{◌≡◌, ℕ, ◌<◌, ◌≤◌, Bool, true, false, cond, ◌&&◌, eqb, ◌≢◌, List, [], ◌∷◌, map, length, sym, refl, ap, ◌∙◌, subst, arith}
use Rattle.std.specs.List.{AllByRecursion as Each}
use Rattle.std.proofs.ByRecursion.{All-map, All-weaker}
use Rattle.std.proofs.lemmas.Bool.{cond-true, cond-false, eq-eqb, ne_eqb, or_left, or_right, and_from, both_ways}
use Rattle.std.proofs.lemmas.Bool.Decides.{nat_tests}
use Rattle.ring.specs.Sums.{sum_of, count_of, one, some}
use Rattle.ring.specs.Ring.{over, Fitting, Numbered, named, row_over, load, Apart, Clear, Plan}
use Rattle.ring.specs.Sides.{code, Choice, chosen_load, holds, route_by, routes_by}
use Rattle.ring.specs.declared.Demand.{Demand}
use Rattle.ring.specs.declared.Row.{Row}
use Rattle.ring.specs.declared.Side.{Side}
use Rattle.ring.specs.declared.Side.TheVariants.{Clockwise, CounterClockwise}
use Rattle.ring.proofs.Summing.{sum_eq, all_of}
use Rattle.ring.specs.declared.Route.{Route}
use Rattle.drawn.specs.Slotting.{shares, slots_of, row_of, rows_in, Valid, Distinct, Rising}
use Rattle.drawn.proofs.FirstFit.{Led, all_both}
use Rattle.drawn.proofs.Line.{led_append, all_joined}
use Rattle.drawn.proofs.Counts.{count_joined}
use Rattle.drawn.proofs.Bounds.{first_fit, some_has}
use Rattle.drawn.proofs.Says.{Own, own_all, rise, pick, rows_count, rows_apart}

-- ---- lists
all_unmap : {X Y : Type 0} (P : Y → Type 0) (f : X → Y) (xs : List X) → Each P (map f xs) → Each (λ x. P (f x)) xs
all_unmap P f [] h = tt
all_unmap P f (x ∷ xs) h = (h.0, all_unmap P f xs h.1)

-- what holds of each element for each number
all_each : {X : Type 0} (P : ℕ → X → Type 0) (xs : List X) → ((k : ℕ) → Each (P k) xs) → Each (λ x. (k : ℕ) → P k x) xs
all_each P [] h = tt
all_each P (x ∷ xs) h = (λ k. (h k).0, all_each P xs (λ k. (h k).1))

all_swap : {X Y : Type 0} (P : X → Y → Type 0) (xs : List X) (ys : List Y) → Each (λ y. Each (λ x. P x y) xs) ys → Each (λ x. Each (P x) ys) xs
all_swap P [] ys h = tt
all_swap P (x ∷ xs) ys h = (All-weaker _ _ (λ y k. k.0) ys h, all_swap P xs ys (All-weaker _ _ (λ y k. k.1) ys h))

-- each number of a list is in it
members : (ks : List ℕ) → Each (λ k. some (λ x. eqb x k) ks ≡ true) ks
members [] = tt
members (k ∷ ks) = (
  or_left (eqb k k) (some (λ x. eqb x k) ks) (eq-eqb k k refl),
  All-weaker (λ j. some (λ x. eqb x j) ks ≡ true) _ (λ j h. or_right (eqb k j) (some (λ x. eqb x j) ks) h) ks (members ks),
)

-- ---- the routes of demands
pub valid_routes : (σ : Choice) (n : ℕ) (ds : List Demand) → Fitting n ds → Each (Valid n) (routes_by σ n ds)
valid_routes σ n ds fits = All-map (Valid n) (route_by σ n) ds fits

pub distinct_routes : (σ : Choice) (n : ℕ) (ds : List Demand) → Numbered ds → Distinct (routes_by σ n ds)
distinct_routes σ n [] h = tt
distinct_routes σ n (d ∷ ds) h = (
  All-map (λ (e : Route). d.number ≢ e.demand.number) (route_by σ n) ds (All-weaker (λ (c : Demand). c.number ≡ d.number → ⊥) (λ (c : Demand). d.number ≢ c.number) (λ c k q. k (sym q)) ds h.0),
  distinct_routes σ n ds h.1,
)

-- ---- each row is of a demand
named_all : (ds : List Demand) → Each (λ (d : Demand). named ds d.number ≡ true) ds
named_all [] = tt
named_all (d ∷ ds) = (
  or_left (eqb d.number d.number) (named ds d.number) (eq-eqb d.number d.number refl),
  All-weaker _ _ (λ (c : Demand) (h : named ds c.number ≡ true). or_right (eqb d.number c.number) (named ds c.number) h) ds (named_all ds),
)

-- what holds of the rows of each route
rows_each : (P : Row → Type 0) (ss : List (List Route)) (routes : List Route) → Each (λ (d : Route). (k : ℕ) → P (row_of d k)) routes → Each P (rows_in ss routes)
rows_each P ss routes h =
    all_joined P (λ d. map (row_of d) (slots_of 1 d ss)) routes
    (All-weaker (λ (d : Route). (k : ℕ) → P (row_of d k)) _ (λ d f. All-map P (row_of d) (slots_of 1 d ss) (all_of _ f (slots_of 1 d ss))) routes h)

rows_known : (σ : Choice) (n : ℕ) (ds : List Demand) (ss : List (List Route)) → Each (λ (r : Row). named ds r.demand ≡ true) (rows_in ss (routes_by σ n ds))
rows_known σ n ds ss =
    rows_each (λ (r : Row). named ds r.demand ≡ true) ss (routes_by σ n ds)
    (All-map (λ (d : Route). (k : ℕ) → named ds d.demand.number ≡ true) (route_by σ n) ds (All-weaker (λ (d : Demand). named ds d.number ≡ true) (λ (d : Demand). (k : ℕ) → named ds d.number ≡ true) (λ d h k. h) ds (named_all ds)))

-- ---- as many rows as units
eqb_turn : (a b : ℕ) → eqb a b ≡ eqb b a
eqb_turn a b = grind (arith, nat_tests)

count_rows_of : (k : ℕ) (d : Route) (ks : List ℕ) → count_of (λ (r : Row). eqb k r.demand) (map (row_of d) ks) ≡ cond (eqb k d.demand.number) (length ks) 0
count_rows_of k d ks = go (eqb k d.demand.number) refl ks
  where
    go : (t : Bool) → eqb k d.demand.number ≡ t → (ks : List ℕ) → count_of (λ (r : Row). eqb k r.demand) (map (row_of d) ks) ≡ cond t (length ks) 0
    go true q [] = refl
    go true q (j ∷ ks) = omega (arith, ap one q, go true q ks)
    go false q [] = refl
    go false q (j ∷ ks) = omega (arith, ap one q, go false q ks)

count_rows : (k : ℕ) (ss : List (List Route)) (routes : List Route) →
    count_of (λ (r : Row). eqb k r.demand) (rows_in ss routes) ≡ sum_of (λ (a : Route). cond (eqb k a.demand.number) (length (slots_of 1 a ss)) 0) routes
count_rows k ss routes =
    count_joined (λ (r : Row). eqb k r.demand) (λ d. map (row_of d) (slots_of 1 d ss)) routes
    ∙ sum_eq _ _ routes (all_of _ (λ d. count_rows_of k d (slots_of 1 d ss)) routes)

rows_full : (ss : List (List Route)) (routes : List Route) → Distinct routes → Each (λ (d : Route). length (slots_of 1 d ss) ≡ d.demand.units) routes →
    Each (λ (d : Route). count_of (λ (r : Row). eqb d.demand.number r.demand) (rows_in ss routes) ≡ d.demand.units) routes
rows_full ss routes distinct counts =
    all_both (λ (d : Route). sum_of (λ (a : Route). cond (eqb a.demand.number d.demand.number) (length (slots_of 1 a ss)) 0) routes ≡ length (slots_of 1 d ss))
    (λ (d : Route). length (slots_of 1 d ss) ≡ d.demand.units) _
    (λ d e f. count_rows d.demand.number ss routes
    ∙ sum_eq _ _ routes (all_of _ (λ (a : Route). ap (λ t. cond t (length (slots_of 1 a ss)) 0) (eqb_turn d.demand.number a.demand.number)) routes)
    ∙ e ∙ f) routes (pick (λ a. length (slots_of 1 a ss)) routes distinct) counts

-- ---- one side
code_le : (s : Side) → code s ≤ 1
code_le Clockwise = omega arith
code_le CounterClockwise = omega arith

rows_sided : (ss : List (List Route)) (routes : List Route) → Distinct routes →
    Each (λ (d : Route). (s : ℕ) × (s ≤ 1) × Each (λ (r : Row). r.demand ≡ d.demand.number → r.side ≡ s) (rows_in ss routes)) routes
rows_sided ss routes distinct =
    All-weaker (λ a. Each (Own a) routes) _
    (λ d own. (
      code d.side,
      code_le d.side,
      rows_each (λ (r : Row). r.demand ≡ d.demand.number → r.side ≡ code d.side) ss routes
          (All-weaker (Own d) _ (λ a o k q. ap (λ (x : Route). code x.side) (sym (o (sym q)))) routes own),
    ))
    routes (own_all routes distinct)

-- ---- no two rows hold one link in one slot
-- a row's route is its demand's
row_holds : (ds : List Demand) → Numbered ds → Each (λ (d : Demand). (s k e : ℕ) → row_over ds (record { demand = d.number; side = s; slot = k }) e ≡ over s d.lower d.upper e) ds
row_holds [] h = tt
row_holds (d ∷ ds) h = (
  (λ s k e. cond-true (eqb d.number d.number) _ _ (eq-eqb d.number d.number refl)),
  all_both (λ (c : Demand). c.number ≡ d.number → ⊥) (λ (c : Demand). (s k e : ℕ) → row_over ds (record { demand = c.number; side = s; slot = k }) e ≡ over s c.lower c.upper e) _
      (λ c ne ih s k e. cond-false (eqb d.number c.number) _ _ (ne_eqb d.number c.number (λ q. ne (sym q))) ∙ ih s k e) ds h.0 (row_holds ds h.1),
)

-- what each two routes of different numbers have, each has with each later one
led_distinct : (Q : Route → Route → Type 0) (ds : List Route) → Distinct ds → Each (λ a. Each (λ b. a.demand.number ≢ b.demand.number → Q a b) ds) ds → Led Q ds
led_distinct Q [] h q = tt
led_distinct Q (d ∷ ds) h q = (
  all_both (λ (b : Route). d.demand.number ≢ b.demand.number) (λ b. d.demand.number ≢ b.demand.number → Q d b) (Q d) (λ b ne f. f ne) ds h.0 q.0.1,
  led_distinct Q ds h.1 (All-weaker _ _ (λ a k. k.1) ds q.1),
)

clear_led : (n : ℕ) (ds : List Demand) (rows : List Row) → Led (Apart n ds) rows → Clear n ds rows
clear_led n ds [] h = tt
clear_led n ds (r ∷ rs) h = (h.0, clear_led n ds rs h.1)

module _ (n : ℕ) (ds : List Demand) (ss : List (List Route)) where
  -- the rows of one demand have slots that rise
  abbrev OwnApart : Route → Type 0
  OwnApart a = Led (Apart n ds) (map (row_of a) (slots_of 1 a ss))

  own_apart : (a : Route) (ks : List ℕ) → Rising ks → Led (Apart n ds) (map (row_of a) ks)
  own_apart a [] h = tt
  own_apart a (k ∷ ks) h =
      (All-map (Apart n ds (row_of a k)) (row_of a) ks (All-weaker (λ j. k < j) _ (λ j l same e le x y. omega arith) ks h.0), own_apart a ks h.1)

  -- the rows of two demands
  abbrev BothApart : Route → Route → Type 0
  BothApart a b = Each (λ k. Each (λ j. Apart n ds (row_of a k) (row_of b j)) (slots_of 1 b ss)) (slots_of 1 a ss)

  rows_led : (routes : List Route) → Each OwnApart routes → Led BothApart routes → Led (Apart n ds) (rows_in ss routes)
  rows_led [] own both = tt
  rows_led (a ∷ rest) own both =
      led_append (Apart n ds) (map (row_of a) (slots_of 1 a ss)) (rows_in ss rest) own.0 (rows_led rest own.1 both.1)
      (All-map (λ r. Each (Apart n ds r) (rows_in ss rest)) (row_of a) (slots_of 1 a ss)
      (All-weaker (λ k. Each (λ b. Each (λ j. Apart n ds (row_of a k) (row_of b j)) (slots_of 1 b ss)) rest) _
      (λ k h. all_joined (Apart n ds (row_of a k)) (λ d. map (row_of d) (slots_of 1 d ss)) rest
      (All-weaker (λ b. Each (λ j. Apart n ds (row_of a k) (row_of b j)) (slots_of 1 b ss)) _ (λ b f. All-map (Apart n ds (row_of a k)) (row_of b) (slots_of 1 b ss) f) rest h))
      (slots_of 1 a ss)
      (all_swap (λ k b. Each (λ j. Apart n ds (row_of a k) (row_of b j)) (slots_of 1 b ss)) (slots_of 1 a ss) rest both.0)))

  -- a row of the route holds what the route holds
  abbrev Held : Route → Type 0
  Held a = (k e : ℕ) → row_over ds (row_of a k) e ≡ holds a e

  -- the routes share no link where they have a slot in common
  abbrev Free : Route → Route → Type 0
  Free a b = (k : ℕ) → some (λ x. eqb x k) (slots_of 1 a ss) ≡ true → some (λ x. eqb x k) (slots_of 1 b ss) ≡ true → shares n a b ≡ false

  both_apart : (a b : Route) → Held a → Held b → Free a b → BothApart a b
  both_apart a b ha hb free =
      All-weaker (λ k. some (λ x. eqb x k) (slots_of 1 a ss) ≡ true) _
      (λ k mk. All-weaker (λ j. some (λ x. eqb x j) (slots_of 1 b ss) ≡ true) _
      (λ j mj same e le x y. both_ways (shares n a b)
      (free k mk (subst (λ i. some (λ x. eqb x i) (slots_of 1 b ss) ≡ true) same mj))
      (some_has (λ e. holds a e && holds b e) e 1 n le.0 (omega (arith, le.1)) (and_from (holds a e) (holds b e) (sym (ha k e) ∙ x) (sym (hb j e) ∙ y))))
      (slots_of 1 b ss) (members (slots_of 1 b ss)))
      (slots_of 1 a ss) (members (slots_of 1 a ss))

-- a row of a chosen route holds what the route holds
rows_held : (σ : Choice) (n : ℕ) (ds : List Demand) (ss : List (List Route)) → Numbered ds → Each (Held n ds ss) (routes_by σ n ds)
rows_held σ n ds ss numbered =
    All-map (Held n ds ss) (route_by σ n) ds
    (All-weaker (λ (d : Demand). (s k e : ℕ) → row_over ds (record { demand = d.number; side = s; slot = k }) e ≡ over s d.lower d.upper e) (λ (d : Demand). Held n ds ss (route_by σ n d))
    (λ d h k e. h (code (σ n d.lower d.upper)) k e) ds (row_holds ds numbered))

-- ---- the rows over a link
count_held : (ds : List Demand) (e : ℕ) (d : Route) → ((k : ℕ) → row_over ds (row_of d k) e ≡ holds d e) → (ks : List ℕ) →
    count_of (λ (r : Row). row_over ds r e) (map (row_of d) ks) ≡ cond (holds d e) (length ks) 0
count_held ds e d h ks = go (holds d e) h ks
  where
    go : (t : Bool) → ((k : ℕ) → row_over ds (row_of d k) e ≡ t) → (ks : List ℕ) → count_of (λ (r : Row). row_over ds r e) (map (row_of d) ks) ≡ cond t (length ks) 0
    go true q [] = refl
    go true q (k ∷ ks) = omega (arith, ap one (q k), go true q ks)
    go false q [] = refl
    go false q (k ∷ ks) = omega (arith, ap one (q k), go false q ks)

pub rows_load : (n : ℕ) (σ : Choice) (ds : List Demand) → 1 ≤ n → Fitting n ds → Numbered ds → (e : ℕ) → load ds (rows_in (first_fit n (routes_by σ n ds)) (routes_by σ n ds)) e ≡ chosen_load σ n ds e
rows_load n σ ds n1 fits numbered e =
    let routes : List Route = routes_by σ n ds in
    let ss : List (List Route) = first_fit n routes in
    count_joined (λ (r : Row). row_over ds r e) (λ d. map (row_of d) (slots_of 1 d ss)) routes
    ∙ sum_eq (λ (d : Route). count_of (λ (r : Row). row_over ds r e) (map (row_of d) (slots_of 1 d ss))) (λ (d : Route). cond (holds d e) d.demand.units 0) routes
    (all_both (Held n ds ss) (λ (d : Route). length (slots_of 1 d ss) ≡ d.demand.units) _
    (λ d h q. count_held ds e d (λ k. h k e) (slots_of 1 d ss) ∙ ap (λ m. cond (holds d e) m 0) q) routes
    (rows_held σ n ds ss numbered) (rows_count n routes n1 (valid_routes σ n ds fits) (distinct_routes σ n ds numbered)))

-- ---- the plan
pub drawn_plan : (n : ℕ) (σ : Choice) (ds : List Demand) → 1 ≤ n → Fitting n ds → Numbered ds → Plan n ds (rows_in (first_fit n (routes_by σ n ds)) (routes_by σ n ds))
drawn_plan n σ ds n1 fits numbered =
    let routes : List Route = routes_by σ n ds in
    let ss : List (List Route) = first_fit n routes in
    let distinct = distinct_routes σ n ds numbered in
    let held : Each (Held n ds ss) routes = rows_held σ n ds ss numbered in
    let free : Each (λ a. Each (λ b. a.demand.number ≢ b.demand.number → Free n ds ss a b) routes) routes =
    All-weaker (λ a. (k : ℕ) → Each (λ b. a.demand.number ≢ b.demand.number → some (λ x. eqb x k) (slots_of 1 a ss) ≡ true → some (λ x. eqb x k) (slots_of 1 b ss) ≡ true → shares n a b ≡ false) routes) _
    (λ a h. All-weaker (λ b. (k : ℕ) → a.demand.number ≢ b.demand.number → some (λ x. eqb x k) (slots_of 1 a ss) ≡ true → some (λ x. eqb x k) (slots_of 1 b ss) ≡ true → shares n a b ≡ false) _
    (λ b f ne k. f k ne) routes (all_each _ routes h))
    routes (all_each _ routes (rows_apart n routes distinct)) in
    let both : Each (λ a. Each (λ b. a.demand.number ≢ b.demand.number → BothApart n ds ss a b) routes) routes =
    all_both (Held n ds ss) (λ a. Each (λ b. a.demand.number ≢ b.demand.number → Free n ds ss a b) routes) _
    (λ a ha f. all_both (Held n ds ss) (λ b. a.demand.number ≢ b.demand.number → Free n ds ss a b) _ (λ b hb g ne. both_apart n ds ss a b ha hb (g ne)) routes held f)
    routes held free in
    record {
      known = rows_known σ n ds ss;
      full = all_unmap _ (route_by σ n) ds (rows_full ss routes distinct (rows_count n routes n1 (valid_routes σ n ds fits) distinct));
      sided = all_unmap _ (route_by σ n) ds (rows_sided ss routes distinct);
      clear = clear_led n ds (rows_in ss routes)
          (rows_led n ds ss routes (all_of (OwnApart n ds ss) (λ a. own_apart n ds ss a (slots_of 1 a ss) (rise a ss 1)) routes)
          (led_distinct (BothApart n ds ss) routes distinct both));
    }
