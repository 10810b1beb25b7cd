-- The turns hold each demand's units once: a count over the turns is a sum over the routes.
use Rattle.std.proofs.Common.{◌≡◌, ℕ, zero, suc, ◌+◌, ◌-◌, ◌<◌, ◌≤◌, Bool, true, false, cond, not, ◌&&◌, eqb, ltb, leb, List, [], ◌∷◌, ◌++◌, replicate, filter, refl, ◌∙◌, arith}
use Rattle.std.specs.List.{range_with_len, flat_map, AllByRecursion as Each}
use Rattle.ring.specs.Sums.{sum_of, count_of}
use Rattle.ring.proofs.Summing.{sum_cons, sum_append, count_cons, all_of, sum_eq, sum_add, sum_swap}
use Rattle.std.proofs.ByRecursion.{All-weaker}
use Rattle.std.proofs.lemmas.Bool.{cond_both, cond-true, cond-false}
use Rattle.std.proofs.lemmas.Bool.Decides.{nat_tests}
use Rattle.ring.specs.Sides.{holds}
use Rattle.ring.specs.declared.Route.{Route}
use Rattle.drawn.specs.Slotting.{start_node, round, units_of, units_over, units_from, units_beside, Valid, begins_at}
use Rattle.ring.specs.declared.Side.{Side}
use Rattle.ring.specs.declared.Side.TheVariants.{Clockwise, CounterClockwise}

pub sum_kept_by : {X : Type 0} (f : X → ℕ) (t : X → Bool) (xs : List X) → sum_of f (filter t xs) ≡ sum_of (λ x. cond (t x) (f x) 0) xs
sum_kept_by f t [] = refl
sum_kept_by f t (x ∷ xs) =
    cond_both (t x) (x ∷ filter t xs) (filter t xs) (λ ys. sum_of f ys ≡ sum_of (λ x. cond (t x) (f x) 0) (x ∷ xs))
    (λ e. omega (arith, sum_cons f x (filter t xs), sum_cons (λ x. cond (t x) (f x) 0) x xs, sum_kept_by f t xs, cond-true (t x) (f x) 0 e))
    (λ e. omega (arith, sum_cons (λ x. cond (t x) (f x) 0) x xs, sum_kept_by f t xs, cond-false (t x) (f x) 0 e))

pub count_joined : {X Y : Type 0} (p : Y → Bool) (g : X → List Y) (xs : List X) → count_of p (flat_map g xs) ≡ sum_of (λ x. count_of p (g x)) xs
count_joined p g [] = refl
count_joined p g (x ∷ xs) =
    omega (arith, sum_append (λ y. cond (p y) 1 0) (g x) (flat_map g xs), count_joined p g xs, sum_cons (λ z. count_of p (g z)) x xs)

pub count_replicate : {X : Type 0} (p : X → Bool) (n : ℕ) (x : X) → count_of p (replicate n x) ≡ cond (p x) n 0
count_replicate p zero x = cond_both (p x) zero zero (λ k. 0 ≡ k) (λ _. refl) (λ _. refl)
count_replicate p (suc n) x =
    cond_both (p x) (suc n) 0 (λ k. count_of p (replicate (suc n) x) ≡ k)
    (λ e. omega (arith, count_cons p x (replicate n x), count_replicate p n x, cond-true {A = ℕ} (p x) 1 0 e, cond-true (p x) n 0 e))
    (λ e. omega (arith, count_cons p x (replicate n x), count_replicate p n x, cond-false {A = ℕ} (p x) 1 0 e, cond-false (p x) n 0 e))

-- the units in the order in which they get their slots
abbrev pub turns : ℕ → List Route → ℕ → List Route
turns n routes c = units_over routes c ++ units_beside n routes c

-- the units that pass p
abbrev pub units_by : (Route → Bool) → Route → ℕ
units_by p d = cond (p d) d.demand.units 0

pub count_units : (p t : Route → Bool) (routes : List Route) → count_of p (units_of (filter t routes)) ≡ sum_of (λ d. cond (t d) (units_by p d) 0) routes
count_units p t routes =
    count_joined p (λ d. replicate d.demand.units d) (filter t routes)
    ∙ sum_eq (λ d. count_of p (replicate d.demand.units d)) (units_by p) (filter t routes) (all_of _ (λ d. count_replicate p d.demand.units d) (filter t routes))
    ∙ sum_kept_by (units_by p) t routes

-- a node stands once in the round
pub pick_counting : (b : Bool) (s k a m : ℕ) → sum_of (λ v. cond (b && eqb s v) k 0) (range_with_len a m) ≡ cond (b && (leb a s && ltb s (a + m))) k 0
pick_counting b s k a zero = grind (arith, nat_tests)
pick_counting b s k a (suc m) = grind (arith, nat_tests, sum_cons (λ v. cond (b && eqb s v) k 0) a (range_with_len (a + 1) m), pick_counting b s k (a + 1) m)

pub pick_round : (b : Bool) (n c s k : ℕ) → c ≤ n → 1 ≤ s → s ≤ n → sum_of (λ v. cond (b && eqb s v) k 0) (round n c) ≡ cond b k 0
pick_round b n c s k h l u =
    grind (
      arith,
      nat_tests,
      sum_append (λ v. cond (b && eqb s v) k 0) (range_with_len (c + 1) (n - c)) (range_with_len 1 c),
      pick_counting b s k (c + 1) (n - c),
      pick_counting b s k 1 c,
    )

starts : (low high n : ℕ) (w : Side) → (1 ≤ low) × (low < high) × (high ≤ n) → (1 ≤ begins_at w low high) × (begins_at w low high ≤ n)
starts low high n Clockwise v = (omega arith, omega arith)
starts low high n CounterClockwise v = (omega arith, omega arith)

pub start_in : (n : ℕ) (d : Route) → Valid n d → (1 ≤ start_node d) × (start_node d ≤ n)
start_in n d v = starts d.demand.lower d.demand.upper n d.side v

pub count_beside : (p : Route → Bool) (n c : ℕ) (routes : List Route) → c ≤ n → Each (Valid n) routes →
    count_of p (units_beside n routes c) ≡ sum_of (λ d. cond (not (holds d c)) (units_by p d) 0) routes
count_beside p n c routes h valid =
    count_joined p (units_from routes c) (round n c)
    ∙ sum_eq (λ v. count_of p (units_from routes c v)) (λ v. sum_of (λ d. cond (not (holds d c) && eqb (start_node d) v) (units_by p d) 0) routes) (round n c)
    (all_of _ (λ v. count_units p (λ d. not (holds d c) && eqb (start_node d) v) routes) (round n c))
    ∙ sum_swap (λ v d. cond (not (holds d c) && eqb (start_node d) v) (units_by p d) 0) (round n c) routes
    ∙ sum_eq (λ d. sum_of (λ v. cond (not (holds d c) && eqb (start_node d) v) (units_by p d) 0) (round n c)) (λ d. cond (not (holds d c)) (units_by p d) 0) routes
    (All-weaker (Valid n) _ (λ d v. pick_round (not (holds d c)) n c (start_node d) (units_by p d) h (start_in n d v).0 (start_in n d v).1) routes valid)

split_cond : (b : Bool) (k : ℕ) → cond b k 0 + cond (not b) k 0 ≡ k
split_cond true k = omega arith
split_cond false k = omega arith

pub count_turns : (p : Route → Bool) (n c : ℕ) (routes : List Route) → c ≤ n → Each (Valid n) routes → count_of p (turns n routes c) ≡ sum_of (units_by p) routes
count_turns p n c routes h valid =
    omega (
      arith,
      sum_append (λ y. cond (p y) 1 0) (units_over routes c) (units_beside n routes c),
      count_units p (λ d. holds d c) routes,
      count_beside p n c routes h valid,
      sum_add (λ d. cond (holds d c) (units_by p d) 0) (λ d. cond (not (holds d c)) (units_by p d) 0) routes,
      sum_eq (λ d. cond (holds d c) (units_by p d) 0 + cond (not (holds d c)) (units_by p d) 0) (units_by p) routes
          (all_of _ (λ d. split_cond (holds d c) (units_by p d)) routes),
    )
