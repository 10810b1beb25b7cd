-- Routes that do not hold the cut link c, as parts of a line that begins after c.
use Rattle.std.proofs.Common.{◌≡◌, ℕ, zero, suc, ◌+◌, ◌-◌, ◌<◌, ◌≤◌, Bool, true, false, cond, ◌&&◌, ltb, ◌⊎◌, List, [], ◌∷◌, ◌++◌, replicate, inr, ⊎_elim, arith}
use Rattle.std.specs.List.{range_with_len, flat_map, AllByRecursion as Each}
use Rattle.std.proofs.ByRecursion.{All-append, All-weaker}
use Rattle.std.proofs.lemmas.List.Elements.{recursion_from_All, All-replicate}
use Rattle.drawn.proofs.FirstFit.{Led}
use Rattle.std.proofs.lemmas.Bool.{and_parts, or_cases, false≢true}
use Rattle.std.proofs.lemmas.Bool.Decides.{nat_tests}
use Rattle.ring.specs.declared.Route.{Route}
use Rattle.ring.specs.Sums.{some}
use Rattle.ring.specs.Ring.{over}
use Rattle.ring.specs.Sides.{code, holds}
use Rattle.ring.specs.declared.Side.{Side}
use Rattle.ring.specs.declared.Side.TheVariants.{Clockwise, CounterClockwise}
use Rattle.drawn.specs.Slotting.{begins_at, shares, start_node, round, Valid}

-- how far the link e lies after the cut link c, clockwise
abbrev pub after : ℕ → ℕ → ℕ → ℕ
after n c e = cond (ltb c e) (e - c) (e + n - c)

pub all_counting : (P : ℕ → Type 0) (a m : ℕ) → ((k : ℕ) → a ≤ k → k < a + m → P k) → Each P (range_with_len a m)
all_counting P a zero f = tt
all_counting P a (suc m) f = (f a (omega arith) (omega arith), all_counting P (a + 1) m (λ k l u. f k (omega arith) (omega arith)))

-- one that passes, where each has the property Q
pub some_one : {X : Type 0} (p : X → Bool) (Q : X → Type 0) (xs : List X) → some p xs ≡ true → Each Q xs → (x : X) × (p x ≡ true) × Q x
some_one p Q [] h q = absurd (false≢true h)
some_one p Q (x ∷ xs) h q = ⊎_elim (λ e. (x, e, q.0)) (λ e. some_one p Q xs e q.1) (or_cases (p x) (some p xs) h)

-- what holding a link says in numbers
abbrev pub Inside : Side → ℕ → ℕ → ℕ → Type 0
Inside Clockwise low high e = (low ≤ e) × (e < high)
Inside CounterClockwise low high e = (e < low) ⊎ (high ≤ e)

abbrev pub Outside : Side → ℕ → ℕ → ℕ → Type 0
Outside Clockwise low high e = (e < low) ⊎ (high ≤ e)
Outside CounterClockwise low high e = (low ≤ e) × (e < high)

module _ (low high e : ℕ) where
  inside : (w : Side) → over (code w) low high e ≡ true → Inside w low high e
  inside Clockwise h = grind (arith, nat_tests)
  inside CounterClockwise h = grind (arith, nat_tests)

  outside : (w : Side) → over (code w) low high e ≡ false → Outside w low high e
  outside Clockwise h = grind (arith, nat_tests)
  outside CounterClockwise h = grind (arith, nat_tests)

  from_inside : (w : Side) → Inside w low high e → over (code w) low high e ≡ true
  from_inside Clockwise h = grind (arith, nat_tests)
  from_inside CounterClockwise h = grind (arith, nat_tests)

-- two routes beside the cut that share a link: the one that begins no later holds the first link of the other
module _ (n c e la ha lb hb : ℕ) (c1 : 1 ≤ c) (cn : c ≤ n) (e1 : 1 ≤ e) (en : e ≤ n)
    (va : (1 ≤ la) × (la < ha) × (ha ≤ n)) (vb : (1 ≤ lb) × (lb < hb) × (hb ≤ n)) where
  meets : (wa wb : Side) → Outside wa la ha c → Outside wb lb hb c → Inside wa la ha e → Inside wb lb hb e →
      after n c (begins_at wa la ha) ≤ after n c (begins_at wb lb hb) → Inside wa la ha (begins_at wb lb hb)
  meets Clockwise Clockwise oa ob ia ib r = grind (arith, nat_tests)
  meets Clockwise CounterClockwise oa ob ia ib r = grind (arith, nat_tests)
  meets CounterClockwise Clockwise oa ob ia ib r = grind (arith, nat_tests)
  meets CounterClockwise CounterClockwise oa ob ia ib r = grind (arith, nat_tests)

-- a unit beside the cut link c that begins at the node v
abbrev pub AtNode : ℕ → ℕ → ℕ → Route → Type 0
AtNode n c v d = Valid n d × (holds d c ≡ false) × (start_node d ≡ v)

pub leads : (n c : ℕ) (a b : Route) → 1 ≤ c → c ≤ n → Valid n a → Valid n b → holds a c ≡ false → holds b c ≡ false →
    after n c (start_node a) ≤ after n c (start_node b) → shares n b a ≡ true → holds a (start_node b) ≡ true
leads n c a b c1 cn va vb oa ob r h =
    let one = some_one (λ e. holds b e && holds a e) (λ e. (1 ≤ e) × (e < 1 + n)) (range_with_len 1 n) h (all_counting (λ e. (1 ≤ e) × (e < 1 + n)) 1 n (λ k l u. (l, u))) in
    let e : ℕ = one.0 in
    let both = and_parts (holds b e) (holds a e) one.1 in
    from_inside a.demand.lower a.demand.upper (start_node b) a.side
    (meets n c e a.demand.lower a.demand.upper b.demand.lower b.demand.upper c1 cn one.2.0 (omega (arith, one.2.1)) va vb a.side b.side
    (outside a.demand.lower a.demand.upper c a.side oa) (outside b.demand.lower b.demand.upper c b.side ob)
    (inside a.demand.lower a.demand.upper e a.side both.1) (inside b.demand.lower b.demand.upper e b.side both.0) r)

begins : (low high : ℕ) (w : Side) → low < high → Inside w low high (begins_at w low high)
begins low high Clockwise h = (omega arith, h)
begins low high CounterClockwise h = inr (omega arith)

pub holds_start : (n : ℕ) (d : Route) → Valid n d → holds d (start_node d) ≡ true
holds_start n d v = from_inside d.demand.lower d.demand.upper (start_node d) d.side (begins d.demand.lower d.demand.upper d.side v.1)

-- ---- lists in a line
pub led_append : {X : Type 0} (R : X → X → Type 0) (xs ys : List X) → Led R xs → Led R ys → Each (λ x. Each (R x) ys) xs → Led R (xs ++ ys)
led_append R [] ys l k h = k
led_append R (x ∷ xs) ys l k h = (All-append (R x) xs ys l.0 h.0, led_append R xs ys l.1 k h.1)

pub led_same : {X : Type 0} (R : X → X → Type 0) (Q : X → Type 0) → ((x y : X) → Q x → Q y → R x y) → (xs : List X) → Each Q xs → Led R xs
led_same R Q f [] q = tt
led_same R Q f (x ∷ xs) q = (All-weaker Q (R x) (λ y k. f x y q.0 k) xs q.1, led_same R Q f xs q.1)

pub all_joined : {X Y : Type 0} (P : Y → Type 0) (g : X → List Y) (xs : List X) → Each (λ x. Each P (g x)) xs → Each P (flat_map g xs)
all_joined P g [] h = tt
all_joined P g (x ∷ xs) h = All-append P (g x) (flat_map g xs) h.0 (all_joined P g xs h.1)

pub all_replicate : {X : Type 0} (P : X → Type 0) (n : ℕ) (x : X) → P x → Each P (replicate n x)
all_replicate P n x h = recursion_from_All P (replicate n x) (All-replicate P n x h)

pub led_joined : {X Y : Type 0} (S : X → X → Type 0) (R : Y → Y → Type 0) (Q : X → Y → Type 0) (g : X → List Y) →
    ((x : X) → S x x) → ((u v : X) (x y : Y) → S u v → Q u x → Q v y → R x y) → ((v : X) → Each (Q v) (g v)) → (vs : List X) → Led S vs → Led R (flat_map g vs)
led_joined S R Q g same f q [] l = tt
led_joined S R Q g same f q (v ∷ vs) l =
    led_append R (g v) (flat_map g vs)
    (led_same R (Q v) (λ x y. f v v x y (same v)) (g v) (q v))
    (led_joined S R Q g same f q vs l.1)
    (All-weaker (Q v) (λ x. Each (R x) (flat_map g vs))
    (λ x k. all_joined (R x) g vs (All-weaker (S v) (λ u. Each (R x) (g u)) (λ u s. All-weaker (Q u) (R x) (λ y m. f v u x y s k m) (g u) (q u)) vs l.0))
    (g v) (q v))

pub led_counting : (S : ℕ → ℕ → Type 0) (a m : ℕ) → ((u v : ℕ) → a ≤ u → u ≤ v → v < a + m → S u v) → Led S (range_with_len a m)
led_counting S a zero f = tt
led_counting S a (suc m) f = (
  all_counting (S a) (a + 1) m (λ k l u. f a k (omega arith) (omega arith) (omega arith)),
  led_counting S (a + 1) m (λ u v l k h. f u v (omega arith) k (omega arith)),
)

-- the round goes clockwise from the cut link
pub round_led : (n c : ℕ) → c ≤ n → Led (λ u v. after n c u ≤ after n c v) (round n c)
round_led n c h =
    led_append (λ u v. after n c u ≤ after n c v) (range_with_len (c + 1) (n - c)) (range_with_len 1 c)
    (led_counting (λ u v. after n c u ≤ after n c v) (c + 1) (n - c) (λ u v l k m. grind (arith, nat_tests)))
    (led_counting (λ u v. after n c u ≤ after n c v) 1 c (λ u v l k m. grind (arith, nat_tests)))
    (all_counting (λ u. Each (λ v. after n c u ≤ after n c v) (range_with_len 1 c)) (c + 1) (n - c)
    (λ u l m. all_counting (λ v. after n c u ≤ after n c v) 1 c (λ v k o. grind (arith, nat_tests))))
