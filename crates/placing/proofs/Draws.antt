-- Turn after turn.
use Rattle.std.proofs.Common.{◌≡◌, ℕ, zero, suc, ◌+◌, ◌-◌, ◌<◌, ◌≤◌, Bool, true, false, cond, not, ◌||◌, eqb, ◌≢◌, List, [], ◌∷◌, ◌++◌, map, length, take, drop, fold, filter, sym, refl, ap, ◌∙◌, subst, ap₂, ⊎_elim, arith}
use mathlib.Core.Bool.{or_assoc, or-false}
use Rattle.std.specs.List.{range_with_len, flat_map, AllByRecursion as Each}
use Rattle.ring.specs.Ring.{Link}
use Rattle.ring.specs.Sums.{sum_of, count_of, some}
use Rattle.std.proofs.lemmas.List.{map-append, length-append, length-take-le, length-drop}
use Rattle.ring.proofs.Summing.{sum_cons, sum_append, all_of, sum_eq}
use Rattle.std.proofs.ByRecursion.{All-weaker, All-map}
use Rattle.std.proofs.lemmas.Bool.{cases_Bool, cases_lt, or_left, or_right, or_from, and_from, and_parts, and_right, not-true, not_from_false, eqb-true, eq-eqb, ne_eqb}
use Rattle.ring.specs.Sides.{holds}
use Rattle.ring.specs.declared.Route.{Route}
use Rattle.placing.specs.declared.Turn.{Turn}
use Rattle.placing.specs.declared.Turn.TheVariants.{Over, From}
use Rattle.drawn.specs.FirstFit.{put, fitted}
use Rattle.drawn.specs.Slotting.{shares, start_node, round, units_of, units_over, Valid, Distinct, slotted_at, slots_in}
use Rattle.placing.specs.Drawing.{comes, marks_after, slots_after, filled, turn_size, turns_size, marks_turns, slots_turns, node_turns, Empty, Ready}
use Rattle.sheet.specs.Marks.{used}
use Rattle.drawn.proofs.FirstFit.{Led, all_both}
use Rattle.std.proofs.lemmas.List.Sums.{fold-append}
use Rattle.drawn.proofs.Line.{all_counting, led_append}
use Rattle.drawn.proofs.Counts.{turns, count_units, count_joined, count_turns, start_in}
use Rattle.drawn.proofs.Bounds.{some_has, over_first}
use Rattle.drawn.proofs.Says.{some_append, some_map}
use Rattle.placing.proofs.Tied.{Tied, tied_none}
use Rattle.placing.proofs.Turns.{used_after, length_after, length_slots_after}
use Rattle.placing.proofs.Agree.{slots_next, turn_units, tied_next, Agree, turn_agree, agree_all, agree_none}

-- ---- the sizes
pub used_turn : (n : ℕ) (t : Route → Bool) (routes : List Route) (marks : List ℕ) → used (fold (marks_after n t) marks routes) ≤ used marks + sum_of (λ d. cond (t d) d.demand.units 0) routes
used_turn n t [] marks = omega arith
used_turn n t (d ∷ ds) marks = omega (arith, used_turn n t ds (marks_after n t marks d), used_after n t marks d, sum_cons (λ e. cond (t e) e.demand.units 0) d ds)

pub length_turn : (n : ℕ) (t : Route → Bool) (routes : List Route) (marks : List ℕ) → length (fold (marks_after n t) marks routes) ≡ length marks
length_turn n t [] marks = refl
length_turn n t (d ∷ ds) marks = length_turn n t ds (marks_after n t marks d) ∙ length_after n t marks d

pub length_filled : (n : ℕ) (t : Route → Bool) (routes : List Route) (marks out : List ℕ) → sum_of (λ d. d.demand.units) routes ≤ length out → length (filled n t marks out routes) ≡ length out
length_filled n t [] marks out h = refl
length_filled n t (d ∷ ds) marks out h =
    let part : List ℕ = slots_after n t marks (take d.demand.units out) d in
    omega (
      arith,
      sum_cons (λ e. e.demand.units) d ds,
      length-append part (filled n t (marks_after n t marks d) (drop d.demand.units out) ds),
      length_slots_after n t marks (take d.demand.units out) d (length-take-le d.demand.units out (omega (arith, sum_cons (λ e. e.demand.units) d ds))),
      length_filled n t ds (marks_after n t marks d) (drop d.demand.units out) (omega (arith, sum_cons (λ e. e.demand.units) d ds, length-drop d.demand.units out)),
      length-drop d.demand.units out,
    )

pub used_turns : (n c : ℕ) (routes : List Route) (rs : List Turn) (marks : List ℕ) → used (marks_turns n c routes marks rs) ≤ used marks + turns_size c routes rs
used_turns n c routes [] marks = omega arith
used_turns n c routes (r ∷ rs) marks =
    omega (arith, used_turns n c routes rs (fold (marks_after n (comes c r)) marks routes), used_turn n (comes c r) routes marks, sum_cons (turn_size c routes) r rs)

pub length_turns : (n c : ℕ) (routes : List Route) (rs : List Turn) (marks : List ℕ) → length (marks_turns n c routes marks rs) ≡ length marks
length_turns n c routes [] marks = refl
length_turns n c routes (r ∷ rs) marks = length_turns n c routes rs (fold (marks_after n (comes c r)) marks routes) ∙ length_turn n (comes c r) routes marks

-- ---- the turns one after another
abbrev pub ring_turns : ℕ → ℕ → List Route → List (List Route) → List Turn → List (List Route)
ring_turns n c routes ss [] = ss
ring_turns n c routes ss (r ∷ rs) = ring_turns n c routes (fold (slots_next n (comes c r)) ss routes) rs

tied_turn : (n : ℕ) (t : Route → Bool) (routes : List Route) (marks : List ℕ) (ss : List (List Route)) → Tied n marks ss → used marks + sum_of (λ d. cond (t d) d.demand.units 0) routes ≤ length marks →
    Tied n (fold (marks_after n t) marks routes) (fold (slots_next n t) ss routes)
tied_turn n t [] marks ss h room = h
tied_turn n t (d ∷ ds) marks ss h room =
    tied_turn n t ds (marks_after n t marks d) (slots_next n t ss d)
    (tied_next n t d marks ss h (omega (arith, sum_cons (λ e. cond (t e) e.demand.units 0) d ds)))
    (omega (arith, used_after n t marks d, length_after n t marks d, sum_cons (λ e. cond (t e) e.demand.units 0) d ds))

-- a demand that has the later turn has not the earlier one
abbrev pub ApartTurns : ℕ → Turn → Turn → Type 0
ApartTurns c r q = (d : Route) → comes c q d ≡ true → comes c r d ≡ false

agree_same : (g k : Route → Bool) → ((d : Route) → g d ≡ k d) → (ds : List Route) (ss : List (List Route)) (out : List ℕ) → Agree g ss out ds → Agree k ss out ds
agree_same g k e [] ss out a = tt
agree_same g k e (d ∷ ds) ss out a = ((λ q. a.0.0 (e d ∙ q), λ q. a.0.1 (e d ∙ q)), agree_same g k e ds ss (drop d.demand.units out) a.1)

pub turns_agree : (n c : ℕ) (routes : List Route) → Distinct routes → Each (Valid n) routes → (rs : List Turn) (g : Route → Bool) (marks : List ℕ) (ss : List (List Route)) (out : List ℕ) →
    Led (ApartTurns c) rs → Each (λ q. (d : Route) → comes c q d ≡ true → g d ≡ false) rs → Tied n marks ss → used marks + turns_size c routes rs ≤ length marks →
    sum_of (λ d. d.demand.units) routes ≡ length out → Agree g ss out routes →
    Agree (λ d. g d || some (λ r. comes c r d) rs) (ring_turns n c routes ss rs) (slots_turns n c routes marks out rs) routes
turns_agree n c routes dis val [] g marks ss out led new h room long a = agree_same g (λ d. g d || false) (λ d. sym (or-false (g d))) routes ss out a
turns_agree n c routes dis val (r ∷ rs) g marks ss out led new h room long a =
    let t : Route → Bool = comes c r in
    let room1 : used marks + turn_size c routes r ≤ length marks = omega (arith, sum_cons (turn_size c routes) r rs) in
    agree_same (λ d. (g d || t d) || some (λ q. comes c q d) rs) (λ d. g d || (t d || some (λ q. comes c q d) rs)) (λ d. or_assoc (g d) (t d) (some (λ q. comes c q d) rs)) routes
    (ring_turns n c routes (fold (slots_next n t) ss routes) rs) (slots_turns n c routes (fold (marks_after n t) marks routes) (filled n t marks out routes) rs)
    (turns_agree n c routes dis val rs (λ d. g d || t d) (fold (marks_after n t) marks routes) (fold (slots_next n t) ss routes) (filled n t marks out routes)
    led.1
    (all_both (λ q. (d : Route) → comes c q d ≡ true → g d ≡ false) (ApartTurns c r) (λ q. (d : Route) → comes c q d ≡ true → (g d || t d) ≡ false)
    (λ q p k d e. or_from (g d) (t d) (p d e) (k d e)) rs new.1 led.0)
    (tied_turn n t routes marks ss h room1)
    (omega (arith, used_turn n t routes marks, length_turn n t routes marks, sum_cons (turn_size c routes) r rs))
    (long ∙ sym (length_filled n t routes marks out (omega arith)))
    (turn_agree n t g routes marks ss out h room1 long dis val (all_of (λ d. t d ≡ true → g d ≡ false) (λ d. new.0 d) routes) a))

pub slots_units : (n c : ℕ) (routes : List Route) (rs : List Turn) (ss : List (List Route)) →
    ring_turns n c routes ss rs ≡ fold (put (shares n)) ss (flat_map (λ r. units_of (filter (comes c r) routes)) rs)
slots_units n c routes [] ss = refl
slots_units n c routes (r ∷ rs) ss =
    slots_units n c routes rs (fold (slots_next n (comes c r)) ss routes)
    ∙ ap (λ s. fold (put (shares n)) s (flat_map (λ q. units_of (filter (comes c q) routes)) rs)) (turn_units n (comes c r) routes ss)
    ∙ sym (fold-append (put (shares n)) ss (units_of (filter (comes c r) routes)) (flat_map (λ q. units_of (filter (comes c q) routes)) rs))

joined_map : {X Y Z : Type 0} (f : Y → List Z) (h : X → Y) (xs : List X) → flat_map f (map h xs) ≡ flat_map (λ x. f (h x)) xs
joined_map f h [] = refl
joined_map f h (x ∷ xs) = ap (λ r. f (h x) ++ r) (joined_map f h xs)

-- all turns, in their order
abbrev pub order : ℕ → ℕ → List Turn
order n c = Over ∷ map From (round n c)

pub order_units : (n c : ℕ) (routes : List Route) → flat_map (λ r. units_of (filter (comes c r) routes)) (order n c) ≡ turns n routes c
order_units n c routes = ap (λ r. units_over routes c ++ r) (joined_map (λ r. units_of (filter (comes c r) routes)) From (round n c))

-- ---- each demand has one turn
led_map : {X Y : Type 0} (R : Y → Y → Type 0) (f : X → Y) (xs : List X) → Led (λ x y. R (f x) (f y)) xs → Led R (map f xs)
led_map R f [] h = tt
led_map R f (x ∷ xs) h = (All-map (R (f x)) f xs h.0, led_map R f xs h.1)

round_apart : (n c : ℕ) → Led (λ u v. u ≢ v) (round n c)
round_apart n c =
    led_append (λ u v. u ≢ v) (range_with_len (c + 1) (n - c)) (range_with_len 1 c) (strict (c + 1) (n - c)) (strict 1 c)
    (all_counting (λ u. Each (λ v. u ≢ v) (range_with_len 1 c)) (c + 1) (n - c) (λ u l m. all_counting (λ v. u ≢ v) 1 c (λ v k o. omega arith)))
  where
    strict : (a m : ℕ) → Led (λ u v. u ≢ v) (range_with_len a m)
    strict a zero = tt
    strict a (suc m) = (all_counting (λ v. a ≢ v) (a + 1) m (λ k l u. omega arith), strict (a + 1) m)

led_weaker : {X : Type 0} (R S : X → X → Type 0) → ((x y : X) → R x y → S x y) → (xs : List X) → Led R xs → Led S xs
led_weaker R S f [] h = tt
led_weaker R S f (x ∷ xs) h = (All-weaker (R x) (S x) (f x) xs h.0, led_weaker R S f xs h.1)

pub order_apart : (n c : ℕ) → Led (ApartTurns c) (order n c)
order_apart n c = (
  All-map (ApartTurns c Over) From (round n c) (all_of (λ v. ApartTurns c Over (From v)) (λ v d e. not-true (holds d c) (and_parts (not (holds d c)) (eqb (start_node d) v) e).0) (round n c)),
  led_map (ApartTurns c) From (round n c)
      (led_weaker (λ u v. u ≢ v) (λ u v. ApartTurns c (From u) (From v))
      (λ u v ne d e. and_right (not (holds d c)) (eqb (start_node d) u) (ne_eqb (start_node d) u (λ q. ne (sym q ∙ eqb-true (start_node d) v (and_parts (not (holds d c)) (eqb (start_node d) v) e).1))))
      (round n c) (round_apart n c)),
)

pub order_all : (n c : ℕ) (d : Route) → c ≤ n → Valid n d → some (λ r. comes c r d) (order n c) ≡ true
order_all n c d h v =
    let node = start_in n d v in
    ⊎_elim
    (λ e. or_left (holds d c) (some (λ r. comes c r d) (map From (round n c))) e)
    (λ e. let own : comes c (From (start_node d)) d ≡ true = and_from (not (holds d c)) (eqb (start_node d) (start_node d)) (not_from_false (holds d c) e) (eq-eqb (start_node d) (start_node d) refl) in
    or_right (holds d c) (some (λ r. comes c r d) (map From (round n c)))
    (some_map (λ r. comes c r d) From (round n c) ∙ some_append (λ u. comes c (From u) d) (range_with_len (c + 1) (n - c)) (range_with_len 1 c)
    ∙ ⊎_elim
    (λ l. or_left (some (λ u. comes c (From u) d) (range_with_len (c + 1) (n - c))) (some (λ u. comes c (From u) d) (range_with_len 1 c))
    (some_has (λ u. comes c (From u) d) (start_node d) (c + 1) (n - c) (omega arith) (omega (arith, node.1)) own))
    (λ u. or_right (some (λ u. comes c (From u) d) (range_with_len (c + 1) (n - c))) (some (λ u. comes c (From u) d) (range_with_len 1 c))
    (some_has (λ u. comes c (From u) d) (start_node d) 1 c node.0 (omega arith) own))
    (cases_lt c (start_node d))))
    (cases_Bool (holds d c))

pub order_size : (n c : ℕ) (routes : List Route) → c ≤ n → Each (Valid n) routes → turns_size c routes (order n c) ≡ sum_of (λ d. d.demand.units) routes
order_size n c routes h valid =
    sum_eq (turn_size c routes) (λ r. count_of (λ _. true) (units_of (filter (comes c r) routes))) (order n c) (all_of _ (λ r. sym (count_units (λ _. true) (comes c r) routes)) (order n c))
    ∙ sym (count_joined (λ _. true) (λ r. units_of (filter (comes c r) routes)) (order n c))
    ∙ ap (count_of (λ _. true)) (order_units n c routes)
    ∙ count_turns (λ _. true) n c routes h valid

used_empty : (marks : List ℕ) → Empty marks → used marks ≡ 0
unfolding used
used_empty [] h = refl
used_empty (m ∷ ms) h = omega (arith, sum_cons (λ x. cond (not (eqb x 0)) 1 0) m ms, ap (λ x. cond {A = ℕ} (not (eqb x 0)) 1 0) (h 0), used_empty ms (λ k. h (suc k)))

-- ---- the whole drawing
length_out_turns : (n c : ℕ) (routes : List Route) (rs : List Turn) (marks out : List ℕ) → sum_of (λ d. d.demand.units) routes ≡ length out → length (slots_turns n c routes marks out rs) ≡ length out
length_out_turns n c routes [] marks out h = refl
length_out_turns n c routes (r ∷ rs) marks out h =
    length_out_turns n c routes rs (fold (marks_after n (comes c r)) marks routes) (filled n (comes c r) marks out routes) (h ∙ sym (length_filled n (comes c r) routes marks out (omega arith)))
    ∙ length_filled n (comes c r) routes marks out (omega arith)

pub drawn_agrees : (n c : ℕ) (routes : List Route) (marks out : List ℕ) → c ≤ n → Each (Valid n) routes → Distinct routes → Empty marks → length out ≤ length marks →
    sum_of (λ d. d.demand.units) routes ≡ length out →
    (sum_of (λ d. d.demand.units) routes ≡ length (slots_turns n c routes marks out (order n c))) × Each (λ d. (false || some (λ r. comes c r d) (order n c)) ≡ true) routes
    × Agree (λ d. false || some (λ r. comes c r d) (order n c)) (fitted (shares n) (turns n routes c)) (slots_turns n c routes marks out (order n c)) routes
drawn_agrees n c routes marks out cn valid distinct empty room places =
    let size : turns_size c routes (order n c) ≡ sum_of (λ d. d.demand.units) routes = order_size n c routes cn valid in (
      places ∙ sym (length_out_turns n c routes (order n c) marks out places),
      All-weaker (Valid n) (λ d. some (λ r. comes c r d) (order n c) ≡ true) (λ d v. order_all n c d cn v) routes valid,
      subst (λ s. Agree (λ d. false || some (λ r. comes c r d) (order n c)) s (slots_turns n c routes marks out (order n c)) routes)
          (slots_units n c routes (order n c) [] ∙ ap (fold (put (shares n)) []) (order_units n c routes))
          (turns_agree n c routes distinct valid (order n c) (λ _. false) marks [] out (order_apart n c)
          (all_of (λ q. (d : Route) → comes c q d ≡ true → false ≡ false) (λ q d e. refl) (order n c))
          (tied_none n marks empty) (omega (arith, size, used_empty marks empty)) places (agree_none routes out)),
    )

pub out_is_drawn : (n c : ℕ) (routes : List Route) (marks out : List ℕ) → Link n c → Empty marks → Ready n routes marks out → slots_turns n c routes marks out (order n c) ≡ slots_in (slotted_at n routes c) routes
out_is_drawn n c routes marks out lc empty ready =
    let got = drawn_agrees n c routes marks out lc.1 ready.valid ready.distinct empty ready.room ready.places in
    agree_all (λ d. false || some (λ r. comes c r d) (order n c)) routes (fitted (shares n) (turns n routes c)) (slots_turns n c routes marks out (order n c)) got.0 got.1 got.2
    ∙ ap (λ ss. slots_in ss routes) (sym (over_first n c routes lc).1)

-- ---- the loop over nodes
pub nodes_more : (v m : ℕ) → v < m → node_turns v (m - v) ≡ From v ∷ node_turns (v + 1) (m - (v + 1))
nodes_more v m h =
    let e : m - v ≡ suc (m - (v + 1)) = omega arith in
    ap (node_turns v) e

pub nodes_all : (v m : ℕ) → m ≤ v → node_turns v (m - v) ≡ []
nodes_all v m h =
    let e : m - v ≡ 0 = omega arith in
    ap (node_turns v) e

module _ (n c : ℕ) (routes : List Route) (v m : ℕ) (lt : v < m) where
  pub size_more : turns_size c routes (node_turns v (m - v)) ≡ turn_size c routes (From v) + turns_size c routes (node_turns (v + 1) (m - (v + 1)))
  size_more = ap (turns_size c routes) (nodes_more v m lt) ∙ sum_cons (turn_size c routes) (From v) (node_turns (v + 1) (m - (v + 1)))

  pub sheet_turns_more : (marks : List ℕ) → marks_turns n c routes (fold (marks_after n (comes c (From v))) marks routes) (node_turns (v + 1) (m - (v + 1))) ≡ marks_turns n c routes marks (node_turns v (m - v))
  sheet_turns_more marks = sym (ap (marks_turns n c routes marks) (nodes_more v m lt))

  pub out_turns_more : (marks out : List ℕ) → slots_turns n c routes (fold (marks_after n (comes c (From v))) marks routes) (filled n (comes c (From v)) marks out routes) (node_turns (v + 1) (m - (v + 1))) ≡ slots_turns n c routes marks out (node_turns v (m - v))
  out_turns_more marks out = sym (ap (slots_turns n c routes marks out) (nodes_more v m lt))

  pub room_here : (marks : List ℕ) → used marks + turns_size c routes (node_turns v (m - v)) ≤ length marks → used marks + turn_size c routes (From v) ≤ length marks
  room_here marks h = omega (arith, size_more)

  pub room_more : (marks next : List ℕ) → next ≡ fold (marks_after n (comes c (From v))) marks routes → used marks + turns_size c routes (node_turns v (m - v)) ≤ length marks →
      used next + turns_size c routes (node_turns (v + 1) (m - (v + 1))) ≤ length next
  room_more marks next e h = omega (arith, size_more, ap used e, ap length e, used_turn n (comes c (From v)) routes marks, length_turn n (comes c (From v)) routes marks)

-- ---- turns in three parts
pub out_turns_append : (n c : ℕ) (routes : List Route) (rs qs : List Turn) (marks out : List ℕ) → slots_turns n c routes marks out (rs ++ qs) ≡ slots_turns n c routes (marks_turns n c routes marks rs) (slots_turns n c routes marks out rs) qs
out_turns_append n c routes [] qs marks out = refl
out_turns_append n c routes (r ∷ rs) qs marks out = out_turns_append n c routes rs qs (fold (marks_after n (comes c r)) marks routes) (filled n (comes c r) marks out routes)

pub order_parts : (n c : ℕ) → node_turns (c + 1) (n + 1 - (c + 1)) ++ node_turns 1 (c + 1 - 1) ≡ map From (round n c)
order_parts n c =
    let e : n + 1 - (c + 1) ≡ n - c = omega arith in
    let f : c + 1 - 1 ≡ c = omega arith in
    ap₂ (λ i j. node_turns (c + 1) i ++ node_turns 1 j) e f ∙ sym (map-append From (range_with_len (c + 1) (n - c)) (range_with_len 1 c))

-- ---- what the three calls of a drawing ask for
module _ (n c : ℕ) (routes : List Route) (marks out : List ℕ) (lc : Link n c) (empty : Empty marks) (ready : Ready n routes marks out) where
  parts_size : turn_size c routes Over + (turns_size c routes (node_turns (c + 1) (n + 1 - (c + 1))) + turns_size c routes (node_turns 1 (c + 1 - 1))) ≡ length out
  parts_size =
      let whole : turns_size c routes (order n c) ≡ sum_of (λ d. d.demand.units) routes = order_size n c routes lc.1 ready.valid in
      omega (
        arith,
        whole,
        ready.places,
        sum_cons (turn_size c routes) Over (map From (round n c)),
        ap (turns_size c routes) (order_parts n c),
        sum_append (turn_size c routes) (node_turns (c + 1) (n + 1 - (c + 1))) (node_turns 1 (c + 1 - 1)),
      )

  pub room_over : used marks + turn_size c routes Over ≤ length marks
  room_over = omega (arith, parts_size, used_empty marks empty, ready.room)

  module _ (marks1 out1 : List ℕ) (e : marks1 ≡ fold (marks_after n (comes c Over)) marks routes) where
    pub room_past : used marks1 + turns_size c routes (node_turns (c + 1) (n + 1 - (c + 1))) ≤ length marks1
    room_past = omega (arith, parts_size, used_empty marks empty, ready.room, ap used e, ap length e, used_turn n (comes c Over) routes marks, length_turn n (comes c Over) routes marks)

    pub room_before : (marks2 : List ℕ) → marks2 ≡ marks_turns n c routes marks1 (node_turns (c + 1) (n + 1 - (c + 1))) → used marks2 + turns_size c routes (node_turns 1 (c + 1 - 1)) ≤ length marks2
    room_before marks2 f =
        omega (
          arith,
          parts_size,
          used_empty marks empty,
          ready.room,
          ap used e,
          ap length e,
          used_turn n (comes c Over) routes marks,
          length_turn n (comes c Over) routes marks,
          ap used f,
          ap length f,
          used_turns n c routes (node_turns (c + 1) (n + 1 - (c + 1))) marks1,
          length_turns n c routes (node_turns (c + 1) (n + 1 - (c + 1))) marks1,
        )

    pub draws : (marks2 out2 out3 : List ℕ) → out1 ≡ filled n (comes c Over) marks out routes → marks2 ≡ marks_turns n c routes marks1 (node_turns (c + 1) (n + 1 - (c + 1))) →
        out2 ≡ slots_turns n c routes marks1 out1 (node_turns (c + 1) (n + 1 - (c + 1))) → out3 ≡ slots_turns n c routes marks2 out2 (node_turns 1 (c + 1 - 1)) → out3 ≡ slots_in (slotted_at n routes c) routes
    draws marks2 out2 out3 o1 s2 o2 o3 =
        o3
        ∙ ap₂ (λ s o. slots_turns n c routes s o (node_turns 1 (c + 1 - 1))) s2 o2
        ∙ sym (out_turns_append n c routes (node_turns (c + 1) (n + 1 - (c + 1))) (node_turns 1 (c + 1 - 1)) marks1 out1)
        ∙ ap₂ (λ s o. slots_turns n c routes s o (node_turns (c + 1) (n + 1 - (c + 1)) ++ node_turns 1 (c + 1 - 1))) e o1
        ∙ ap (slots_turns n c routes (fold (marks_after n (comes c Over)) marks routes) (filled n (comes c Over) marks out routes)) (order_parts n c)
        ∙ out_is_drawn n c routes marks out lc empty ready
