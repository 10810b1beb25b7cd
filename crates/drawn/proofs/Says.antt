-- What the rows say.
use Rattle.std.proofs.Common.{◌≡◌, ℕ, zero, suc, ◌+◌, ◌-◌, ◌<◌, ◌≤◌, Bool, true, false, cond, not, ◌&&◌, ◌||◌, eqb, ◌≢◌, List, [], ◌∷◌, ◌++◌, map, length, get_or, replicate, filter, sym, refl, ap, ◌∙◌, subst, ap₂, ⊎_elim, zero-add, arith}
use mathlib.Core.Bool.{and_comm, or_assoc}
use Rattle.std.specs.List.{range_with_len, flat_map, AllByRecursion as Each}
use Rattle.ring.specs.Sums.{sum_of, one, count_of, some}
use Rattle.ring.proofs.Summing.{all_of}
use Rattle.std.proofs.ByRecursion.{All-append, All-weaker, All-map, all_kept_by, All-get_or}
use Rattle.std.proofs.lemmas.Bool.{cond_both, cond-true, cond-false, and_from, or_parts, cases_Bool, or_cases, or_left, or_right, eqb-true, eq-eqb, ne_eqb, false≢true}
use Rattle.ring.specs.Sides.{holds}
use Rattle.ring.specs.declared.Route.{Route}
use Rattle.drawn.specs.FirstFit.{Unclashing}
use Rattle.drawn.specs.Slotting.{shares, start_node, cut_link, round, units_over, units_beside, units_from, units_of, slotted, slots_of, Valid, Distinct, Rising, has_unit, row_of, rows_in}
use Rattle.drawn.specs.Claims.{SlotsRise}
use Rattle.drawn.proofs.FirstFit.{total, total_fold, Filled, fitted_filled, fitted_all, fitted_apart, all_both}
use Rattle.drawn.proofs.Line.{holds_start, all_joined, all_replicate, some_one}
use Rattle.ring.proofs.Bits.{some_same}
use Rattle.drawn.proofs.Counts.{turns, units_by, count_turns, start_in}
use Rattle.drawn.proofs.Bounds.{first_fit, cut_link_lem, some_has}
use Rattle.ring.specs.declared.Row.{Row}

-- ---- rising
from_on : (d : Route) (ss : List (List Route)) (k : ℕ) → Each (λ j. (k ≤ j) × (j < k + length ss)) (slots_of k d ss)
from_on d [] k = tt
from_on d (s ∷ ss) k =
    let rest : Each (λ j. (k ≤ j) × (j < k + length (s ∷ ss))) (slots_of (k + 1) d ss) =
    All-weaker (λ j. (k + 1 ≤ j) × (j < k + 1 + length ss)) (λ j. (k ≤ j) × (j < k + length (s ∷ ss))) (λ j h. (omega arith, omega arith)) (slots_of (k + 1) d ss) (from_on d ss (k + 1)) in
    cond_both (has_unit d s) (k ∷ slots_of (k + 1) d ss) (slots_of (k + 1) d ss) (Each (λ j. (k ≤ j) × (j < k + length (s ∷ ss)))) (λ _. ((omega arith, omega arith), rest)) (λ _. rest)

pub rise : (d : Route) (ss : List (List Route)) (k : ℕ) → Rising (slots_of k d ss)
rise d [] k = tt
rise d (s ∷ ss) k =
    cond_both (has_unit d s) (k ∷ slots_of (k + 1) d ss) (slots_of (k + 1) d ss) Rising
    (λ _. (All-weaker (λ j. (k + 1 ≤ j) × (j < k + 1 + length ss)) (λ j. k < j) (λ j h. omega arith) (slots_of (k + 1) d ss) (from_on d ss (k + 1)), rise d ss (k + 1)))
    (λ _. rise d ss (k + 1))

pub slots_rise : SlotsRise
slots_rise n routes d = rise d (slotted n routes) 1

-- ---- no gaps
slot_listed : (d : Route) (ss : List (List Route)) (k j : ℕ) → j < length ss → has_unit d (get_or ss j []) ≡ true → some (λ x. eqb x (k + j)) (slots_of k d ss) ≡ true
slot_listed d [] k j l h = absurd (omega arith)
slot_listed d (s ∷ ss) k zero l h =
    ap (some (λ x. eqb x (k + 0))) (cond-true (has_unit d s) (k ∷ slots_of (k + 1) d ss) (slots_of (k + 1) d ss) h) ∙ or_left (eqb k (k + 0)) (some (λ x. eqb x (k + 0)) (slots_of (k + 1) d ss)) (eq-eqb k (k + 0) (omega arith))
slot_listed d (s ∷ ss) k (suc j) l h =
    let e : k + 1 + j ≡ k + suc j = omega arith in
    let rest : some (λ x. eqb x (k + suc j)) (slots_of (k + 1) d ss) ≡ true = subst (λ i. some (λ x. eqb x i) (slots_of (k + 1) d ss) ≡ true) e (slot_listed d ss (k + 1) j (omega arith) h) in
    cond_both (has_unit d s) (k ∷ slots_of (k + 1) d ss) (slots_of (k + 1) d ss) (λ r. some (λ x. eqb x (k + suc j)) r ≡ true)
    (λ _. or_right (eqb k (k + suc j)) (some (λ x. eqb x (k + suc j)) (slots_of (k + 1) d ss)) rest) (λ _. rest)

pub some_append : {X : Type 0} (p : X → Bool) (xs ys : List X) → some p (xs ++ ys) ≡ (some p xs || some p ys)
some_append p [] ys = refl
some_append p (x ∷ xs) ys = ap (λ b. p x || b) (some_append p xs ys) ∙ sym (or_assoc (p x) (some p xs) (some p ys))

pub some_map : {X Y : Type 0} (p : Y → Bool) (f : X → Y) (xs : List X) → some p (map f xs) ≡ some (λ x. p (f x)) xs
some_map p f [] = refl
some_map p f (x ∷ xs) = ap (λ b. p (f x) || b) (some_map p f xs)

-- a demand of the number is in the routes
abbrev Listed : List Route → Route → Type 0
Listed routes u = some (λ d. eqb u.demand.number d.demand.number) routes ≡ true

row_listed : (ss : List (List Route)) (j : ℕ) → j < length ss → (u : Route) → ((d : Route) → u.demand.number ≡ d.demand.number → has_unit d (get_or ss j []) ≡ true) → (routes : List Route) → Listed routes u →
    some (λ (row : Row). eqb row.slot (1 + j)) (flat_map (λ d. map (row_of d) (slots_of 1 d ss)) routes) ≡ true
row_listed ss j l u h [] q = absurd (false≢true q)
row_listed ss j l u h (d ∷ ds) q =
    let here : Row → Bool = λ (row : Row). eqb row.slot (1 + j) in
    let own : List Row = map (row_of d) (slots_of 1 d ss) in
    let rest : List Row = flat_map (λ d. map (row_of d) (slots_of 1 d ss)) ds in
    some_append here own rest
    ∙ ⊎_elim
    (λ e. or_left (some here own) (some here rest) (some_map here (row_of d) (slots_of 1 d ss) ∙ slot_listed d ss 1 j l (h d (eqb-true u.demand.number d.demand.number e))))
    (λ e. or_right (some here own) (some here rest) (row_listed ss j l u h ds e))
    (or_cases (eqb u.demand.number d.demand.number) (some (λ d. eqb u.demand.number d.demand.number) ds) q)

itself : (routes : List Route) → Each (Listed routes) routes
itself [] = tt
itself (d ∷ ds) = (
  or_left (eqb d.demand.number d.demand.number) (some (λ e. eqb d.demand.number e.demand.number) ds) (eq-eqb d.demand.number d.demand.number refl),
  All-weaker (Listed ds) (Listed (d ∷ ds)) (λ u h. or_right (eqb u.demand.number d.demand.number) (some (λ e. eqb u.demand.number e.demand.number) ds) h) ds (itself ds),
)

units_all : (P : Route → Type 0) (t : Route → Bool) (routes : List Route) → Each P routes → Each P (units_of (filter t routes))
units_all P t routes h =
    all_joined P (λ d. replicate d.demand.units d) (filter t routes) (All-weaker P (λ d. Each P (replicate d.demand.units d)) (λ d p. all_replicate P d.demand.units d p) (filter t routes) (all_kept_by t P routes h))

turns_all : (P : Route → Type 0) (n c : ℕ) (routes : List Route) → Each P routes → Each P (turns n routes c)
turns_all P n c routes h =
    All-append P (units_over routes c) (units_beside n routes c) (units_all P (λ d. holds d c) routes h)
    (all_joined P (units_from routes c) (round n c) (all_of (λ v. Each P (units_from routes c v)) (λ v. units_all P (λ d. not (holds d c) && eqb (start_node d) v) routes h) (round n c)))

slot_unit : (routes : List Route) (s : List Route) → Filled s → Each (Listed routes) s → (u : Route) × Listed routes u × ((d : Route) → u.demand.number ≡ d.demand.number → has_unit d s ≡ true)
slot_unit routes [] f h = absurd f
slot_unit routes (u ∷ s) f h = (u, h.0, λ d e. or_left (eqb u.demand.number d.demand.number) (has_unit d s) (eq-eqb u.demand.number d.demand.number e))

pub no_gaps : (n : ℕ) (routes : List Route) → Each (λ (row : Row). (1 ≤ row.slot) × (row.slot ≤ length (first_fit n routes))) (rows_in (first_fit n routes) routes)
    × ((k : ℕ) → 1 ≤ k → k ≤ length (first_fit n routes) → some (λ (row : Row). eqb row.slot k) (rows_in (first_fit n routes) routes) ≡ true)
no_gaps n routes =
    let ss : List (List Route) = first_fit n routes in (
      all_joined (λ (row : Row). (1 ≤ row.slot) × (row.slot ≤ length ss)) (λ d. map (row_of d) (slots_of 1 d ss)) routes
          (all_of (λ d. Each (λ (row : Row). (1 ≤ row.slot) × (row.slot ≤ length ss)) (map (row_of d) (slots_of 1 d ss)))
          (λ d. All-map (λ (row : Row). (1 ≤ row.slot) × (row.slot ≤ length ss)) (row_of d) (slots_of 1 d ss)
          (All-weaker (λ j. (1 ≤ j) × (j < 1 + length ss)) (λ j. (1 ≤ j) × (j ≤ length ss)) (λ j h. (h.0, omega arith)) (slots_of 1 d ss) (from_on d ss 1))) routes),
      λ k l u.
          let j : ℕ = k - 1 in
          let in' : j < length ss = omega arith in
          let one = slot_unit routes (get_or ss j []) (All-get_or Filled ss j [] in' (fitted_filled (shares n) (turns n routes (cut_link n routes))))
          (All-get_or (Each (Listed routes)) ss j [] in' (fitted_all (shares n) (Listed routes) (turns n routes (cut_link n routes)) [] (turns_all (Listed routes) n (cut_link n routes) routes (itself routes)) tt)) in
          let e : 1 + j ≡ k = omega arith in
          subst (λ i. some (λ (row : Row). eqb row.slot i) (rows_in (first_fit n routes) routes) ≡ true) e (row_listed ss j in' one.0 one.2 routes one.1),
    )

-- ---- two demands in one slot
slot_has : (d : Route) (ss : List (List Route)) (k j : ℕ) → some (λ x. eqb x (k + j)) (slots_of k d ss) ≡ true → has_unit d (get_or ss j []) ≡ true
slot_has d [] k j h = absurd (false≢true h)
slot_has d (s ∷ ss) k zero h =
    ⊎_elim (λ e. e)
    (λ e. let rest = subst (λ r. some (λ x. eqb x (k + 0)) r ≡ true) (cond-false (has_unit d s) (k ∷ slots_of (k + 1) d ss) (slots_of (k + 1) d ss) e) h in
    let one = some_one (λ x. eqb x (k + 0)) (λ j. (k + 1 ≤ j) × (j < k + 1 + length ss)) (slots_of (k + 1) d ss) rest (from_on d ss (k + 1)) in
    absurd (omega (arith, eqb-true one.0 (k + 0) one.1, one.2.0)))
    (cases_Bool (has_unit d s))
slot_has d (s ∷ ss) k (suc j) h =
    let e : k + suc j ≡ k + 1 + j = omega arith in
    slot_has d ss (k + 1) j
    (subst (λ i. some (λ x. eqb x i) (slots_of (k + 1) d ss) ≡ true) e
    (⊎_elim
    (λ q. let both = subst (λ r. some (λ x. eqb x (k + suc j)) r ≡ true) (cond-true (has_unit d s) (k ∷ slots_of (k + 1) d ss) (slots_of (k + 1) d ss) q) h in
    ⊎_elim (λ f. absurd (omega (arith, eqb-true k (k + suc j) f))) (λ f. f) (or_cases (eqb k (k + suc j)) (some (λ x. eqb x (k + suc j)) (slots_of (k + 1) d ss)) both))
    (λ q. subst (λ r. some (λ x. eqb x (k + suc j)) r ≡ true) (cond-false (has_unit d s) (k ∷ slots_of (k + 1) d ss) (slots_of (k + 1) d ss) q) h)
    (cases_Bool (has_unit d s))))

none_all : {X : Type 0} (p : X → Bool) (xs : List X) → some p xs ≡ false → Each (λ x. p x ≡ false) xs
none_all p [] h = tt
none_all p (x ∷ xs) h = ((or_parts (p x) (some p xs) h).0, none_all p xs (or_parts (p x) (some p xs) h).1)

shares_sym : (n : ℕ) (a b : Route) → shares n a b ≡ shares n b a
shares_sym n a b = some_same (λ e. holds a e && holds b e) (λ e. holds b e && holds a e) (λ e. and_comm (holds a e) (holds b e)) (range_with_len 1 n)

-- a unit of the demand's number is the demand's
abbrev pub Own : Route → Route → Type 0
Own a u = a.demand.number ≡ u.demand.number → a ≡ u

apart_in_slot : (n : ℕ) (a b : Route) → a.demand.number ≢ b.demand.number → (s : List Route) → Unclashing (shares n) s → Each (Own a) s → Each (Own b) s → has_unit a s ≡ true → has_unit b s ≡ true → shares n a b ≡ false
apart_in_slot n a b ne [] ap' oa ob ha hb = absurd (false≢true ha)
apart_in_slot n a b ne (u ∷ s) ap' oa ob ha hb =
    let free : Each (λ v. shares n u v ≡ false) s = none_all (shares n u) s ap'.0 in
    ⊎_elim
    (λ p. let au : a ≡ u = oa.0 (sym (eqb-true u.demand.number a.demand.number p)) in
    ⊎_elim (λ q. absurd (ne (sym (eqb-true u.demand.number a.demand.number p) ∙ eqb-true u.demand.number b.demand.number q)))
    (λ q. let one = some_one (λ v. eqb v.demand.number b.demand.number) (λ v. (shares n u v ≡ false) × Own b v) s q (all_both (λ v. shares n u v ≡ false) (Own b) (λ v. (shares n u v ≡ false) × Own b v) (λ v x y. (x, y)) s free ob.1) in
    ap₂ (shares n) au (one.2.1 (sym (eqb-true one.0.demand.number b.demand.number one.1))) ∙ one.2.0)
    (or_cases (eqb u.demand.number b.demand.number) (has_unit b s) hb))
    (λ p. ⊎_elim
    (λ q. let bu : b ≡ u = ob.0 (sym (eqb-true u.demand.number b.demand.number q)) in
    let one = some_one (λ v. eqb v.demand.number a.demand.number) (λ v. (shares n u v ≡ false) × Own a v) s p (all_both (λ v. shares n u v ≡ false) (Own a) (λ v. (shares n u v ≡ false) × Own a v) (λ v x y. (x, y)) s free oa.1) in
    shares_sym n a b ∙ ap₂ (shares n) bu (one.2.1 (sym (eqb-true one.0.demand.number a.demand.number one.1))) ∙ one.2.0)
    (λ q. apart_in_slot n a b ne s ap'.1 oa.1 ob.1 p q)
    (or_cases (eqb u.demand.number b.demand.number) (has_unit b s) hb))
    (or_cases (eqb u.demand.number a.demand.number) (has_unit a s) ha)

pub own_all : (routes : List Route) → Distinct routes → Each (λ a. Each (Own a) routes) routes
own_all [] h = tt
own_all (d ∷ ds) h = (
  (λ _. refl, All-weaker (λ e. d.demand.number ≢ e.demand.number) (Own d) (λ e ne q. absurd (ne q)) ds h.0),
  all_both (λ a. d.demand.number ≢ a.demand.number) (λ a. Each (Own a) ds) (λ a. Each (Own a) (d ∷ ds)) (λ a ne o. (λ q. absurd (ne (sym q)), o)) ds h.0 (own_all ds h.1),
)

slots_own : (n : ℕ) (routes : List Route) (a : Route) (j : ℕ) → j < length (first_fit n routes) → Each (Own a) routes → Each (Own a) (get_or (first_fit n routes) j [])
slots_own n routes a j l o =
    All-get_or (Each (Own a)) (first_fit n routes) j [] l (fitted_all (shares n) (Own a) (turns n routes (cut_link n routes)) [] (turns_all (Own a) n (cut_link n routes) routes o) tt)

-- two demands with a slot in common share no link
pub rows_apart : (n : ℕ) (routes : List Route) → Distinct routes → (k : ℕ) → Each (λ a. Each (λ b. a.demand.number ≢ b.demand.number →
    some (λ x. eqb x k) (slots_of 1 a (first_fit n routes)) ≡ true → some (λ x. eqb x k) (slots_of 1 b (first_fit n routes)) ≡ true → shares n a b ≡ false) routes) routes
rows_apart n routes distinct k =
    let ss : List (List Route) = first_fit n routes in
    All-weaker (λ a. Each (Own a) routes) _ (λ a oa. All-weaker (λ b. Each (Own b) routes) _ (λ b ob ne ha hb.
    let one = some_one (λ x. eqb x k) (λ j. (1 ≤ j) × (j < 1 + length ss)) (slots_of 1 a ss) ha (from_on a ss 1) in
    let e : k ≡ 1 + (k - 1) = omega (arith, eqb-true one.0 k one.1, one.2.0) in
    let l : k - 1 < length ss = omega (arith, eqb-true one.0 k one.1, one.2.0, one.2.1) in
    apart_in_slot n a b ne (get_or ss (k - 1) []) (All-get_or (Unclashing (shares n)) ss (k - 1) [] l (fitted_apart (shares n) (turns n routes (cut_link n routes))))
    (slots_own n routes a (k - 1) l oa) (slots_own n routes b (k - 1) l ob)
    (slot_has a ss 1 (k - 1) (subst (λ i. some (λ x. eqb x i) (slots_of 1 a ss) ≡ true) e ha))
    (slot_has b ss 1 (k - 1) (subst (λ i. some (λ x. eqb x i) (slots_of 1 b ss) ≡ true) e hb))) routes (own_all routes distinct)) routes (own_all routes distinct)

-- ---- each demand has as many rows as units
-- whether a unit is of the demand of d
abbrev is_of : Route → Route → Bool
is_of d u = eqb u.demand.number d.demand.number

-- a slot has at most one unit of a demand, since its units share links
one_in_slot : (n : ℕ) (d : Route) → shares n d d ≡ true → (s : List Route) → Unclashing (shares n) s → Each (Own d) s → count_of (is_of d) s ≡ one (has_unit d s)
one_in_slot n d self [] h o = refl
one_in_slot n d self (u ∷ s) h o = go (is_of d u) refl (has_unit d s) refl (one_in_slot n d self s h.1 o.1)
  where
    twice : is_of d u ≡ true → has_unit d s ≡ true → ⊥
    twice p q =
        let other = some_one (is_of d) (λ v. (shares n u v ≡ false) × Own d v) s q (all_both (λ v. shares n u v ≡ false) (Own d) (λ v. (shares n u v ≡ false) × Own d v) (λ v x y. (x, y)) s (none_all (shares n u) s h.0) o.1) in
        let du : d ≡ u = o.0 (sym (eqb-true u.demand.number d.demand.number p)) in
        let dv : d ≡ other.0 = other.2.1 (sym (eqb-true other.0.demand.number d.demand.number other.1)) in
        false≢true (sym other.2.0 ∙ sym (ap₂ (shares n) du dv) ∙ self)

    go : (t : Bool) → is_of d u ≡ t → (b : Bool) → has_unit d s ≡ b → count_of (is_of d) s ≡ one (has_unit d s) → one (is_of d u) + count_of (is_of d) s ≡ one (is_of d u || has_unit d s)
    go true p true q ih = absurd (twice p q)
    go true p false q ih = omega (arith, ih, ap one p, ap one q, ap₂ (λ x y. one (x || y)) p q)
    go false p b q ih = omega (arith, ih, ap one p, ap (λ x. one (x || has_unit d s)) p)

count_slots : (n : ℕ) (d : Route) → shares n d d ≡ true → (ss : List (List Route)) (k : ℕ) → Each (Unclashing (shares n)) ss → Each (Each (Own d)) ss → length (slots_of k d ss) ≡ total (is_of d) ss
count_slots n d self [] k h o = refl
count_slots n d self (s ∷ ss) k h o = go (has_unit d s) refl (count_slots n d self ss (k + 1) h.1 o.1)
  where
    go : (t : Bool) → has_unit d s ≡ t → length (slots_of (k + 1) d ss) ≡ total (is_of d) ss → length (cond t (k ∷ slots_of (k + 1) d ss) (slots_of (k + 1) d ss)) ≡ total (is_of d) (s ∷ ss)
    go true p ih = omega (arith, ih, one_in_slot n d self s h.0 o.0, ap one p)
    go false p ih = omega (arith, ih, one_in_slot n d self s h.0 o.0, ap one p)

pub shares_itself : (n : ℕ) (d : Route) → Valid n d → shares n d d ≡ true
shares_itself n d v =
    some_has (λ e. holds d e && holds d e) (start_node d) 1 n (start_in n d v).0 (omega (arith, (start_in n d v).1)) (and_from (holds d (start_node d)) (holds d (start_node d)) (holds_start n d v) (holds_start n d v))

-- of routes whose numbers differ, one alone is of a demand
pick_none : (g : Route → ℕ) (d : Route) (ds : List Route) → Each (λ (a : Route). d.demand.number ≢ a.demand.number) ds → sum_of (λ (a : Route). cond (is_of d a) (g a) 0) ds ≡ 0
pick_none g d [] h = refl
pick_none g d (a ∷ ds) h = omega (arith, cond-false (is_of d a) (g a) 0 (ne_eqb a.demand.number d.demand.number (λ q. h.0 (sym q))), pick_none g d ds h.1)

pub pick : (g : Route → ℕ) (ds : List Route) → Distinct ds → Each (λ (d : Route). sum_of (λ (a : Route). cond (is_of d a) (g a) 0) ds ≡ g d) ds
pick g [] h = tt
pick g (d ∷ ds) h = (
  omega (arith, cond-true (is_of d d) (g d) 0 (eq-eqb d.demand.number d.demand.number refl), pick_none g d ds h.0),
  all_both (λ (a : Route). d.demand.number ≢ a.demand.number) _ _ next ds h.0 (pick g ds h.1),
)
  where
    next : (a : Route) → d.demand.number ≢ a.demand.number → sum_of (λ (b : Route). cond (is_of a b) (g b) 0) ds ≡ g a → sum_of (λ (b : Route). cond (is_of a b) (g b) 0) (d ∷ ds) ≡ g a
    next a ne e = omega (arith, cond-false (is_of a d) (g d) 0 (ne_eqb d.demand.number a.demand.number ne))

pub rows_count : (n : ℕ) (routes : List Route) → 1 ≤ n → Each (Valid n) routes → Distinct routes → Each (λ d. length (slots_of 1 d (first_fit n routes)) ≡ d.demand.units) routes
rows_count n routes h valid distinct =
    let c : ℕ = cut_link n routes in
    let line : List Route = turns n routes c in
    all_both (λ d. Valid n d × Each (Own d) routes) (λ d. sum_of (units_by (is_of d)) routes ≡ d.demand.units) _
    (λ d p e.
    count_slots n d (shares_itself n d p.0) (first_fit n routes) 1 (fitted_apart (shares n) line) (fitted_all (shares n) (Own d) line [] (turns_all (Own d) n c routes p.1) tt)
    ∙ total_fold (shares n) (is_of d) line [] ∙ zero-add (count_of (is_of d) line)
    ∙ count_turns (is_of d) n c routes (cut_link_lem n routes h).1 valid ∙ e)
    routes (all_both (Valid n) (λ a. Each (Own a) routes) (λ d. Valid n d × Each (Own d) routes) (λ d v o. (v, o)) routes valid (own_all routes distinct)) (pick (λ d. d.demand.units) routes distinct)
