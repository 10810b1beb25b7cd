-- What an accepted call passed, and what it keeps: the limits of the demands, the count of the nodes that are out, and the number of rows.
use Rattle.std.proofs.Common.{◌≡◌, ℕ, zero, suc, ◌+◌, ◌<◌, ◌≤◌, Bool, true, false, not, ◌&&◌, ◌||◌, eqb, ltb, leb, List, [], ◌∷◌, ◌++◌, map, length, get_or, set, filter, sym, refl, ap, ◌∙◌, subst, arith}
use lib.ListN.{length-map}
use Rattle.std.specs.List.{remove, AllByRecursion as Each}
use Rattle.std.proofs.ByRecursion.{All-push, all_kept_by, All-get_or, Decides-by_and}
use Rattle.std.proofs.lemmas.List.{length_push}
use Rattle.std.proofs.lemmas.Bool.{and_parts, or_parts, not-false, not-true, both_ways, leb-true, leb-false, ltb-false, eqb-true, eqb-false, eq-eqb, ne_eqb, not_from_true, not_from_false, cond_both, cond-true, cond-false}
use Rattle.refusals.specs.declared.Refusal.{Refusal}
use Rattle.refusals.specs.declared.Refusal.TheVariants.{Unplanned, EndOutside, EndsFalling, UnitsOutside, NumberTaken, BookFull, UnitsPast, NodesOut, NodeOut, SlipsSpent, SlipUnknown}
use Rattle.ring.specs.Sums.{sum_of, each}
use Rattle.ring.specs.Ring.{Ends, Numbered, WithinLimits, units, ends_test, numbered_test, within_limits, named}
use Rattle.ring.specs.Sides.{Choice, routes_by}
use Rattle.ring.specs.declared.Demand.{Demand}
use Rattle.ring.specs.declared.Route.{Route}
use Rattle.ring.proofs.Limits.{to_limits, from_limits}
use Rattle.ring.proofs.Summing.{sum_one, sum_eq, sum_append, all_of, part_le}
use Rattle.drawn.specs.Slotting.{drawn, slots_of, row_of, rows_in}
use Rattle.drawn.proofs.Counts.{sum_kept_by, count_joined}
use Rattle.drawn.proofs.Bounds.{first_fit, length_count}
use Rattle.drawn.proofs.Says.{rows_count}
use Rattle.drawn.proofs.Plans.{valid_routes, distinct_routes}
use Rattle.drawn.proofs.Bears.{units_same, drawn_is}
use Rattle.booklaw.specs.Books.{State, is_open, is_node, demand_of, without, is_out, outs, fits}
use Rattle.booklaw.specs.Calls.{Answer, accepted, Outcome, Issue, HandBack, Reopen, unless, entering, answer}

-- an accepted call passed its first check, and all the later ones
pub passed : (b : Bool) (why : Refusal) (rest : Answer) → unless b why rest ≡ accepted → (b ≡ false) × (rest ≡ accepted)
passed true why rest e = let z : ◌≡◌ {A = ℕ} 0 1 = cc in absurd (omega arith)
passed false why rest e = (refl, e)

-- ---- entering
-- what the checks of an entry say
record Enters (n : ℕ) (ds : List Demand) (number a b us : ℕ) : Type 0 where
  from : (1 ≤ a) × (a ≤ n)
  to : (1 ≤ b) × (b ≤ n)
  apart : a ≡ b → ⊥
  sized : (1 ≤ us) × (us ≤ 48)
  above : 1 ≤ number
  new : named ds number ≡ false
  room : length ds < 128
  within : units ds + us ≤ 1024

-- a node of the ring is from 1 to its size
node_in : (n v : ℕ) → is_node n v ≡ true → (1 ≤ v) × (v ≤ n)
node_in n v h = let p = and_parts (leb 1 v) (leb v n) h in (leb-true 1 v p.0, leb-true v n p.1)

-- an accepted entry passed them
enters : (n : ℕ) (ds : List Demand) (number a b us : ℕ) → entering n ds number a b us ≡ accepted → Enters n ds number a b us
enters n ds number a b us e =
    let p = passed (not (is_node n a && is_node n b)) (EndOutside 0) _ e in
    let q = passed (eqb a b) (EndsFalling 0) _ p.1 in
    let r = passed (not (leb 1 us && leb us 48)) (UnitsOutside 0) _ q.1 in
    let s = passed (eqb number 0 || named ds number) (NumberTaken 0) _ r.1 in
    let t = passed (leb 128 (length ds)) (BookFull 0) _ s.1 in
    let u = passed (ltb 1024 (units ds + us)) (UnitsPast 0) accepted t.1 in
    let nodes = and_parts (is_node n a) (is_node n b) (not-false _ p.0) in
    let size = and_parts (leb 1 us) (leb us 48) (not-false _ r.0) in
    let fresh = or_parts (eqb number 0) (named ds number) s.0 in
    let positive : number ≡ 0 → ⊥ = eqb-false number 0 fresh.0 in
    record {
      from = node_in n a nodes.0;
      to = node_in n b nodes.1;
      apart = eqb-false a b q.0;
      sized = (leb-true 1 us size.0, leb-true us 48 size.1);
      above = omega arith;
      new = fresh.1;
      room = leb-false 128 (length ds) t.0;
      within = ltb-false 1024 (units ds + us) u.0;
    }

-- a number that no demand has may come after the others
numbered_push : (ds : List Demand) (d : Demand) → Numbered ds → named ds d.number ≡ false → Numbered (ds ++ (d ∷ []))
numbered_push [] d h new = (tt, tt)
numbered_push (x ∷ ds) d h new =
    let p = or_parts (eqb x.number d.number) (named ds d.number) new in (
      All-push (λ (c : Demand). c.number ≡ x.number → ⊥) ds d h.0 (λ e. eqb-false x.number d.number p.0 (sym e)),
      numbered_push ds d h.1 p.1,
    )

-- demands stay within the limits where one more is accepted
pub enter_within : (n : ℕ) (ds : List Demand) (number a b us : ℕ) → within_limits n ds ≡ true → entering n ds number a b us ≡ accepted →
    within_limits n (ds ++ (demand_of number a b us ∷ [])) ≡ true
enter_within n ds number a b us h e =
    let l = to_limits n ds h in
    let p = enters n ds number a b us e in
    let d : Demand = demand_of number a b us in
    let ne : a ≡ b → ⊥ = p.apart in
    from_limits n (ds ++ (d ∷ [])) (record {
      least = l.least;
      most = l.most;
      fitting = All-push (λ (c : Demand). Ends n c.lower c.upper) ds d l.fitting (omega arith, omega arith, omega arith);
      numbered = numbered_push ds d l.numbered p.new;
      numbers = All-push (λ (c : Demand). 1 ≤ c.number) ds d l.numbers p.above;
      sized = All-push (λ (c : Demand). (1 ≤ c.units) × (c.units ≤ 48)) ds d l.sized p.sized;
      few = omega (arith, length_push ds d, p.room);
      total = omega (arith, sum_append (λ (c : Demand). c.units) ds (d ∷ []), p.within);
    })

-- there is room for a demand that is accepted
pub enter_room : (n : ℕ) (ds : List Demand) (number a b us : ℕ) → entering n ds number a b us ≡ accepted → length ds < 128
enter_room n ds number a b us e = (enters n ds number a b us e).room

-- ---- withdrawing
-- a part of a list has no more of a figure
kept_le : {X : Type 0} (f : X → ℕ) (p : X → Bool) (xs : List X) → sum_of f (filter p xs) ≤ sum_of f xs
kept_le f p xs = omega (arith, sum_kept_by f p xs, part_le p f xs)

-- some of the demands, whose numbers differ, still have numbers that differ
numbered_kept : (p : Demand → Bool) (ds : List Demand) → Numbered ds → Numbered (filter p ds)
numbered_kept p [] h = tt
numbered_kept p (d ∷ ds) h =
    cond_both (p d) (d ∷ filter p ds) (filter p ds) Numbered
    (λ _. (all_kept_by p (λ (c : Demand). c.number ≡ d.number → ⊥) ds h.0, numbered_kept p ds h.1))
    (λ _. numbered_kept p ds h.1)

-- demands stay within the limits where one is taken out
pub without_within : (n number : ℕ) (ds : List Demand) → within_limits n ds ≡ true → within_limits n (without number ds) ≡ true
without_within n number ds h =
    let l = to_limits n ds h in
    let p : Demand → Bool = λ (d : Demand). not (eqb d.number number) in
    from_limits n (without number ds) (record {
      least = l.least;
      most = l.most;
      fitting = all_kept_by p _ ds l.fitting;
      numbered = numbered_kept p ds l.numbered;
      numbers = all_kept_by p _ ds l.numbers;
      sized = all_kept_by p _ ds l.sized;
      few = omega (arith, kept_le (λ _. 1) p ds, sum_one (filter p ds), sum_one ds, l.few);
      total = omega (arith, kept_le (λ (d : Demand). d.units) p ds, l.total);
    })

-- demands within the limits have numbers that differ
pub numbered_within : (n : ℕ) (ds : List Demand) → within_limits n ds ≡ true → numbered_test ds ≡ true
numbered_within n ds h =
    let ring = and_parts (leb n 16) _ (and_parts (leb 3 n) _ h).1 in
    (and_parts (numbered_test ds) _ (and_parts (each (ends_test n) ds) _ ring.1).1).0

-- what a test of each element says of each
all_pass : {X : Type 0} (p : X → Bool) (xs : List X) → each p xs ≡ true → Each (λ x. p x ≡ true) xs
all_pass p xs h = (Decides-by_and p (λ x. p x ≡ true) (each p) (λ x. (λ e. e, λ e. e)) refl (λ _ _. refl) xs).0 h

-- a filter that each element passes leaves the list
pub kept_all : {X : Type 0} (p : X → Bool) (xs : List X) → Each (λ x. p x ≡ true) xs → filter p xs ≡ xs
kept_all p [] h = refl
kept_all p (x ∷ xs) h = cond-true (p x) (x ∷ filter p xs) (filter p xs) h.0 ∙ ap (λ ys. x ∷ ys) (kept_all p xs h.1)

-- the demand with a number is taken out at its place
pub removed_without : (number i : ℕ) (ds : List Demand) (d : Demand) → numbered_test ds ≡ true → i < length ds → (get_or ds i d).number ≡ number →
    remove ds i ≡ without number ds
removed_without number i [] d h l e = absurd (omega arith)
removed_without number zero (x ∷ ds) d h l e =
    let other : Demand → Bool = λ (c : Demand). not (eqb c.number x.number) in
    let here : other x ≡ false = not_from_true _ (eq-eqb x.number x.number refl) in
    let rest : filter other ds ≡ ds = kept_all other ds (all_pass other ds (and_parts (each other ds) (numbered_test ds) h).0) in
    subst (λ m. ds ≡ without m (x ∷ ds)) e (sym (cond-false (other x) (x ∷ filter other ds) (filter other ds) here ∙ rest))
removed_without number (suc i) (x ∷ ds) d h l e =
    let other : Demand → Bool = λ (c : Demand). not (eqb c.number x.number) in
    let p = and_parts (each other ds) (numbered_test ds) h in
    let lt : i < length ds = omega arith in
    let differ : (get_or ds i d).number ≡ x.number → ⊥ = eqb-false _ _ (not-true _ (All-get_or (λ c. other c ≡ true) ds i d lt (all_pass other ds p.0))) in
    let kept : not (eqb x.number number) ≡ true = not_from_false _ (ne_eqb x.number number (λ q. differ (e ∙ sym q))) in
    ap (λ cs. x ∷ cs) (removed_without number i ds d p.1 lt e) ∙ sym (cond-true _ (x ∷ without number ds) (without number ds) kept)

-- ---- slips
-- what an accepted issue passed
pub issue_passed : (s : State) (node : ℕ) → answer s (Issue node) ≡ accepted →
    (is_open s.drawing ≡ false) × (1 ≤ node) × (node ≤ s.size) × (is_out s.out node ≡ false) × (s.issued < 65535)
issue_passed s node e =
    let p = passed (is_open s.drawing) Unplanned _ e in
    let q = passed (not (is_node s.size node)) (EndOutside 0) _ p.1 in
    let r = passed (is_out s.out node) NodeOut _ q.1 in
    let t = passed (leb 65535 s.issued) SlipsSpent accepted r.1 in
    let v = node_in s.size node (not-false _ q.0) in
    (p.0, v.0, v.1, r.0, leb-false 65535 s.issued t.0)

-- a slip that is handed back is of this book, and its node is out
pub fits_passed : (s : State) (how : Outcome) (book node : ℕ) → answer s (HandBack how book node) ≡ accepted → (book ≡ s.number) × (is_out s.out node ≡ true)
fits_passed s how book node e =
    let p = and_parts (eqb book s.number) (is_out s.out node) (not-false _ (passed (not (fits s book node)) SlipUnknown accepted e).0) in
    (eqb-true book s.number p.0, p.1)

-- where a reopen is accepted, there is a plan and no node is out
pub reopen_passed : (s : State) → answer s Reopen ≡ accepted → (is_open s.drawing ≡ false) × (outs s.out ≡ 0)
reopen_passed s e =
    let p = passed (is_open s.drawing) Unplanned _ e in
    let q = ltb-false 0 (outs s.out) (passed (ltb 0 (outs s.out)) NodesOut accepted p.1).0 in
    (p.0, omega arith)

-- a node that is marked out counts one more
pub outs_on : (out : List Bool) (v : ℕ) → v < length out → is_out out v ≡ false → outs (set out v true) ≡ outs out + 1
outs_on [] v h e = absurd (omega arith)
outs_on (true ∷ out) zero h e = absurd (both_ways true e refl)
outs_on (false ∷ out) zero h e = omega arith
outs_on (x ∷ out) (suc v) h e = omega (arith, outs_on out v (omega arith) e)

-- a node that is marked in again counts one less
pub outs_off : (out : List Bool) (v : ℕ) → is_out out v ≡ true → outs (set out v false) + 1 ≡ outs out
outs_off [] v e = absurd (both_ways false refl e)
outs_off (true ∷ out) zero e = omega arith
outs_off (false ∷ out) zero e = absurd (both_ways false refl e)
outs_off (x ∷ out) (suc v) e = omega (arith, outs_off out v e)

-- a node that is out is counted
pub out_counted : (out : List Bool) (v : ℕ) → is_out out v ≡ true → 0 < outs out
out_counted out v e = omega (arith, outs_off out v e)

-- ---- rows
-- the rows are as many as the slots of all routes
length_rows : (ss : List (List Route)) (routes : List Route) → length (rows_in ss routes) ≡ sum_of (λ (d : Route). length (slots_of 1 d ss)) routes
length_rows ss routes =
    length_count (rows_in ss routes) ∙ count_joined (λ _. true) (λ d. map (row_of d) (slots_of 1 d ss)) routes
    ∙ sum_eq _ _ routes (all_of _ (λ d. sym (length_count (map (row_of d) (slots_of 1 d ss))) ∙ length-map (slots_of 1 d ss) (row_of d)) routes)

-- as many rows are drawn as there are units, so at most 1,024
pub drawn_few : (n : ℕ) (σ : Choice) (ds : List Demand) → WithinLimits n ds → length (drawn n σ ds) ≤ 1024
drawn_few n σ ds l =
    let n1 : 1 ≤ n = omega (arith, l.least) in
    let routes : List Route = routes_by σ n ds in
    let ss : List (List Route) = first_fit n routes in
    let counts : Each (λ (d : Route). length (slots_of 1 d ss) ≡ d.demand.units) routes =
    rows_count n routes n1 (valid_routes σ n ds l.fitting) (distinct_routes σ n ds l.numbered) in
    omega (
      arith,
      ap length (drawn_is n σ ds n1),
      length_rows ss routes,
      sum_eq (λ (d : Route). length (slots_of 1 d ss)) (λ (d : Route). d.demand.units) routes counts,
      units_same σ n ds,
      l.total,
    )
