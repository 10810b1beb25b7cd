-- The law of a book over every list of calls: an invariant that each call keeps. Likewise the rows while a slip is out.
use Rattle.std.proofs.Common.{◌≡◌, ℕ, zero, suc, ◌+◌, ◌<◌, ◌≤◌, Bool, true, false, cond, not, ◌||◌, eqb, ◌≢◌, List, [], ◌∷◌, ◌++◌, length, set, replicate, filter, sym, refl, ap, ◌∙◌, subst, ap₂, ⊎_elim, arith, length-set}
use Rattle.std.proofs.lemmas.List.Elements.{filter-append}
use Rattle.std.proofs.lemmas.List.{append-nil, get_or-set_same, get_or-set_other, get_or_past}
use Rattle.std.proofs.lemmas.Bool.{not-false, not_from_false, both_ways, cases_eq, cases_lt, cond-true, cond-false, eq-eqb, ne_eqb}
use Rattle.ring.specs.Sums.{some, one}
use Rattle.ring.specs.Ring.{within_limits}
use Rattle.ring.specs.declared.Demand.{Demand}
use Rattle.ring.specs.declared.Row.{Row}
use Rattle.ring.proofs.Limits.{to_limits, from_limits}
use Rattle.ring.proofs.Summing.{all_of}
use Rattle.drawn.proofs.Bears.{draws_well, draws_best}
use Rattle.booklaw.specs.declared.Drawing.{Drawing}
use Rattle.booklaw.specs.Books.{State, fresh, is_open, demand_of, without, is_out, outs}
use Rattle.booklaw.specs.Calls.{Call, Enter, Withdraw, Plan, BestLinkPlan, Issue, Read, HandBack, Reopen, Outcome, as_loaded, as_returned, Answer, accepted, refused, answer, with_demands, with_plan, with_slips, changed, settled, after}
use Rattle.booklaw.specs.Histories.{Event, Deed, entered, withdrew, drew_by, drew_best, issued, handed_back, reopened, nothing, deed, takes_out, still_in, standing, demands_by, Planning, unplanned, by_rule, by_best, planning_after, planning_by, out_after, out_by, Returns, Unreturned, is_issue, is_hand_back, issues_in, hand_backs_in}
use Rattle.booklaw.specs.Laws.{Holds, Law, final, history, EveryListIsLawful, RowsStayWhileOut}
use Rattle.booklaw.proofs.Passing.{passed, enter_within, without_within, kept_all, issue_passed, fits_passed, reopen_passed, outs_on, outs_off, out_counted}

-- ---- the demands by one more call
-- whether a deed leaves the demand in
abbrev spares : Deed → Demand → Bool
spares x d = not (takes_out d.number x)

-- whether an event takes out the demand with this number
abbrev takes : ℕ → Event → Bool
takes number e = takes_out number (deed e)

-- a demand that was entered before some events, after one event more
entered_later : (e : Event) (d : Demand) (later : List Event) →
    cond (some (takes d.number) (later ++ (e ∷ []))) [] (d ∷ []) ≡ filter (spares (deed e)) (cond (some (takes d.number) later) [] (d ∷ []))
entered_later e d [] = elim (takes d.number e) as (λ t. cond (t || false) [] (d ∷ []) ≡ cond (not t) (d ∷ []) []) [ true ↦ refl | false ↦ refl ]
entered_later e d (f ∷ later) =
    elim (takes d.number f)
    as (λ t. cond (t || some (takes d.number) (later ++ (e ∷ []))) [] (d ∷ [])
    ≡ filter (spares (deed e)) (cond (t || some (takes d.number) later) [] (d ∷ [])))
    [ true ↦ refl | false ↦ entered_later e d later ]

-- the same of any earlier deed
still_in_later : (e : Event) (later : List Event) (x : Deed) → still_in (later ++ (e ∷ [])) x ≡ filter (spares (deed e)) (still_in later x)
still_in_later e later (entered d) = entered_later e d later
still_in_later e later (withdrew number) = refl
still_in_later e later (drew_by σ law) = refl
still_in_later e later drew_best = refl
still_in_later e later (issued node) = refl
still_in_later e later (handed_back how node) = refl
still_in_later e later reopened = refl
still_in_later e later nothing = refl

-- one event more takes out of the demands those that its deed does not spare
standing_later : (e : Event) (later past : List Event) → standing (later ++ (e ∷ [])) past ≡ filter (spares (deed e)) (standing later past)
standing_later e later [] = refl
standing_later e later (f ∷ past) =
    ap₂ ◌++◌ (standing_later e (f ∷ later) past) (still_in_later e later (deed f))
    ∙ sym (filter-append (spares (deed e)) (standing (f ∷ later) past) (still_in later (deed f)))

-- the demands by one event more: those that its deed spares, and the one that it enters
demands_next : (e : Event) (past : List Event) → demands_by (e ∷ past) ≡ filter (spares (deed e)) (demands_by past) ++ still_in [] (deed e)
demands_next e past = ap (λ ds. ds ++ still_in [] (deed e)) (standing_later e [] past)

-- where the deed takes nothing out
demands_more : (e : Event) (past : List Event) → ((k : ℕ) → takes_out k (deed e) ≡ false) → demands_by (e ∷ past) ≡ demands_by past ++ still_in [] (deed e)
demands_more e past h =
    demands_next e past
    ∙ ap (λ ds. ds ++ still_in [] (deed e)) (kept_all (spares (deed e)) (demands_by past) (all_of _ (λ d. not_from_false _ (h d.number)) (demands_by past)))

-- where it enters nothing either
demands_same : (e : Event) (past : List Event) → ((k : ℕ) → takes_out k (deed e) ≡ false) → still_in [] (deed e) ≡ [] → demands_by (e ∷ past) ≡ demands_by past
demands_same e past h none = demands_more e past h ∙ ap (λ ds. demands_by past ++ ds) none ∙ append-nil (demands_by past)

-- ---- the nodes that are out
-- a mark says what was set, and the others what they said
mark_is : (out : List Bool) (v w : ℕ) (b : Bool) → v < length out → is_out (set out v b) w ≡ cond (eqb v w) b (is_out out w)
mark_is out v w b lt =
    ⊎_elim
    (λ e. ap (is_out (set out v b)) (sym e) ∙ get_or-set_same out v b false lt ∙ sym (cond-true (eqb v w) b (is_out out w) (eq-eqb v w e)))
    (λ ne. get_or-set_other out v w b false (λ e. ne (sym e)) ∙ sym (cond-false (eqb v w) b (is_out out w) (ne_eqb v w ne)))
    (cases_eq v w)

-- a node that is marked out has a place
pub out_inside : (out : List Bool) (v : ℕ) → is_out out v ≡ true → v < length out
out_inside out v e = ⊎_elim (λ lt. lt) (λ past. absurd (both_ways (is_out out v) (get_or_past out v false past) e)) (cases_lt v (length out))

-- nothing is out where no mark is set
none_out : (n v : ℕ) → is_out (replicate n false) v ≡ false
none_out zero v = refl
none_out (suc n) zero = refl
none_out (suc n) (suc v) = none_out n v

-- a deed that is no issue and no hand back changes no mark
quiet : (d : Deed) → is_issue d ≡ false → ((how : Outcome) → is_hand_back how d ≡ false) → (v : ℕ) (b : Bool) → b ≡ out_after v d b
quiet (entered x) a h v b = refl
quiet (withdrew k) a h v b = refl
quiet (drew_by σ law) a h v b = refl
quiet drew_best a h v b = refl
quiet (issued w) a h v b = absurd (both_ways true a refl)
quiet (handed_back as_loaded w) a h v b = absurd (both_ways true (h as_loaded) refl)
quiet (handed_back as_returned w) a h v b = absurd (both_ways true (h as_returned) refl)
quiet reopened a h v b = refl
quiet nothing a h v b = refl

-- ---- the invariant
-- of the demands and the plan: the demands are those by the calls and within the limits, and the plan is the one by the calls
pub record Planwise (n : ℕ) (past : List Event) (ds : List Demand) (d : Drawing) (rows : List Row) : Type 0 where
  pub demands_are : ds ≡ demands_by past
  pub limits : within_limits n ds ≡ true
  pub plan : Holds (planning_by past) n ds d rows

-- of the slips: there is a place for each node, and the counters are those by the calls
pub record Slipwise (past : List Event) (out : List Bool) (issues loads returns : ℕ) : Type 0 where
  pub places : length out ≡ 17
  pub issues_are : issues ≡ issues_in past
  pub loads_are : loads ≡ hand_backs_in as_loaded past
  pub returns_are : returns ≡ hand_backs_in as_returned past
  pub adds_up : issues ≡ loads + returns + outs out
  pub out_are : (v : ℕ) → is_out out v ≡ out_by v past

-- of the book: its size and number besides
pub record Kept (size number : ℕ) (past : List Event) (s : State) : Type 0 where
  pub same_size : s.size ≡ size
  pub same_number : s.number ≡ number
  pub plans : Planwise s.size past s.demands s.drawing s.rows
  pub slips : Slipwise past s.out s.issued s.loaded s.returned

-- a fresh book has it
pub begins : (size number : ℕ) → 3 ≤ size → size ≤ 16 → Kept size number [] (fresh size number)
begins size number low high =
    let none : within_limits size [] ≡ true =
    from_limits size [] (record { least = low; most = high; fitting = tt; numbered = tt; numbers = tt; sized = tt; few = omega arith; total = omega arith }) in
    record {
      same_size = refl;
      same_number = refl;
      plans = record { demands_are = refl; limits = none; plan = (refl, refl) };
      slips = record { places = refl; issues_are = refl; loads_are = refl; returns_are = refl; adds_up = refl; out_are = none_out 17 };
    }

-- it gives the law
pub lawful : (size number : ℕ) (past : List Event) (s : State) → Kept size number past s → Law size number past s
lawful size number past s i =
    record {
      same_size = i.same_size;
      same_number = i.same_number;
      demands_by_calls = i.plans.demands_are;
      plan_by_calls = subst (λ n. Holds (planning_by past) n (demands_by past) s.drawing s.rows) i.same_size
          (subst (λ ds. Holds (planning_by past) s.size ds s.drawing s.rows) i.plans.demands_are i.plans.plan);
      issued_by_calls = i.slips.issues_are;
      loaded_by_calls = i.slips.loads_are;
      returned_by_calls = i.slips.returns_are;
      out_by_calls = i.slips.out_are;
      accounted = i.slips.adds_up;
    }

-- ---- one call
-- where the book is open, no plan stands by the calls, so the demands may change
open_holds : (p : Planning) (n : ℕ) (ds ds' : List Demand) (d : Drawing) (rows : List Row) → is_open d ≡ true → Holds p n ds d rows → Holds p n ds' d rows
open_holds unplanned n ds ds' d rows o h = h
open_holds (by_rule σ law) n ds ds' d rows o h = absurd (both_ways (is_open d) (ap is_open h.0) o)
open_holds by_best n ds ds' d rows o h = absurd (both_ways (is_open d) (ap is_open h.0) o)

-- the event of a call with its answer
abbrev event : Call → Answer → Event
event c r = record { call = c; got = r }

module _ (size number : ℕ) (past : List Event) (s : State) (i : Kept size number past s) where
  -- an event that neither enters nor withdraws leaves the demands
  demands_still : (e : Event) → ((k : ℕ) → takes_out k (deed e) ≡ false) → still_in [] (deed e) ≡ [] → s.demands ≡ demands_by (e ∷ past)
  demands_still e h none = i.plans.demands_are ∙ sym (demands_same e past h none)

  -- where it neither draws nor reopens either, the plan stays
  plans_still : (e : Event) → ((k : ℕ) → takes_out k (deed e) ≡ false) → still_in [] (deed e) ≡ [] → planning_by (e ∷ past) ≡ planning_by past →
      Planwise s.size (e ∷ past) s.demands s.drawing s.rows
  plans_still e h none p =
      let holds = subst (λ q. Holds q s.size s.demands s.drawing s.rows) (sym p) i.plans.plan in
      record { demands_are = demands_still e h none; limits = i.plans.limits; plan = holds }

  -- the slips after an event that counts what it says
  slips_next : (e : Event) (out : List Bool) (issues loads returns : ℕ) → length out ≡ length s.out → issues ≡ one (is_issue (deed e)) + s.issued →
      loads ≡ one (is_hand_back as_loaded (deed e)) + s.loaded → returns ≡ one (is_hand_back as_returned (deed e)) + s.returned →
      issues ≡ loads + returns + outs out → ((v : ℕ) → is_out out v ≡ out_after v (deed e) (is_out s.out v)) → Slipwise (e ∷ past) out issues loads returns
  slips_next e out issues loads returns l a b c sum marks =
      record {
        places = l ∙ i.slips.places;
        issues_are = omega (arith, i.slips.issues_are);
        loads_are = omega (arith, i.slips.loads_are);
        returns_are = omega (arith, i.slips.returns_are);
        adds_up = sum;
        out_are = λ v. marks v ∙ ap (out_after v (deed e)) (i.slips.out_are v);
      }

  -- an event that is no issue and no hand back leaves them
  slips_still : (e : Event) → is_issue (deed e) ≡ false → ((how : Outcome) → is_hand_back how (deed e) ≡ false) →
      Slipwise (e ∷ past) s.out s.issued s.loaded s.returned
  slips_still e a b =
      slips_next e s.out s.issued s.loaded s.returned refl
      (omega (arith, ap one a)) (omega (arith, ap one (b as_loaded))) (omega (arith, ap one (b as_returned))) i.slips.adds_up
      (λ v. quiet (deed e) a b v (is_out s.out v))

  -- an event that changes the demands or the plan
  plans_kept : (e : Event) (ds : List Demand) (d : Drawing) (rows : List Row) → is_issue (deed e) ≡ false → ((how : Outcome) → is_hand_back how (deed e) ≡ false) →
      Planwise s.size (e ∷ past) ds d rows → Kept size number (e ∷ past) (with_plan (with_demands s ds) d rows)
  plans_kept e ds d rows a b p = record { same_size = i.same_size; same_number = i.same_number; plans = p; slips = slips_still e a b }

  -- one that changes the slips
  slips_kept : (e : Event) (out : List Bool) (issues loads returns : ℕ) → ((k : ℕ) → takes_out k (deed e) ≡ false) → still_in [] (deed e) ≡ [] →
      planning_by (e ∷ past) ≡ planning_by past → Slipwise (e ∷ past) out issues loads returns →
      Kept size number (e ∷ past) (with_slips s out issues loads returns)
  slips_kept e out issues loads returns h none p j =
      record { same_size = i.same_size; same_number = i.same_number; plans = plans_still e h none p; slips = j }

  -- one that does nothing
  nothing_kept : (e : Event) → deed e ≡ nothing → Kept size number (e ∷ past) s
  nothing_kept e h =
      record {
        same_size = i.same_size;
        same_number = i.same_number;
        plans = plans_still e (λ k. ap (takes_out k) h) (ap (still_in []) h) (ap (λ x. planning_after x (planning_by past)) h);
        slips = slips_still e (ap is_issue h) (λ how. ap (is_hand_back how) h);
      }

  -- an accepted call keeps the invariant
  accepted_kept : (c : Call) → answer s c ≡ accepted → Kept size number (event c accepted ∷ past) (changed s c)
  accepted_kept (Enter k a b us) e =
      let p = passed _ _ _ e in
      plans_kept (event (Enter k a b us) accepted) _ _ _ refl (λ _. refl) (record {
        demands_are = ap (λ ds. ds ++ (demand_of k a b us ∷ [])) i.plans.demands_are ∙ sym (demands_more (event (Enter k a b us) accepted) past (λ _. refl));
        limits = enter_within s.size s.demands k a b us i.plans.limits p.1;
        plan = open_holds (planning_by past) s.size s.demands _ s.drawing s.rows (not-false _ p.0) i.plans.plan;
      })
  accepted_kept (Withdraw k) e =
      plans_kept (event (Withdraw k) accepted) _ _ _ refl (λ _. refl) (record {
        demands_are = ap (without k) i.plans.demands_are ∙ sym (demands_next (event (Withdraw k) accepted) past ∙ append-nil (without k (demands_by past)));
        limits = without_within s.size k s.demands i.plans.limits;
        plan = open_holds (planning_by past) s.size s.demands _ s.drawing s.rows (not-false _ (passed _ _ _ e).0) i.plans.plan;
      })
  accepted_kept (Plan σ law marks) e =
      plans_kept (event (Plan σ law marks) accepted) _ _ _ refl (λ _. refl) (record {
        demands_are = demands_still (event (Plan σ law marks) accepted) (λ _. refl) refl;
        limits = i.plans.limits;
        plan = (refl, refl, draws_well s.size σ s.demands (to_limits s.size s.demands i.plans.limits) law);
      })
  accepted_kept (BestLinkPlan marks) e =
      plans_kept (event (BestLinkPlan marks) accepted) _ _ _ refl (λ _. refl) (record {
        demands_are = demands_still (event (BestLinkPlan marks) accepted) (λ _. refl) refl;
        limits = i.plans.limits;
        plan = (refl, refl, draws_best s.size s.demands (to_limits s.size s.demands i.plans.limits));
      })
  accepted_kept (Issue node) e =
      let ev : Event = event (Issue node) accepted in
      let p = issue_passed s node e in
      let lt : node < length s.out = omega (arith, p.2, i.slips.places, (to_limits s.size s.demands i.plans.limits).most) in
      slips_kept ev _ _ _ _ (λ _. refl) refl refl
      (slips_next ev (set s.out node true) (s.issued + 1) s.loaded s.returned (length-set s.out node true)
      (omega arith) (omega arith) (omega arith) (omega (arith, outs_on s.out node lt p.3, i.slips.adds_up))
      (λ v. mark_is s.out node v true lt))
  accepted_kept (Read book node room) e = nothing_kept (event (Read book node room) accepted) refl
  accepted_kept (HandBack as_loaded book node) e =
      let ev : Event = event (HandBack as_loaded book node) accepted in
      slips_kept ev _ _ _ _ (λ _. refl) refl refl
      (slips_next ev (set s.out node false) s.issued (s.loaded + 1) s.returned (length-set s.out node false)
      (omega arith) (omega arith) (omega arith) (omega (arith, outs_off s.out node (fits_passed s as_loaded book node e).1, i.slips.adds_up))
      (λ v. mark_is s.out node v false (out_inside s.out node (fits_passed s as_loaded book node e).1)))
  accepted_kept (HandBack as_returned book node) e =
      let ev : Event = event (HandBack as_returned book node) accepted in
      slips_kept ev _ _ _ _ (λ _. refl) refl refl
      (slips_next ev (set s.out node false) s.issued s.loaded (s.returned + 1) (length-set s.out node false)
      (omega arith) (omega arith) (omega arith) (omega (arith, outs_off s.out node (fits_passed s as_returned book node e).1, i.slips.adds_up))
      (λ v. mark_is s.out node v false (out_inside s.out node (fits_passed s as_returned book node e).1)))
  accepted_kept Reopen e =
      plans_kept (event Reopen accepted) _ _ _ refl (λ _. refl) (record {
        demands_are = demands_still (event Reopen accepted) (λ _. refl) refl;
        limits = i.plans.limits;
        plan = (refl, refl);
      })

  -- so does a call with any answer
  answered_kept : (c : Call) (r : Answer) → answer s c ≡ r → Kept size number (event c r ∷ past) (settled r s (changed s c))
  answered_kept c accepted e = accepted_kept c e
  answered_kept c (refused why) e = nothing_kept (event c (refused why)) refl

-- what a call leaves, by its answer
after_by : (s : State) (c : Call) (r : Answer) → r ≡ answer s c → settled r s (changed s c) ≡ after s c
after_by s c r e = ap (λ q. settled q s (changed s c)) e

-- each call keeps the invariant
pub goes_on : (size number : ℕ) (past : List Event) (s : State) (c : Call) (r : Answer) → Kept size number past s → r ≡ answer s c →
    Kept size number (record { call = c; got = r } ∷ past) (after s c)
goes_on size number past s c r i e = subst (Kept size number (event c r ∷ past)) (after_by s c r e) (answered_kept size number past s i c r (sym e))

-- ---- lists of calls
-- what any list of calls leaves of a fresh book has the invariant
list_kept : (size number : ℕ) → 3 ≤ size → size ≤ 16 → (made : List Call) →
    Kept size number (history (fresh size number) made) (final (fresh size number) made)
list_kept size number low high [] = begins size number low high
list_kept size number low high (c ∷ earlier) = goes_on size number _ _ c _ (list_kept size number low high earlier) refl

-- the law over every list of calls
pub every_list_is_lawful : EveryListIsLawful
every_list_is_lawful size number low high made = lawful size number _ _ (list_kept size number low high made)

-- ---- the rows while a slip is out
-- the plan stands, the node is out, and the rows and the demands are these
pub record Held (node : ℕ) (rows : List Row) (ds : List Demand) (s : State) : Type 0 where
  pub closed : is_open s.drawing ≡ false
  pub is_out_lem : is_out s.out node ≡ true
  pub same : (s.rows ≡ rows) × (s.demands ≡ ds)

module _ (node : ℕ) (rows : List Row) (ds : List Demand) (s : State) (i : Held node rows ds s) where
  -- a call that wants an open book is refused
  not_open : not (is_open s.drawing) ≡ false → ⊥
  not_open o = both_ways _ i.closed (not-false _ o)

  -- a mark at another node, whatever the counters
  others_held : (other : ℕ) (b : Bool) (issues loads returns : ℕ) → node ≢ other → Held node rows ds (with_slips s (set s.out other b) issues loads returns)
  others_held other b issues loads returns ne =
      record { closed = i.closed; is_out_lem = get_or-set_other s.out other node b false ne ∙ i.is_out_lem; same = i.same }

  -- an accepted call leaves the rows and the mark, unless it is a hand back for the node
  accepted_held : (c : Call) → answer s c ≡ accepted → (Returns node (deed (event c accepted)) → ⊥) → Held node rows ds (changed s c)
  accepted_held (Enter k a b us) e un = absurd (not_open (passed _ _ _ e).0)
  accepted_held (Withdraw k) e un = absurd (not_open (passed _ _ _ e).0)
  accepted_held (Plan σ law marks) e un = absurd (not_open (passed _ _ _ e).0)
  accepted_held (BestLinkPlan marks) e un = absurd (not_open (passed _ _ _ e).0)
  accepted_held (Issue other) e un =
      others_held other true _ _ _ (λ q. both_ways _ (issue_passed s other e).3 (subst (λ v. is_out s.out v ≡ true) q i.is_out_lem))
  accepted_held (Read book other room) e un = i
  accepted_held (HandBack as_loaded book other) e un = others_held other false _ _ _ (λ q. un (sym q))
  accepted_held (HandBack as_returned book other) e un = others_held other false _ _ _ (λ q. un (sym q))
  accepted_held Reopen e un = absurd (omega (arith, (reopen_passed s e).1, out_counted s.out node i.is_out_lem))

  -- so does a call with any answer
  answered_held : (c : Call) (r : Answer) → answer s c ≡ r → (Returns node (deed (event c r)) → ⊥) → Held node rows ds (settled r s (changed s c))
  answered_held c accepted e un = accepted_held c e un
  answered_held c (refused why) e un = i

-- an accepted issue begins it
pub held_begins : (node : ℕ) (s : State) → length s.out ≡ 17 → s.size ≤ 16 → answer s (Issue node) ≡ accepted → Held node s.rows s.demands (after s (Issue node))
held_begins node s long high e =
    let p = issue_passed s node e in
    let lt : node < length s.out = omega (arith, p.2) in
    subst (Held node s.rows s.demands) (after_by s (Issue node) accepted (sym e))
    (record { closed = p.0; is_out_lem = get_or-set_same s.out node true false lt; same = (refl, refl) })

-- each call keeps it but an accepted hand back for the node
pub held_goes_on : (node : ℕ) (rows : List Row) (ds : List Demand) (s : State) (c : Call) (r : Answer) → Held node rows ds s → r ≡ answer s c →
    (Returns node (deed (record { call = c; got = r })) → ⊥) → Held node rows ds (after s c)
held_goes_on node rows ds s c r i e un = subst (Held node rows ds) (after_by s c r e) (answered_held node rows ds s i c r (sym e) un)

-- while it holds, the rows and the demands are the same
pub held_same : {node : ℕ} {rows : List Row} {ds : List Demand} {s : State} → Held node rows ds s → (s.rows ≡ rows) × (s.demands ≡ ds)
held_same i = i.same

-- a list of calls with no accepted hand back for the node leaves the rows
list_held : (node : ℕ) (rows : List Row) (ds : List Demand) (s : State) (later : List Call) → Held node rows ds s → Unreturned node (history s later) → Held node rows ds (final s later)
list_held node rows ds s [] i un = i
list_held node rows ds s (c ∷ earlier) i un = held_goes_on node rows ds (final s earlier) c _ (list_held node rows ds s earlier i un.1) refl un.0

-- from an accepted issue on, until a hand back for its node is accepted, the rows and the demands are the same
pub rows_stay_while_out : RowsStayWhileOut
rows_stay_while_out size number low high earlier later node e un =
    let before : State = final (fresh size number) earlier in
    let i = list_kept size number low high earlier in
    let small : before.size ≤ 16 = omega (arith, i.same_size) in
    held_same (list_held node before.rows before.demands (after before (Issue node)) later (held_begins node before i.slips.places small e) un)
