-- The history of a book: which calls were made and what each answered. What is said here of a book is read off its history alone, without looking into the
-- book. In a history the latest call comes first.
use Rattle.std.specs.Prelude.{◌≡◌, ℕ, Bool, true, false, cond, List, [], ◌∷◌, ◌++◌, ◌==◌}
use Rattle.ring.specs.Sums.{some, count_of}
use Rattle.ring.specs.Sides.{Choice, Parallel}
use Rattle.ring.specs.declared.Demand.{Demand}
use Rattle.booklaw.specs.Books.{demand_of}
use Rattle.booklaw.specs.Calls.{Call, Enter, Withdraw, Plan, BestLinkPlan, Issue, Read, HandBack, Reopen, Outcome, as_loaded, as_returned, Answer, accepted, refused}

-- a call that was made, and what it answered
pub record Event : Type 0 where
  pub call : Call
  pub got : Answer

-- what an accepted call did, as far as it matters here; a refused call did nothing
pub data Deed : Type 0 where
  entered : Demand → Deed
  withdrew : (number : ℕ) → Deed
  drew_by : (σ : Choice) → Parallel σ → Deed
  drew_best : Deed
  issued : (node : ℕ) → Deed
  handed_back : Outcome → (node : ℕ) → Deed
  reopened : Deed
  nothing : Deed

abbrev pub deed_by : Answer → Call → Deed
deed_by accepted (Enter number a b us) = entered (demand_of number a b us)
deed_by accepted (Withdraw number) = withdrew number
deed_by accepted (Plan σ law marks) = drew_by σ law
deed_by accepted (BestLinkPlan marks) = drew_best
deed_by accepted (Issue node) = issued node
deed_by accepted (Read book node places) = nothing
deed_by accepted (HandBack how book node) = handed_back how node
deed_by accepted Reopen = reopened
deed_by (refused why) c = nothing

abbrev pub deed : Event → Deed
deed e = deed_by e.got e.call

-- ---- the demands by the calls
-- whether a deed takes out the demand with this number
abbrev pub takes_out : ℕ → Deed → Bool
takes_out number (entered d) = false
takes_out number (withdrew other) = number == other
takes_out number (drew_by σ law) = false
takes_out number drew_best = false
takes_out number (issued node) = false
takes_out number (handed_back how node) = false
takes_out number reopened = false
takes_out number nothing = false

-- the demand that a deed entered, unless one of the later events took it out
abbrev pub still_in : List Event → Deed → List Demand
still_in later (entered d) = cond (some (λ e. takes_out d.number (deed e)) later) [] (d ∷ [])
still_in later (withdrew number) = []
still_in later (drew_by σ law) = []
still_in later drew_best = []
still_in later (issued node) = []
still_in later (handed_back how node) = []
still_in later reopened = []
still_in later nothing = []

-- of the events of `past`, the demands of accepted enters, in the order of entry, each unless an accepted withdraw took it out since, in `past` or `later`
abbrev pub standing : List Event → List Event → List Demand
standing later [] = []
standing later (e ∷ past) = standing (e ∷ later) past ++ still_in later (deed e)

abbrev pub demands_by : List Event → List Demand
demands_by past = standing [] past

-- ---- the plan by the calls
-- a book is planned from an accepted drawing to the next accepted reopen
pub data Planning : Type 0 where
  unplanned : Planning
  by_rule : (σ : Choice) → Parallel σ → Planning
  by_best : Planning

-- by the latest event that is a drawing or a reopen; `before` is what the events before this one say
abbrev pub planning_after : Deed → Planning → Planning
planning_after (entered d) before = before
planning_after (withdrew number) before = before
planning_after (drew_by σ law) before = by_rule σ law
planning_after drew_best before = by_best
planning_after (issued node) before = before
planning_after (handed_back how node) before = before
planning_after reopened before = unplanned
planning_after nothing before = before

abbrev pub planning_by : List Event → Planning
planning_by [] = unplanned
planning_by (e ∷ past) = planning_after (deed e) (planning_by past)

-- ---- slips
-- whether the node is out by the calls: as the latest accepted issue or hand back for it says; `before` is what the events before this one say
abbrev pub out_after : ℕ → Deed → Bool → Bool
out_after node (entered d) before = before
out_after node (withdrew number) before = before
out_after node (drew_by σ law) before = before
out_after node drew_best before = before
out_after node (issued other) before = cond (other == node) true before
out_after node (handed_back how other) before = cond (other == node) false before
out_after node reopened before = before
out_after node nothing before = before

abbrev pub out_by : ℕ → List Event → Bool
out_by node [] = false
out_by node (e ∷ past) = out_after node (deed e) (out_by node past)

-- the deed is a hand back for the node
abbrev pub Returns : ℕ → Deed → Type 0
Returns node (entered d) = ⊥
Returns node (withdrew number) = ⊥
Returns node (drew_by σ law) = ⊥
Returns node drew_best = ⊥
Returns node (issued other) = ⊥
Returns node (handed_back how other) = other ≡ node
Returns node reopened = ⊥
Returns node nothing = ⊥

-- none of the events is an accepted hand back for the node
abbrev pub Unreturned : ℕ → List Event → Type 0
Unreturned node [] = Unit {0}
Unreturned node (e ∷ past) = (Returns node (deed e) → ⊥) × Unreturned node past

-- whether a deed is an issue, a hand back as loaded, a hand back as returned
abbrev pub is_issue : Deed → Bool
is_issue (entered d) = false
is_issue (withdrew number) = false
is_issue (drew_by σ law) = false
is_issue drew_best = false
is_issue (issued node) = true
is_issue (handed_back how node) = false
is_issue reopened = false
is_issue nothing = false

abbrev pub same_outcome : Outcome → Outcome → Bool
same_outcome as_loaded as_loaded = true
same_outcome as_loaded as_returned = false
same_outcome as_returned as_loaded = false
same_outcome as_returned as_returned = true

abbrev pub is_hand_back : Outcome → Deed → Bool
is_hand_back how (entered d) = false
is_hand_back how (withdrew number) = false
is_hand_back how (drew_by σ law) = false
is_hand_back how drew_best = false
is_hand_back how (issued node) = false
is_hand_back how (handed_back other node) = same_outcome how other
is_hand_back how reopened = false
is_hand_back how nothing = false

-- how many slips were issued, and handed back in one of the two ways
abbrev pub issues_in : List Event → ℕ
issues_in past = count_of (λ e. is_issue (deed e)) past

abbrev pub hand_backs_in : Outcome → List Event → ℕ
hand_backs_in how past = count_of (λ e. is_hand_back how (deed e)) past
