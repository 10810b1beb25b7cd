-- The law of a book: what holds after each of any list of calls on a fresh one. A rival is any plan for the same demands, routed and slotted anyhow.
use Rattle.std.specs.Prelude.{◌≡◌, ℕ, ◌+◌, ◌≤◌, List, [], ◌∷◌}
use Rattle.ring.specs.Sides.{shut}
use Rattle.ring.specs.declared.Demand.{Demand}
use Rattle.ring.specs.declared.Row.{Row}
use Rattle.drawn.specs.Slotting.{drawn, best_link}
use Rattle.drawn.specs.Claims.{WellDrawn, BestDrawn}
use Rattle.booklaw.specs.declared.Drawing.{Drawing}
use Rattle.booklaw.specs.declared.Drawing.TheVariants.{Open, ByRule, BestLink}
use Rattle.booklaw.specs.Books.{State, fresh, is_out, outs}
use Rattle.booklaw.specs.Calls.{Call, Issue, as_loaded, as_returned, accepted, answer, after}
use Rattle.booklaw.specs.Histories.{Event, demands_by, Planning, unplanned, by_rule, by_best, planning_by, out_by, Unreturned, issues_in, hand_backs_in}

-- What a book holds where it is planned so by the calls, for these demands:
--   nothing, if it is unplanned;
--   after a drawing by a rule, the rows that slotting gives by that rule: a plan with no more slots than the heaviest cut's total, and at most twice
--   those of every rival (`WellDrawn`);
--   after a best-link plan, the rows that slotting gives with the best link shut: all that, and no more slots than every rival has together with that rival's
--   load on any one link, its least loaded one too (`BestDrawn`).
abbrev pub Holds : Planning → ℕ → List Demand → Drawing → List Row → Type 0
Holds unplanned n ds d rows = (d ≡ Open) × (rows ≡ [])
Holds (by_rule σ law) n ds d rows = (d ≡ ByRule) × (rows ≡ drawn n σ ds) × WellDrawn n ds rows
Holds by_best n ds d rows = (d ≡ BestLink (best_link n ds)) × (rows ≡ drawn n (shut (best_link n ds)) ds) × BestDrawn n ds (best_link n ds) rows

-- What holds of a book of this size and number with this history.
pub record Law (size number : ℕ) (past : List Event) (s : State) : Type 0 where
  -- it is still the book that was started
  pub same_size : s.size ≡ size
  pub same_number : s.number ≡ number
  -- its demands are those by the calls
  pub demands_by_calls : s.demands ≡ demands_by past
  -- its plan is the one by the calls, for the demands by the calls
  pub plan_by_calls : Holds (planning_by past) size (demands_by past) s.drawing s.rows
  -- the nodes that it has marked out are those by the calls
  pub out_by_calls : (node : ℕ) → is_out s.out node ≡ out_by node past
  -- its counters count the accepted calls, and every slip is accounted for
  pub issued_by_calls : s.issued ≡ issues_in past
  pub loaded_by_calls : s.loaded ≡ hand_backs_in as_loaded past
  pub returned_by_calls : s.returned ≡ hand_backs_in as_returned past
  pub accounted : s.issued ≡ s.loaded + s.returned + outs s.out

-- ---- lists of calls, the latest first, from a state
-- what the calls leave
abbrev pub final : State → List Call → State
final s [] = s
final s (c ∷ earlier) = after (final s earlier) c

-- what the calls answer
abbrev pub history : State → List Call → List Event
history s [] = []
history s (c ∷ earlier) = record { call = c; got = answer (final s earlier) c } ∷ history s earlier

-- THE LAW over every list of calls on a fresh book of any ring size and number
abbrev pub EveryListIsLawful : Type 0
EveryListIsLawful = (size number : ℕ) → 3 ≤ size → size ≤ 16 → (made : List Call) →
    Law size number (history (fresh size number) made) (final (fresh size number) made)

-- From an accepted issue on, until a hand back for its node is accepted, the book holds the same rows in the same order, and the same demands: `earlier` are the
-- calls before the issue, `later` those since.
abbrev pub RowsStayWhileOut : Type 0
RowsStayWhileOut = (size number : ℕ) → 3 ≤ size → size ≤ 16 → (earlier later : List Call) (node : ℕ) →
    let before = final (fresh size number) earlier in
    answer before (Issue node) ≡ accepted → Unreturned node (history (after before (Issue node)) later) →
    ((final (after before (Issue node)) later).rows ≡ before.rows) × ((final (after before (Issue node)) later).demands ≡ before.demands)
