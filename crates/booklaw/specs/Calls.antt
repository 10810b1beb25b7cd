-- The calls that change a book or hand out its rows: what each answers and what it leaves. A call has all that its checks look at.
use Rattle.std.specs.Prelude.{ℕ, ◌+◌, Bool, true, false, not, ◌&&◌, ◌||◌, List, [], ◌∷◌, ◌++◌, length, Ok, Err, Result, ◌==◌, nat_le, nat_lt, slice_set}
use Rattle.refusals.specs.declared.Refusal.{Refusal}
use Rattle.refusals.specs.declared.Refusal.TheVariants.{Planned, Unplanned, EndOutside, EndsFalling, UnitsOutside, NumberTaken, NumberUnknown, BookFull, UnitsPast, NodesOut, NodeOut, SlipsSpent, SlipUnknown, TooFew}
use Rattle.ring.specs.Ring.{named, units}
use Rattle.ring.specs.Sides.{Choice, Parallel, shut}
use Rattle.ring.specs.declared.Demand.{Demand}
use Rattle.ring.specs.declared.Row.{Row}
use Rattle.drawn.specs.Slotting.{drawn, best_link}
use Rattle.booklaw.specs.declared.Drawing.{Drawing}
use Rattle.booklaw.specs.declared.Drawing.TheVariants.{Open, ByRule, BestLink}
use Rattle.booklaw.specs.Books.{State, is_open, planned, is_node, demand_of, without, is_out, outs, fits, node_rows}

-- how a slip is handed back: its rows were loaded, or it is returned
pub data Outcome : Type 0 where
  as_loaded : Outcome
  as_returned : Outcome

-- A drawing by a rule brings the sides that the rule chooses and the proof of its law, so a call may bring any lawful rule. A drawing brings the length
-- of the caller's sheet, a reading the number of the caller's places for rows, and what is done with a slip the slip's book number and node.
pub data Call : Type 0 where
  Enter : (number a b units : ℕ) → Call
  Withdraw : (number : ℕ) → Call
  Plan : (σ : Choice) → Parallel σ → (marks : ℕ) → Call
  BestLinkPlan : (marks : ℕ) → Call
  Issue : (node : ℕ) → Call
  Read : (book node places : ℕ) → Call
  HandBack : (how : Outcome) (book node : ℕ) → Call
  Reopen : Call

pub data Answer : Type 0 where
  accepted : Answer
  refused : Refusal → Answer

-- what a call's result says of it: accepted or refused, and why
abbrev pub answered : {A : Type 0} → Result A Refusal → Answer
answered (Ok x) = accepted
answered (Err e) = refused e

-- the same where a refusal hands something back
abbrev pub answered_back : {A B : Type 0} → Result A (Refusal × B) → Answer
answered_back (Ok x) = accepted
answered_back (Err e) = refused e.0

-- ---- what is answered
-- refused for this reason if the test passes; else what the checks after it say
abbrev pub unless : Bool → Refusal → Answer → Answer
unless true why rest = refused why
unless false why rest = rest

-- a demand with these ends, in either order, to be added to these demands on the ring of n nodes. The place is 0 in every call on a book
abbrev pub entering : ℕ → List Demand → ℕ → ℕ → ℕ → ℕ → Answer
entering n ds number a b us =
    unless (not (is_node n a && is_node n b)) (EndOutside 0)
    (unless (a == b) (EndsFalling 0)
    (unless (not (nat_le 1 us && nat_le us 48)) (UnitsOutside 0)
    (unless (number == 0 || named ds number) (NumberTaken 0)
    (unless (nat_le 128 (length ds)) (BookFull 0)
    (unless (nat_lt 1024 (units ds + us)) (UnitsPast 0)
    accepted)))))

-- a plan to be drawn on a sheet of so many marks
abbrev pub drawing_on : State → ℕ → Answer
drawing_on s marks = unless (planned s) Planned (unless (nat_lt marks 1024) (TooFew 1024) accepted)

-- the rows of a node to be written to so many places
abbrev pub reading_into : ℕ → List Row → Answer
reading_into places rows = unless (nat_lt places (length rows)) (TooFew (length rows)) accepted

abbrev pub answer : State → Call → Answer
answer s (Enter number a b us) = unless (planned s) Planned (entering s.size s.demands number a b us)
answer s (Withdraw number) = unless (planned s) Planned (unless (not (named s.demands number)) NumberUnknown accepted)
answer s (Plan σ law marks) = drawing_on s marks
answer s (BestLinkPlan marks) = drawing_on s marks
answer s (Issue node) =
    unless (is_open s.drawing) Unplanned
    (unless (not (is_node s.size node)) (EndOutside 0)
    (unless (is_out s.out node) NodeOut
    (unless (nat_le 65535 s.issued) SlipsSpent
    accepted)))
answer s (Read book node places) = unless (not (fits s book node)) SlipUnknown (reading_into places (node_rows s.demands s.rows node))
answer s (HandBack how book node) = unless (not (fits s book node)) SlipUnknown accepted
answer s Reopen = unless (is_open s.drawing) Unplanned (unless (nat_lt 0 (outs s.out)) NodesOut accepted)

-- ---- what is left
abbrev pub with_demands : State → List Demand → State
with_demands s ds = record {
  size = s.size;
  number = s.number;
  demands = ds;
  drawing = s.drawing;
  rows = s.rows;
  out = s.out;
  issued = s.issued;
  loaded = s.loaded;
  returned = s.returned;
}

abbrev pub with_plan : State → Drawing → List Row → State
with_plan s d rows = record {
  size = s.size;
  number = s.number;
  demands = s.demands;
  drawing = d;
  rows = rows;
  out = s.out;
  issued = s.issued;
  loaded = s.loaded;
  returned = s.returned;
}

abbrev pub with_slips : State → List Bool → ℕ → ℕ → ℕ → State
with_slips s out issued loaded returned = record {
  size = s.size;
  number = s.number;
  demands = s.demands;
  drawing = s.drawing;
  rows = s.rows;
  out = out;
  issued = issued;
  loaded = loaded;
  returned = returned;
}

-- what an accepted call leaves
abbrev pub changed : State → Call → State
changed s (Enter number a b us) = with_demands s (s.demands ++ (demand_of number a b us ∷ []))
changed s (Withdraw number) = with_demands s (without number s.demands)
changed s (Plan σ law marks) = with_plan s ByRule (drawn s.size σ s.demands)
changed s (BestLinkPlan marks) = with_plan s (BestLink (best_link s.size s.demands)) (drawn s.size (shut (best_link s.size s.demands)) s.demands)
changed s (Issue node) = with_slips s (slice_set s.out node true) (s.issued + 1) s.loaded s.returned
changed s (Read book node places) = s
changed s (HandBack as_loaded book node) = with_slips s (slice_set s.out node false) s.issued (s.loaded + 1) s.returned
changed s (HandBack as_returned book node) = with_slips s (slice_set s.out node false) s.issued s.loaded (s.returned + 1)
changed s Reopen = with_plan s Open []

-- a refused call leaves all as it was
abbrev pub settled : Answer → State → State → State
settled accepted old new = new
settled (refused why) old new = old

abbrev pub after : State → Call → State
after s c = settled (answer s c) s (changed s c)
