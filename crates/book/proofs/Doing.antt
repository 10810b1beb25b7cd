-- A call that is accepted, and what the book keeps over it.
use Rattle.std.proofs.Common.{◌≡◌, ℕ, ◌+◌, ◌<◌, ◌≤◌, Bool, true, false, eqb, List, length, set, Err, Result, sym, refl, ap, ◌∙◌, subst, arith, length-set}
use Rattle.std.specs.List.{remove}
use Rattle.std.proofs.lemmas.Bool.{and_parts, le-ltb, not_from_true, cond-true}
use Rattle.refusals.specs.declared.Refusal.{Refusal}
use Rattle.refusals.specs.declared.Refusal.TheVariants.{Planned, Unplanned, TooFew}
use Rattle.ring.specs.Ring.{WithinLimits, within_limits, load, lower_bound_of, slot_count}
use Rattle.ring.specs.Sides.{per_link}
use Rattle.ring.specs.Cuts.{heaviest_cut}
use Rattle.ring.specs.declared.Demand.{Demand}
use Rattle.ring.specs.declared.Figures.{Figures}
use Rattle.ring.specs.declared.Row.{Row}
use Rattle.ring.proofs.Limits.{to_limits}
use Rattle.checkrows.specs.Track.{LineOf, line_at}
use Rattle.checkrows.proofs.Sheet.{line_number}
use Rattle.planwrite.specs.Texts.{file_text}
use Rattle.planwrite.specs.Fronts.{fronted, fronting}
use Rattle.booklaw.specs.declared.Card.{Card}
use Rattle.booklaw.specs.Books.{State, is_open, planned, without, card_of, is_out, outs, fits}
use Rattle.booklaw.specs.Calls.{Call, Answer, accepted, unless, answer, changed, settled, drawing_on}
use Rattle.booklaw.proofs.Passing.{numbered_within, removed_without, outs_off}
use Rattle.booklaw.proofs.AllCalls.{out_inside}
use Rattle.book.specs.declared.book.Book.{Book}
use Rattle.book.specs.declared.slips.Slip.{Slip}
use Rattle.book.specs.Does.{Does, state, demands_in}
use Rattle.book.specs.WriteOut.{plan_text, writing_out, written_out}

-- a call is accepted that passes its first check and all the later ones
pub passes : (b : Bool) (why : Refusal) (rest : Answer) → b ≡ false → rest ≡ accepted → unless b why rest ≡ accepted
passes b why rest e h = ap (λ t. unless t why rest) e ∙ h

-- the contract of a call that is accepted
pub does : (b b' : Book) (c : Call) → answer (state b) c ≡ accepted → state b' ≡ changed (state b) c → Does b c accepted b'
does b b' c e l = record { answers = sym e; leaves = l ∙ ap (λ r. settled r (state b) (changed (state b) c)) (sym e) }

-- an open book may be drawn on a sheet that is long enough
pub may_draw : (s : State) (marks : ℕ) → is_open s.drawing ≡ true → 1024 ≤ marks → drawing_on s marks ≡ accepted
may_draw s marks o long =
    passes _ Planned _ (not_from_true (is_open s.drawing) o) (passes _ (TooFew 1024) accepted (le-ltb marks 1024 long) refl)

-- what slotting asks for, of an open book
pub limits_of : (b : Book) (ds : List Demand) → ds ≡ demands_in b → WithinLimits b.size ds
limits_of b ds e = subst (WithinLimits b.size) (sym e) (to_limits b.size (demands_in b) b.limits)

-- the demands after the one with a number was removed at its place
pub removed_line : (n number k : ℕ) (ds : List Demand) → within_limits n ds ≡ true → LineOf ds number k → remove ds k ≡ without number ds
removed_line n number k ds within found =
    let at : k ≡ _ = found.place in
    removed_without number k ds (record { number = 0; lower = 0; upper = 0; units = 0 }) (numbered_within n ds within) found.inside
    (subst (λ j. (line_at ds j).number ≡ number) (sym at) (line_number ds number (subst (λ j. j < length ds) at found.inside)))

-- the card, from figures that are those of the rows
pub card_is : (n : ℕ) (ds there : List Demand) (rows : List Row) (figures : Figures) (card : Card) → there ≡ ds →
    figures.slots ≡ slot_count rows → figures.loads ≡ per_link n (load there rows) →
    card ≡ record { figures = figures; cut = heaviest_cut n there; lower_bound = lower_bound_of n there } → card ≡ card_of n ds rows
card_is n ds there rows figures card t s l e =
    let same : figures.loads ≡ per_link n (load ds rows) = l ∙ ap (λ d. per_link n (load d rows)) t in
    e ∙ (λ i. record { figures = record { slots = s i; loads = same i }; cut = heaviest_cut n (t i); lower_bound = lower_bound_of n (t i) })

-- ---- writing out
module _ (s : State) (old : List ℕ) (ds : List Demand) (rows : List Row) (is : planned s ≡ true) (p : ds ≡ s.demands) (q : rows ≡ s.rows) where
  -- what holds of the plan that was written holds of the book's
  pub same_plan : (P : List Demand → List Row → Type 0) → P ds rows → P s.demands s.rows
  same_plan P h = subst (P s.demands) q (subst (λ d. P d rows) p h)

  same_text : file_text s.number s.size ds rows (slot_count rows) ≡ plan_text s
  same_text = λ i. file_text s.number s.size (p i) (q i) (slot_count (q i))

  pub writes_out : (r : Result ℕ Refusal) → r ≡ fronting (file_text s.number s.size ds rows (slot_count rows)) old → r ≡ writing_out s old
  writes_out r e = e ∙ ap (λ t. fronting t old) same_text ∙ sym (cond-true (planned s) (fronting (plan_text s) old) (Err Unplanned) is)

  pub is_written : (new : List ℕ) → new ≡ fronted (file_text s.number s.size ds rows (slot_count rows)) old → new ≡ written_out s old
  is_written new e = e ∙ ap (λ t. fronted t old) same_text ∙ sym (cond-true (planned s) (fronted (plan_text s) old) old is)

-- ---- slips
module _ (b : Book) (slip : Slip) (known : fits (state b) slip.book slip.node ≡ true) where
  -- a slip that is known has its node marked
  marked : is_out b.out slip.node ≡ true
  marked = (and_parts (eqb slip.book b.number) (is_out b.out slip.node) known).1

  -- so there is a place for the node
  pub has_place : (s : Slip) → s ≡ slip → s.node < length b.out
  has_place s is = omega (arith, out_inside b.out slip.node marked, ap (λ (x : Slip). x.node) is)

  -- its mark is counted, so the counters have room for it
  pub room_back : b.counts.loaded + b.counts.returned + 1 ≤ b.counts.issued
  room_back = omega (arith, outs_off b.out slip.node marked, b.accounted)

  -- with its mark taken off, one node less is out
  pub cleared : (s : Slip) (out : List Bool) → s ≡ slip → out ≡ set b.out s.node false → (length out ≡ 17) × (outs out + 1 ≡ outs b.out)
  cleared s out is e =
      let off : out ≡ set b.out slip.node false = e ∙ ap (λ (x : Slip). set b.out x.node false) is in
      (ap length off ∙ length-set b.out slip.node false ∙ b.places, omega (arith, ap outs off, outs_off b.out slip.node marked))
