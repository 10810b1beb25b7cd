-- What a drawing answers.
use Rattle.std.specs.Prelude.{◌≡◌, ℕ, ◌<◌, ◌≤◌, List, Result, MatchResult}
use Rattle.refusals.specs.declared.Refusal.{Refusal}
use Rattle.refusals.specs.declared.Refusal.TheVariants.{TooFew}
use Rattle.ring.specs.Ring.{load, slot_count}
use Rattle.ring.specs.Sides.{shut, per_link}
use Rattle.ring.specs.declared.Demand.{Demand}
use Rattle.ring.specs.declared.Row.{Row}
use Rattle.ring.specs.declared.choosing.Best.{Best}
use Rattle.drawn.specs.Slotting.{drawn, slots_shut}
use Rattle.ring.specs.declared.Figures.{Figures}
use Rattle.slotting.specs.declared.BestLink.{BestLink}

-- It was drawn: the sheet has 1,024 marks or more, the rows are what was to be drawn, and the figures are those of the rows.
pub record Drew (n : ℕ) (ds : List Demand) (marks : ℕ) (rows what : List Row) (slots : ℕ) (loads : List ℕ) : Type 0 where
  pub long : 1024 ≤ marks
  pub rows_are : rows ≡ what
  pub slots_are : slots ≡ slot_count rows
  -- the load of a link is the number of rows over it
  pub loads_are : loads ≡ per_link n (load ds rows)

-- It was refused: the sheet has fewer marks, and the rows are as they were.
pub record Refused (why : Refusal) (marks : ℕ) (rows before : List Row) : Type 0 where
  pub why_is : why ≡ TooFew 1024
  pub short : marks < 1024
  pub same : rows ≡ before

-- What a call answers that was to draw the rows `what`, where the sheet has so many marks and the rows were `before`.
abbrev pub Draws : ℕ → List Demand → List Row → ℕ → List Row → List Row → Result Figures Refusal → Type 0
Draws n ds what marks before rows r = MatchResult r (λ s. Drew n ds marks rows what s.slots s.loads) (λ e. Refused e marks rows before)

-- The same of a call that was to draw with a link shut, and to name the link.
abbrev pub DrawsShut : ℕ → List Demand → ℕ → ℕ → List Row → List Row → Result BestLink Refusal → Type 0
DrawsShut n ds link marks before rows r =
    MatchResult r (λ b. (b.link ≡ link) × Drew n ds marks rows (drawn n (shut link) ds) b.figures.slots b.figures.loads) (λ e. Refused e marks rows before)

-- ---- trials of links
-- They were tried: the sheet has 1,024 marks or more, and the link is the wanted one.
pub record Tried (marks link wanted : ℕ) : Type 0 where
  pub long : 1024 ≤ marks
  pub link_is : link ≡ wanted

abbrev pub Tries : ℕ → ℕ → List Row → List Row → Result ℕ Refusal → Type 0
Tries wanted marks before rows r = MatchResult r (λ k. Tried marks k wanted) (λ e. Refused e marks rows before)

-- a link with the slot count of what is drawn with it shut
abbrev pub trial : ℕ → List Demand → ℕ → Best ℕ ℕ
trial n ds e = record { candidate = e; measure = slots_shut n ds e }
