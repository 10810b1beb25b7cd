-- The fault of a plan file as the library's cause, and the line of the text that it is of.
use Rattle.std.specs.Prelude.{ℕ}
use Rattle.refusals.specs.declared.Refusal.{Refusal}
use Rattle.refusals.specs.declared.Refusal.TheVariants.{TooFew as Few, LineForm, FrameForm, FrameOrder, FiguresWrong}
use Rattle.frames.specs.declared.FrameFault.TheVariants.{Line, Form, Order, TooFew}
use Rattle.planfile.specs.declared.PlanFault.{PlanFault}
use Rattle.planfile.specs.declared.PlanFault.TheVariants.{OfFrame, Refused, Figures}

abbrev pub cause_of : PlanFault → Refusal
cause_of (OfFrame (Line e)) = LineForm e.line e.character
cause_of (OfFrame (Form line)) = FrameForm line
cause_of (OfFrame (Order line)) = FrameOrder line
cause_of (OfFrame (TooFew needed line)) = Few needed
cause_of (Refused line refusal) = refusal
cause_of (Figures line) = FiguresWrong line

abbrev pub line_of_fault : PlanFault → ℕ
line_of_fault (OfFrame (Line e)) = e.line
line_of_fault (OfFrame (Form line)) = line
line_of_fault (OfFrame (Order line)) = line
line_of_fault (OfFrame (TooFew needed line)) = line
line_of_fault (Refused line refusal) = line
line_of_fault (Figures line) = line
