-- What reading a plan file gives, with so many places for demands and so many for units. Lines are numbered from 1.
use Rattle.std.specs.Prelude.{◌≡◌, ℕ, ◌+◌, ◌≤◌, cond, List, [], ◌∷◌, length, Some, None, Ok, Err, Option, Result, nat_lt}
use Rattle.lines.specs.declared.LineFault.{LineFault}
use Rattle.lines.specs.Lines.{lines_of, line_bytes}
use Rattle.ring.specs.declared.Demand.{Demand}
use Rattle.ring.specs.declared.Row.{Row}
use Rattle.frames.specs.declared.Frame.{Frame}
use Rattle.frames.specs.declared.Frame.TheVariants.{RingFrame, DemandFrame, UnitFrame, EndFrame}
use Rattle.frames.specs.declared.FrameFault.{FrameFault}
use Rattle.frames.specs.declared.FrameFault.TheVariants.{Line, Order, TooFew}
use Rattle.frames.specs.declared.State.{State}
use Rattle.frames.specs.declared.State.TheVariants.{Start, Demands, Units, Done}
use Rattle.frames.specs.declared.Progress.{Progress}
use Rattle.frames.specs.declared.Contents.{Contents}
use Rattle.frames.specs.Frames.{frame_of, after}

-- ---- one line
-- the frame of the line with a number: a fault of the line is held whole
abbrev pub frame_in : ℕ → Result (List ℕ) LineFault → Result Frame FrameFault
frame_in line (Ok bytes) = frame_of line bytes
frame_in line (Err e) = Err (Line e)

-- what the reader knows after a frame, in the state that follows
abbrev pub noted : Progress → State → Frame → Progress
noted p s (RingFrame h) = record { state = s; demands = p.demands; units = p.units }
noted p s (DemandFrame d) = record { state = s; demands = p.demands + 1; units = p.units }
noted p s (UnitFrame r) = record { state = s; demands = p.demands; units = p.units + 1 }
noted p s (EndFrame t) = record { state = s; demands = p.demands; units = p.units }

-- a demand or a unit wants a place: where the caller has too few, the count needed is the frame's place among its kind
abbrev pub placed : ℕ → ℕ → ℕ → Progress → State → Frame → Result Progress FrameFault
placed forDemands forUnits line p s (RingFrame h) = Ok (noted p s (RingFrame h))
placed forDemands forUnits line p s (DemandFrame d) = cond (nat_lt p.demands forDemands) (Ok (noted p s (DemandFrame d))) (Err (TooFew (p.demands + 1) line))
placed forDemands forUnits line p s (UnitFrame r) = cond (nat_lt p.units forUnits) (Ok (noted p s (UnitFrame r))) (Err (TooFew (p.units + 1) line))
placed forDemands forUnits line p s (EndFrame t) = Ok (noted p s (EndFrame t))

-- a frame is taken if it may come in this state and has a place
abbrev pub allowed : ℕ → ℕ → ℕ → Progress → Frame → Option State → Result Progress FrameFault
allowed forDemands forUnits line p f None = Err (Order line)
allowed forDemands forUnits line p f (Some s) = placed forDemands forUnits line p s f

abbrev pub taken : ℕ → ℕ → ℕ → Progress → Frame → Result Progress FrameFault
taken forDemands forUnits line p f = allowed forDemands forUnits line p f (after p.state f)

-- the frames that a step took: its frame, or none
abbrev pub took : Frame → Result Progress FrameFault → List Frame
took f (Ok q) = f ∷ []
took f (Err e) = []

-- ---- a file
-- a text may end after its end frame; else it stops early, on the line after its last
abbrev pub stopped : ℕ → Progress → State → Result Contents FrameFault
stopped line p Start = Err (Order line)
stopped line p (Demands h) = Err (Order line)
stopped line p (Units h) = Err (Order line)
stopped line p (Done h t) = Ok (record { heading = h; demands = p.demands; units = p.units; totals = t })

-- what reading gives: the frames that were taken, and what the whole file says, or the first fault
pub record Reading : Type 0 where
  pub frames : List Frame
  pub outcome : Result Contents FrameFault

-- nothing is taken from here on
abbrev pub refused : FrameFault → Reading
refused e = record { frames = []; outcome = Err e }

-- a frame is taken, and then what follows it
abbrev pub began : Frame → Reading → Reading
began f r = record { frames = f ∷ r.frames; outcome = r.outcome }

-- the lines are read in order, the first of them with this number, until the text ends or a line has a fault
abbrev pub read_lines : ℕ → ℕ → ℕ → Progress → List (List ℕ) → Reading
read_lines forDemands forUnits line p [] = record { frames = []; outcome = stopped line p p.state }
read_lines forDemands forUnits line p (l ∷ ls) =
    elim (frame_in line (line_bytes line l)) [
      | Ok f ↦ elim (taken forDemands forUnits line p f) [ Ok q ↦ began f (read_lines forDemands forUnits (line + 1) q ls) | Err e ↦ refused e ]
      | Err e ↦ refused e
    ]

-- what is known before the first line
abbrev pub fresh : Progress
fresh = record { state = Start; demands = 0; units = 0 }

-- the reading of a text, with so many places for demands and for units
unfoldable pub reading : ℕ → ℕ → List ℕ → Reading
reading forDemands forUnits text = read_lines forDemands forUnits 1 fresh (lines_of text)

-- the demands, and the rows, among frames
abbrev pub demands_in : List Frame → List Demand
demands_in [] = []
demands_in (RingFrame h ∷ fs) = demands_in fs
demands_in (DemandFrame d ∷ fs) = d ∷ demands_in fs
demands_in (UnitFrame r ∷ fs) = demands_in fs
demands_in (EndFrame t ∷ fs) = demands_in fs

abbrev pub rows_in : List Frame → List Row
rows_in [] = []
rows_in (RingFrame h ∷ fs) = rows_in fs
rows_in (DemandFrame d ∷ fs) = rows_in fs
rows_in (UnitFrame r ∷ fs) = r ∷ rows_in fs
rows_in (EndFrame t ∷ fs) = rows_in fs

-- the counts at the end of a file are those of the frames that were taken, and all had places
pub record Counts (forDemands forUnits : ℕ) (fs : List Frame) (q : Contents) : Type 0 where
  pub demands : q.demands ≡ length (demands_in fs)
  pub units : q.units ≡ length (rows_in fs)
  pub demands_fit : q.demands ≤ forDemands
  pub units_fit : q.units ≤ forUnits
