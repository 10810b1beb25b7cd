-- What taking a plan file answers, with a sheet of so many marks.
use Rattle.std.specs.Prelude.{ℕ, ◌+◌, cond, ◌&&◌, List, Ok, Err, Result, ◌==◌}
use Rattle.refusals.specs.declared.Refusal.{Refusal}
use Rattle.ring.specs.declared.Demand.{Demand}
use Rattle.ring.specs.declared.Row.{Row}
use Rattle.frames.specs.declared.Contents.{Contents}
use Rattle.frames.specs.declared.FrameFault.{FrameFault}
use Rattle.frames.specs.Reading.{Reading, demands_in, rows_in}
use Rattle.ring.specs.declared.Figures.{Figures as PlanFigures}
use Rattle.checker.specs.Verdicts.{verdict}
use Rattle.planfile.specs.declared.PlanFault.{PlanFault}
use Rattle.planfile.specs.declared.PlanFault.TheVariants.{OfFrame, Refused, Figures}
use Rattle.planfile.specs.declared.Taken.{Taken}
use Rattle.planfile.specs.Places.{line_of}

-- the end frame's figures are compared after the check; the end frame stands on the line after the ring frame, the demands and the units
abbrev pub compared : Contents → PlanFigures → Result Taken PlanFault
compared p v =
    cond (p.totals.demands == p.demands && (p.totals.units == p.units && p.totals.slots == v.slots))
    (Ok (record { number = p.heading.number; nodes = p.heading.nodes; demands = p.demands; units = p.units; verdict = v }))
    (Err (Figures (2 + p.demands + p.units)))

-- by the checker's verdict, or its refusal with the line that it is of
abbrev pub verdict_in : Contents → Result PlanFigures Refusal → Result Taken PlanFault
verdict_in p (Ok v) = compared p v
verdict_in p (Err e) = Err (Refused (line_of p.demands e) e)

-- the demands and rows that were read are checked
abbrev pub judged : ℕ → Contents → List Demand → List Row → Result Taken PlanFault
judged marks p lines rows = verdict_in p (verdict p.heading.nodes lines rows marks)

-- a fault of the reading is held whole; else what was read is judged
abbrev pub settled : ℕ → List Demand → List Row → Result Contents FrameFault → Result Taken PlanFault
settled marks lines rows (Ok p) = judged marks p lines rows
settled marks lines rows (Err e) = Err (OfFrame e)

abbrev pub taking : ℕ → Reading → Result Taken PlanFault
taking marks r = settled marks (demands_in r.frames) (rows_in r.frames) r.outcome
