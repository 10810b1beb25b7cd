-- The text of a plan.
use Rattle.std.specs.Prelude.{ℕ, ◌+◌, ◌*◌, ◌<◌, List, [], ◌∷◌, ◌++◌, map, length}
use Rattle.std.specs.List.{flat_map}
use Rattle.lines.specs.Lines.{line_text}
use Rattle.ring.specs.declared.Demand.{Demand}
use Rattle.ring.specs.declared.Row.{Row}
use Rattle.frames.specs.declared.Frame.{Frame}
use Rattle.frames.specs.declared.Frame.TheVariants.{RingFrame, DemandFrame, UnitFrame, EndFrame}
use Rattle.frames.specs.Frames.{frame_bytes}

-- a frame whose fields have the sizes that the form has room for
abbrev pub Sized : Frame → Type 0
Sized (RingFrame h) = (h.number < 65536) × (h.nodes < 256)
Sized (DemandFrame d) = (d.number < 65536) × (d.lower < 256) × (d.upper < 256) × (d.units < 256)
Sized (UnitFrame r) = (r.demand < 65536) × (r.side < 256) × (r.slot < 65536)
Sized (EndFrame t) = (t.demands < 65536) × (t.units < 65536) × (t.slots < 65536)

-- the frames of a plan, in the order of its file
abbrev pub plan_frames : ℕ → ℕ → List Demand → List Row → ℕ → List Frame
plan_frames number nodes demands rows slots =
    RingFrame (record { number = number; nodes = nodes })
    ∷ (map DemandFrame demands ++ (map UnitFrame rows ++ (EndFrame (record { demands = length demands; units = length rows; slots = slots }) ∷ [])))

-- the text of a frame: its line
abbrev pub frame_text : Frame → List ℕ
frame_text f = line_text (frame_bytes f)

-- the text of a plan: the lines of its frames
unfoldable pub file_text : ℕ → ℕ → List Demand → List Row → ℕ → List ℕ
file_text number nodes demands rows slots = flat_map frame_text (plan_frames number nodes demands rows slots)

-- how long the text is with so many demands and rows: 9 characters for the ring frame, 13 for each demand and each row, 15 for the end frame
abbrev pub file_length : ℕ → ℕ → ℕ
file_length demands rows = 24 + 13 * (demands + rows)
