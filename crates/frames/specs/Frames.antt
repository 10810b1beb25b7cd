-- The frames of a plan file: their bytes, and the order in which they may come.
use Rattle.std.specs.Prelude.{ℕ, ◌+◌, ◌*◌, ◌/◌, ◌%◌, Bool, cond, ◌&&◌, List, [], ◌∷◌, length, Some, None, Ok, Err, Option, Result, ◌==◌, slice_index}
use Rattle.frames.specs.declared.Frame.{Frame}
use Rattle.frames.specs.declared.Frame.TheVariants.{RingFrame, DemandFrame, UnitFrame, EndFrame}
use Rattle.frames.specs.declared.FrameFault.{FrameFault}
use Rattle.frames.specs.declared.FrameFault.TheVariants.{Form}
use Rattle.frames.specs.declared.State.{State}
use Rattle.frames.specs.declared.State.TheVariants.{Start, Demands, Units, Done}

-- the bytes of a frame: its kind, then its fields; a number of two bytes has its high byte first
abbrev pub frame_bytes : Frame → List ℕ
frame_bytes (RingFrame h) = 1 ∷ h.number / 256 ∷ h.number % 256 ∷ h.nodes ∷ []
frame_bytes (DemandFrame d) = 2 ∷ d.number / 256 ∷ d.number % 256 ∷ d.lower ∷ d.upper ∷ d.units ∷ []
frame_bytes (UnitFrame r) = 3 ∷ r.demand / 256 ∷ r.demand % 256 ∷ r.side ∷ r.slot / 256 ∷ r.slot % 256 ∷ []
frame_bytes (EndFrame t) = 4 ∷ t.demands / 256 ∷ t.demands % 256 ∷ t.units / 256 ∷ t.units % 256 ∷ t.slots / 256 ∷ t.slots % 256 ∷ []

-- the number of two bytes, from a place on
abbrev pub wide : List ℕ → ℕ → ℕ
wide bytes at = 256 * slice_index bytes at + slice_index bytes (at + 1)

-- whether bytes are a frame of a kind, which has a length of its own
abbrev pub is_frame : ℕ → ℕ → List ℕ → Bool
is_frame kind size bytes = length bytes == size && slice_index bytes 0 == kind

-- the frame that the bytes of a line are: an unknown kind and another length are refused with the line
abbrev pub frame_of : ℕ → List ℕ → Result Frame FrameFault
frame_of line bytes =
    cond (is_frame 1 4 bytes) (Ok (RingFrame (record { number = wide bytes 1; nodes = slice_index bytes 3 })))
    (cond (is_frame 2 6 bytes) (Ok (DemandFrame (record { number = wide bytes 1; lower = slice_index bytes 3; upper = slice_index bytes 4; units = slice_index bytes 5 })))
    (cond (is_frame 3 6 bytes) (Ok (UnitFrame (record { demand = wide bytes 1; side = slice_index bytes 3; slot = wide bytes 4 })))
    (cond (is_frame 4 7 bytes) (Ok (EndFrame (record { demands = wide bytes 1; units = wide bytes 3; slots = wide bytes 5 })))
    (Err (Form line)))))

-- the state after a frame, with what the ring frame and the end frame said, or none where the frame may not come there: a ring frame, demand
-- frames, unit frames, an end frame
abbrev pub after : State → Frame → Option State
after Start (RingFrame h) = Some (Demands h)
after Start (DemandFrame _) = None
after Start (UnitFrame _) = None
after Start (EndFrame _) = None
after (Demands h) (RingFrame _) = None
after (Demands h) (DemandFrame _) = Some (Demands h)
after (Demands h) (UnitFrame _) = Some (Units h)
after (Demands h) (EndFrame t) = Some (Done h t)
after (Units h) (RingFrame _) = None
after (Units h) (DemandFrame _) = None
after (Units h) (UnitFrame _) = Some (Units h)
after (Units h) (EndFrame t) = Some (Done h t)
after (Done h t) (RingFrame _) = None
after (Done h t) (DemandFrame _) = None
after (Done h t) (UnitFrame _) = None
after (Done h t) (EndFrame _) = None
