-- The text of a plan reads back.
use Rattle.std.proofs.Common.{◌≡◌, ℕ, suc, ◌+◌, ◌*◌, ◌/◌, ◌%◌, ◌<◌, ◌≤◌, ltb, List, [], ◌∷◌, ◌++◌, map, length, Ok, refl, ap, ◌∙◌, arith}
use Rattle.std.specs.List.{flat_map, AllByRecursion as Each}
use Rattle.std.proofs.lemmas.Bool.{lt-ltb, cond-true}
use Rattle.lines.specs.Lines.{lines_of, line_bytes}
use Rattle.lines.proofs.Back.{line_back, lines_text}
use Rattle.ring.specs.declared.Demand.{Demand}
use Rattle.ring.specs.declared.Row.{Row}
use Rattle.frames.specs.declared.Frame.{Frame}
use Rattle.frames.specs.declared.Frame.TheVariants.{RingFrame, DemandFrame, UnitFrame, EndFrame}
use Rattle.frames.specs.declared.State.{State}
use Rattle.frames.specs.declared.State.TheVariants.{Demands, Units, Done}
use Rattle.frames.specs.declared.Heading.{Heading}
use Rattle.frames.specs.declared.Totals.{Totals}
use Rattle.frames.specs.declared.Progress.{Progress}
use Rattle.frames.specs.declared.Contents.{Contents}
use Rattle.frames.specs.Frames.{frame_bytes, frame_of}
use Rattle.frames.specs.Reading.{frame_in, Reading, began, read_lines, fresh, reading, demands_in, rows_in}
use Rattle.frames.proofs.Steps.{read_one}
use Rattle.planwrite.specs.Texts.{Sized, plan_frames, frame_text, file_text}
use Rattle.planwrite.specs.Backs.{whole, ReadsBack}

-- a number of two bytes is its two bytes
two : (n : ℕ) → 256 * (n / 256) + n % 256 ≡ n
two n = omega arith

-- a frame is read back from its bytes
pub frame_back : (line : ℕ) (f : Frame) → frame_of line (frame_bytes f) ≡ Ok f
frame_back line (RingFrame h) = ap (λ n. Ok (RingFrame (record { number = n; nodes = h.nodes }))) (two h.number)
frame_back line (DemandFrame d) = ap (λ n. Ok (DemandFrame (record { number = n; lower = d.lower; upper = d.upper; units = d.units }))) (two d.number)
frame_back line (UnitFrame r) =
    ap (λ n. Ok (UnitFrame (record { demand = n; side = r.side; slot = 256 * (r.slot / 256) + r.slot % 256 }))) (two r.demand)
    ∙ ap (λ n. Ok (UnitFrame (record { demand = r.demand; side = r.side; slot = n }))) (two r.slot)
frame_back line (EndFrame t) =
    ap (λ n. Ok (EndFrame (record { demands = n; units = 256 * (t.units / 256) + t.units % 256; slots = 256 * (t.slots / 256) + t.slots % 256 }))) (two t.demands)
    ∙ ap (λ n. Ok (EndFrame (record { demands = t.demands; units = n; slots = 256 * (t.slots / 256) + t.slots % 256 }))) (two t.units)
    ∙ ap (λ n. Ok (EndFrame (record { demands = t.demands; units = t.units; slots = n }))) (two t.slots)

-- its bytes are bytes, and there are some
pub frame_small : (f : Frame) → Sized f → Each (λ b. b < 256) (frame_bytes f)
frame_small (RingFrame k) h = (omega arith, (omega arith, (omega arith, (h.1, tt))))
frame_small (DemandFrame d) h = (omega arith, (omega arith, (omega arith, (h.1, (h.2, (h.3, tt))))))
frame_small (UnitFrame r) h = (omega arith, (omega arith, (omega arith, (h.1, (omega arith, (omega arith, tt))))))
frame_small (EndFrame t) h = (omega arith, (omega arith, (omega arith, (omega arith, (omega arith, (omega arith, (omega arith, tt)))))))

pub frame_some : (f : Frame) → 0 < length (frame_bytes f)
frame_some (RingFrame h) = omega arith
frame_some (DemandFrame d) = omega arith
frame_some (UnitFrame r) = omega arith
frame_some (EndFrame t) = omega arith

-- a frame is read back from its line
pub in_back : (line : ℕ) (f : Frame) → Sized f → frame_in line (line_bytes line (frame_text f)) ≡ Ok f
in_back line f h = ap (frame_in line) (line_back line (frame_bytes f) (frame_small f h) (frame_some f)) ∙ frame_back line f

-- the lines of the text of frames are the texts of the frames
pub lines_frames : (fs : List Frame) → Each Sized fs → lines_of (flat_map frame_text fs) ≡ map frame_text fs
lines_frames [] h = refl
lines_frames (f ∷ fs) (h, hs) = lines_text (frame_bytes f) (flat_map frame_text fs) (frame_small f h) ∙ ap (λ ls. frame_text f ∷ ls) (lines_frames fs hs)

-- what the reader knows on its way, and at the end
abbrev pub standing : State → ℕ → ℕ → Progress
standing s ds us = record { state = s; demands = ds; units = us }

abbrev pub ended : Heading → ℕ → ℕ → Totals → Contents
ended h ds us t = record { heading = h; demands = ds; units = us; totals = t }

abbrev pub gave : List Frame → Contents → Reading
gave fs p = record { frames = fs; outcome = Ok p }

module _ (forDemands forUnits : ℕ) (g : Heading) (t : Totals) where
  -- from the units on
  pub read_units : (line ds us : ℕ) (rows : List Row) → Each Sized (map UnitFrame rows ++ (EndFrame t ∷ [])) → us + length rows ≤ forUnits → read_lines forDemands forUnits line (standing (Units g) ds us) (map frame_text (map UnitFrame rows ++ (EndFrame t ∷ []))) ≡ gave (map UnitFrame rows ++ (EndFrame t ∷ [])) (ended g ds (us + length rows) t)
  read_units line ds us [] (last, none) room =
      let z : us ≡ us + 0 = omega arith in
      read_one forDemands forUnits line (standing (Units g) ds us) (standing (Done g t) ds us) (EndFrame t) (frame_text (EndFrame t)) [] (in_back line (EndFrame t) last) refl
      ∙ ap (λ n. gave (EndFrame t ∷ []) (ended g ds n t)) z
  read_units line ds us (r ∷ rows) (h, hs) room =
      let z : (us + 1) + length rows ≡ us + suc (length rows) = omega arith in
      let more : us < forUnits = omega arith in
      let rest : us + 1 + length rows ≤ forUnits = omega arith in
      read_one forDemands forUnits line (standing (Units g) ds us) (standing (Units g) ds (us + 1)) (UnitFrame r) (frame_text (UnitFrame r)) (map frame_text (map UnitFrame rows ++ (EndFrame t ∷ []))) (in_back line (UnitFrame r) h) (cond-true (ltb us forUnits) _ _ (lt-ltb us forUnits more))
      ∙ ap (began (UnitFrame r)) (read_units (line + 1) ds (us + 1) rows hs rest)
      ∙ ap (λ n. gave (UnitFrame r ∷ (map UnitFrame rows ++ (EndFrame t ∷ []))) (ended g ds n t)) z

  pub read_first : (line ds : ℕ) (rows : List Row) → Each Sized (map UnitFrame rows ++ (EndFrame t ∷ [])) → length rows ≤ forUnits → read_lines forDemands forUnits line (standing (Demands g) ds 0) (map frame_text (map UnitFrame rows ++ (EndFrame t ∷ []))) ≡ gave (map UnitFrame rows ++ (EndFrame t ∷ [])) (ended g ds (length rows) t)
  read_first line ds [] (last, none) room =
      read_one forDemands forUnits line (standing (Demands g) ds 0) (standing (Done g t) ds 0) (EndFrame t) (frame_text (EndFrame t)) [] (in_back line (EndFrame t) last) refl
  read_first line ds (r ∷ rows) (h, hs) room =
      let z : 1 + length rows ≡ suc (length rows) = omega arith in
      let more : 0 < forUnits = omega arith in
      let rest : 1 + length rows ≤ forUnits = omega arith in
      read_one forDemands forUnits line (standing (Demands g) ds 0) (standing (Units g) ds 1) (UnitFrame r) (frame_text (UnitFrame r)) (map frame_text (map UnitFrame rows ++ (EndFrame t ∷ []))) (in_back line (UnitFrame r) h) (cond-true (ltb 0 forUnits) _ _ (lt-ltb 0 forUnits more))
      ∙ ap (began (UnitFrame r)) (read_units (line + 1) ds 1 rows hs rest)
      ∙ ap (λ n. gave (UnitFrame r ∷ (map UnitFrame rows ++ (EndFrame t ∷ []))) (ended g ds n t)) z

  -- from the demands on
  pub read_demands : (line ds : ℕ) (demands : List Demand) (rows : List Row) → Each Sized (map DemandFrame demands ++ (map UnitFrame rows ++ (EndFrame t ∷ []))) → ds + length demands ≤ forDemands → length rows ≤ forUnits → read_lines forDemands forUnits line (standing (Demands g) ds 0) (map frame_text (map DemandFrame demands ++ (map UnitFrame rows ++ (EndFrame t ∷ [])))) ≡ gave (map DemandFrame demands ++ (map UnitFrame rows ++ (EndFrame t ∷ []))) (ended g (ds + length demands) (length rows) t)
  read_demands line ds [] rows k room wide =
      let z : ds ≡ ds + 0 = omega arith in
      read_first line ds rows k wide ∙ ap (λ n. gave (map UnitFrame rows ++ (EndFrame t ∷ [])) (ended g n (length rows) t)) z
  read_demands line ds (d ∷ demands) rows (h, hs) room wide =
      let z : (ds + 1) + length demands ≡ ds + suc (length demands) = omega arith in
      let more : ds < forDemands = omega arith in
      let rest : ds + 1 + length demands ≤ forDemands = omega arith in
      read_one forDemands forUnits line (standing (Demands g) ds 0) (standing (Demands g) (ds + 1) 0) (DemandFrame d) (frame_text (DemandFrame d)) (map frame_text (map DemandFrame demands ++ (map UnitFrame rows ++ (EndFrame t ∷ [])))) (in_back line (DemandFrame d) h) (cond-true (ltb ds forDemands) _ _ (lt-ltb ds forDemands more))
      ∙ ap (began (DemandFrame d)) (read_demands (line + 1) (ds + 1) demands rows hs rest wide)
      ∙ ap (λ n. gave (DemandFrame d ∷ (map DemandFrame demands ++ (map UnitFrame rows ++ (EndFrame t ∷ [])))) (ended g n (length rows) t)) z

-- the demands and the rows among the frames of a plan
demands_units : (rows : List Row) (t : Totals) → demands_in (map UnitFrame rows ++ (EndFrame t ∷ [])) ≡ []
demands_units [] t = refl
demands_units (r ∷ rows) t = demands_units rows t

demands_back : (demands : List Demand) (rows : List Row) (t : Totals) → demands_in (map DemandFrame demands ++ (map UnitFrame rows ++ (EndFrame t ∷ []))) ≡ demands
demands_back [] rows t = demands_units rows t
demands_back (d ∷ demands) rows t = ap (λ ds. d ∷ ds) (demands_back demands rows t)

rows_units : (rows : List Row) (t : Totals) → rows_in (map UnitFrame rows ++ (EndFrame t ∷ [])) ≡ rows
rows_units [] t = refl
rows_units (r ∷ rows) t = ap (λ rs. r ∷ rs) (rows_units rows t)

rows_back : (demands : List Demand) (rows : List Row) (t : Totals) → rows_in (map DemandFrame demands ++ (map UnitFrame rows ++ (EndFrame t ∷ []))) ≡ rows
rows_back [] rows t = rows_units rows t
rows_back (d ∷ demands) rows t = rows_back demands rows t

-- the whole file
module _ (number nodes : ℕ) (demands : List Demand) (rows : List Row) (slots : ℕ) (sized : Each Sized (plan_frames number nodes demands rows slots)) where
  abbrev heading : Heading
  heading = record { number = number; nodes = nodes }

  abbrev totals : Totals
  totals = record { demands = length demands; units = length rows; slots = slots }

  pub file_read : (forDemands forUnits : ℕ) → length demands ≤ forDemands → length rows ≤ forUnits → reading forDemands forUnits (file_text number nodes demands rows slots) ≡ gave (plan_frames number nodes demands rows slots) (whole number nodes (length demands) (length rows) slots)
  unfolding file_text reading
  file_read forDemands forUnits l k =
      let z : 0 + length demands ≡ length demands = omega arith in
      let room : 0 + length demands ≤ forDemands = omega arith in
      ap (read_lines forDemands forUnits 1 fresh) (lines_frames (plan_frames number nodes demands rows slots) sized)
      ∙ read_one forDemands forUnits 1 fresh (standing (Demands heading) 0 0) (RingFrame heading) (frame_text (RingFrame heading)) (map frame_text (map DemandFrame demands ++ (map UnitFrame rows ++ (EndFrame totals ∷ [])))) (in_back 1 (RingFrame heading) sized.0) refl
      ∙ ap (began (RingFrame heading)) (read_demands forDemands forUnits heading totals 2 0 demands rows sized.1 room k)
      ∙ ap (λ n. gave (plan_frames number nodes demands rows slots) (ended heading n (length rows) totals)) z

  -- what is written reads back
  pub reads_back : ReadsBack number nodes demands rows slots (file_text number nodes demands rows slots)
  reads_back forDemands forUnits l k =
      let e = file_read forDemands forUnits l k in
      record {
        same_demands = ap (λ r. demands_in r.frames) e ∙ demands_back demands rows totals;
        same_rows = ap (λ r. rows_in r.frames) e ∙ rows_back demands rows totals;
        ends = ap (λ r. r.outcome) e;
      }
