-- The text of a plan written part by part: its length, and what the bytes hold.
use Rattle.std.proofs.Common.{◌≡◌, ℕ, ◌+◌, ◌*◌, ◌/◌, ◌%◌, ◌<◌, ◌≤◌, cond, leb, List, [], ◌∷◌, ◌++◌, map, length, get_or, take, drop, Ok, Err, sym, refl, ap, ◌∙◌, inl, inr, arith}
use Rattle.std.specs.List.{flat_map}
use Rattle.std.proofs.lemmas.Grind.{flat_map-append}
use Rattle.std.proofs.lemmas.List.{length-append, append_assoc, append-nil, take_all, take_at, map_more}
use Rattle.std.proofs.lemmas.Bool.{le-leb, leb-true, cases_Bool, cond-true, cond-false}
use Rattle.lines.specs.Writes.{overwrite}
use Rattle.lines.proofs.Writes.{over_append, over_is}
use Rattle.ring.specs.declared.Demand.{Demand}
use Rattle.ring.specs.declared.Row.{Row}
use Rattle.frames.specs.declared.Frame.{Frame}
use Rattle.frames.specs.declared.Frame.TheVariants.{RingFrame, DemandFrame, UnitFrame, EndFrame}
use Rattle.refusals.specs.declared.Refusal.{Refusal}
use Rattle.refusals.specs.declared.Refusal.TheVariants.{TooFew}
use Rattle.planwrite.specs.Fronts.{fronted, fronting}
use Rattle.planwrite.specs.Texts.{frame_text, plan_frames, file_text, file_length}

-- the high byte of a number of two bytes
pub high_byte : (n : ℕ) → n < 65536 → n / 256 % 256 ≡ n / 256
high_byte n h = omega arith

joined_one : (fs : List Frame) (f : Frame) → flat_map frame_text (fs ++ f ∷ []) ≡ flat_map frame_text fs ++ frame_text f
joined_one fs f = flat_map-append frame_text fs (f ∷ []) ∙ ap (λ t. flat_map frame_text fs ++ t) (append-nil (frame_text f))

-- how long the lines of demands, and of rows, are
length_each : {X : Type 0} (make : X → Frame) → ((x : X) → length (frame_text (make x)) ≡ 13) → (xs : List X) → length (flat_map frame_text (map make xs)) ≡ 13 * length xs
length_each make h [] = refl
length_each make h (x ∷ xs) = omega (arith, length-append (frame_text (make x)) (flat_map frame_text (map make xs)), h x, length_each make h xs)

pub length_file : (number nodes : ℕ) (demands : List Demand) (rows : List Row) (slots : ℕ) → length (file_text number nodes demands rows slots) ≡ file_length (length demands) (length rows)
unfolding file_text
length_file number nodes demands rows slots =
    let ring = frame_text (RingFrame (record { number = number; nodes = nodes })) in
    let end = EndFrame (record { demands = length demands; units = length rows; slots = slots }) in
    let ms = map DemandFrame demands in
    let us = map UnitFrame rows in
    omega (
      arith,
      length-append ring (flat_map frame_text (ms ++ (us ++ (end ∷ [])))),
      ap length (flat_map-append frame_text ms (us ++ (end ∷ []))),
      length-append (flat_map frame_text ms) (flat_map frame_text (us ++ (end ∷ []))),
      ap length (flat_map-append frame_text us (end ∷ [])),
      length-append (flat_map frame_text us) (flat_map frame_text (end ∷ [])),
      length_each DemandFrame (λ d. refl) demands,
      length_each UnitFrame (λ r. refl) rows,
    )

-- the frames of a plan as far as some demands, and as far as some rows
abbrev pub demands_so_far : ℕ → ℕ → List Demand → List Frame
demands_so_far number nodes demands = (RingFrame (record { number = number; nodes = nodes }) ∷ []) ++ map DemandFrame demands

abbrev pub rows_so_far : ℕ → ℕ → List Demand → List Row → List Frame
rows_so_far number nodes demands rows = demands_so_far number nodes demands ++ map UnitFrame rows

-- the frames of a plan, joined one part after another
abbrev pub joined : ℕ → ℕ → List Demand → List Row → ℕ → List Frame
joined number nodes demands rows slots =
    rows_so_far number nodes demands rows ++ (EndFrame (record { demands = length demands; units = length rows; slots = slots }) ∷ [])

pub joined_is : (number nodes : ℕ) (demands : List Demand) (rows : List Row) (slots : ℕ) → joined number nodes demands rows slots ≡ plan_frames number nodes demands rows slots
joined_is number nodes demands rows slots = append_assoc (RingFrame (record { number = number; nodes = nodes }) ∷ map DemandFrame demands) (map UnitFrame rows) _

pub joined_text : (number nodes : ℕ) (demands : List Demand) (rows : List Row) (slots : ℕ) → flat_map frame_text (joined number nodes demands rows slots) ≡ file_text number nodes demands rows slots
unfolding file_text
joined_text number nodes demands rows slots = ap (flat_map frame_text) (joined_is number nodes demands rows slots)

-- one more frame
pub over_more : (bytes : List ℕ) (fs : List Frame) (f : Frame) (b b' : List ℕ) (at : ℕ) → b ≡ overwrite bytes 0 (flat_map frame_text fs) → at ≡ length (flat_map frame_text fs) → b' ≡ overwrite b at (frame_text f) → b' ≡ overwrite bytes 0 (flat_map frame_text (fs ++ f ∷ []))
over_more bytes fs f b b' at e n k =
    let z : at ≡ 0 + length (flat_map frame_text fs) = omega arith in
    k ∙ ap (λ x. overwrite x at (frame_text f)) e ∙ ap (λ n. overwrite (overwrite bytes 0 (flat_map frame_text fs)) n (frame_text f)) z
    ∙ sym (over_append bytes 0 (flat_map frame_text fs) (frame_text f))
    ∙ ap (overwrite bytes 0) (sym (joined_one fs f))

pub length_more : (fs : List Frame) (f : Frame) (at next : ℕ) → at ≡ length (flat_map frame_text fs) → next ≡ at + length (frame_text f) → next ≡ length (flat_map frame_text (fs ++ f ∷ []))
length_more fs f at next e n = omega (arith, ap length (joined_one fs f), length-append (flat_map frame_text fs) (frame_text f))

-- one more of the frames that are made of the elements of a list, and all of them
module _ {X : Type 0} (front : List Frame) (make : X → Frame) (xs : List X) (i : ℕ) where
  pub so_far_more : (d : X) → i < length xs → (front ++ map make (take i xs)) ++ (make (get_or xs i d) ∷ []) ≡ front ++ map make (take (i + 1) xs)
  so_far_more d lt = append_assoc front (map make (take i xs)) (make (get_or xs i d) ∷ []) ∙ ap (λ fs. front ++ fs) (sym (map_more make xs i d lt))

  pub so_far_all : length xs ≤ i → front ++ map make (take i xs) ≡ front ++ map make xs
  so_far_all le = ap (λ ys. front ++ map make ys) (take_all i xs le)

-- the answer of writing a text, and what the bytes hold
module _ (text old : List ℕ) where
  pub room_is : (n : ℕ) → length text ≡ n → cond (leb n (length old)) (Ok n) (Err (TooFew n)) ≡ fronting text old
  room_is n long = ap (λ (k : ℕ). cond (leb k (length old)) (Ok k) (Err (TooFew k))) (sym long)

  pub refused_stays : (e : Refusal) → Err e ≡ fronting text old → old ≡ fronted text old
  refused_stays e h = elim (cases_Bool (leb (length text) (length old))) [
    | inl y ↦ (let k : Err e ≡ Ok (length text) = h ∙ cond-true (leb (length text) (length old)) (Ok (length text)) (Err (TooFew (length text))) y in
        let z : ◌≡◌ {A = ℕ} 0 1 = cc in absurd (omega arith))
    | inr n ↦ sym (cond-false (leb (length text) (length old)) (text ++ drop (length text) old) old n)
  ]

  pub answered_fits : (m : ℕ) → Ok m ≡ fronting text old → (length text ≤ length old) × (m ≡ length text)
  answered_fits m h = elim (cases_Bool (leb (length text) (length old))) [
    | inl y ↦ (let k : Ok m ≡ Ok (length text) = h ∙ cond-true (leb (length text) (length old)) (Ok (length text)) (Err (TooFew (length text))) y in (leb-true (length text) (length old) y, (cc)))
    | inr n ↦ (let k : Ok m ≡ Err (TooFew (length text)) = h ∙ cond-false (leb (length text) (length old)) (Ok (length text)) (Err (TooFew (length text))) n in
        let z : ◌≡◌ {A = ℕ} 0 1 = cc in absurd (omega arith))
  ]

  pub whole_front : (new : List ℕ) → length text ≤ length old → new ≡ overwrite old 0 text → new ≡ text ++ drop (length text) old
  whole_front new le e =
      let fits : 0 + length text ≤ length old = omega arith in
      let z : 0 + length text ≡ length text = omega arith in
      e ∙ over_is old 0 text fits ∙ ap (λ k. text ++ drop k old) z

  pub whole_written : (new : List ℕ) → length text ≤ length old → new ≡ overwrite old 0 text → new ≡ fronted text old
  whole_written new le e = whole_front new le e ∙ sym (cond-true (leb (length text) (length old)) (text ++ drop (length text) old) old (le-leb (length text) (length old) le))

  pub whole_taken : (new : List ℕ) (n : ℕ) → n ≡ length text → length text ≤ length old → new ≡ overwrite old 0 text → take n new ≡ text
  whole_taken new n long le e = ap (take n) (whole_front new le e) ∙ take_at text (drop (length text) old) n (sym long)
