-- What each line that is read does, and what the places hold then.
use Rattle.std.proofs.Common.{◌≡◌, ℕ, ◌+◌, ◌/◌, ◌<◌, ◌≤◌, Bool, true, false, cond, eqb, ltb, ◌⊎◌, List, [], ◌∷◌, ◌++◌, length, get_or, take, drop, IfOk, Some, None, Ok, Err, Option, Result, sym, refl, ap, ◌∙◌, subst, inl, inr, arith}
use Rattle.std.proofs.lemmas.List.{take_at, nil_from_length, length-append}
use Rattle.std.proofs.lemmas.Bool.{ne_eqb, and_left, cond-true, cond-false, ltb-true}
use Rattle.lines.specs.Hex.{bytes_of}
use Rattle.lines.specs.Writes.{overwrite}
use Rattle.lines.proofs.Writes.{over_is, over_append, length_bytes_of}
use Rattle.frames.specs.declared.Frame.{Frame}
use Rattle.frames.specs.declared.FrameFault.{FrameFault}
use Rattle.frames.specs.declared.FrameFault.TheVariants.{Line, Form, Order, TooFew}
use Rattle.lines.specs.Lines.{lines_of, line_length, digits, well_formed, fault_of, line_bytes}
use Rattle.lines.proofs.First.{lines_first, bytes_first, rest_first}
use Rattle.ring.specs.declared.Demand.{Demand}
use Rattle.ring.specs.declared.Row.{Row}
use Rattle.frames.specs.declared.Frame.TheVariants.{RingFrame, DemandFrame, UnitFrame, EndFrame}
use Rattle.frames.specs.declared.State.{State}
use Rattle.frames.specs.declared.State.TheVariants.{Start, Demands, Units, Done}
use Rattle.frames.specs.declared.Progress.{Progress}
use Rattle.frames.specs.declared.Contents.{Contents}
use Rattle.frames.specs.Frames.{frame_of, is_frame, after}
use Rattle.frames.specs.Reading.{frame_in, noted, placed, allowed, taken, stopped, Reading, refused, began, read_lines, fresh, reading, demands_in, rows_in, Counts}

-- one line read
module _ (forDemands forUnits : ℕ) where
  pub read_one : (line : ℕ) (p q : Progress) (f : Frame) (l : List ℕ) (ls : List (List ℕ)) → frame_in line (line_bytes line l) ≡ Ok f → taken forDemands forUnits line p f ≡ Ok q → read_lines forDemands forUnits line p (l ∷ ls) ≡ began f (read_lines forDemands forUnits (line + 1) q ls)
  read_one line p q f l ls e t =
      ap (λ r. elim r [ Ok f ↦ elim (taken forDemands forUnits line p f) [ Ok q ↦ began f (read_lines forDemands forUnits (line + 1) q ls) | Err e ↦ refused e ] | Err e ↦ refused e ]) e
      ∙ ap (λ r. elim r [ Ok q ↦ began f (read_lines forDemands forUnits (line + 1) q ls) | Err e ↦ refused e ]) t

-- bytes of another length are no frame of a kind
other_length : (kind size : ℕ) (bytes : List ℕ) → (length bytes ≡ size → ⊥) → is_frame kind size bytes ≡ false
other_length kind size bytes h = and_left (eqb (length bytes) size) (eqb (get_or bytes 0 0) kind) (ne_eqb (length bytes) size h)

-- more than seven bytes are no frame
pub long_form : (line : ℕ) (bytes : List ℕ) → 7 < length bytes → Err (Form line) ≡ frame_of line bytes
long_form line bytes h =
    sym (cond-false (is_frame 1 4 bytes) _ _ (other_length 1 4 bytes (λ e. omega arith))
    ∙ cond-false (is_frame 2 6 bytes) _ _ (other_length 2 6 bytes (λ e. omega arith))
    ∙ cond-false (is_frame 3 6 bytes) _ _ (other_length 3 6 bytes (λ e. omega arith))
    ∙ cond-false (is_frame 4 7 bytes) _ _ (other_length 4 7 bytes (λ e. omega arith)))

-- the front of the places is what was written to them
pub front_is : (old ds : List ℕ) → length ds / 2 ≤ length old → take (length ds / 2) (overwrite old 0 (bytes_of ds)) ≡ bytes_of ds
front_is old ds h =
    let n : length (bytes_of ds) ≡ length ds / 2 = length_bytes_of ds in
    let fits : 0 + length (bytes_of ds) ≤ length old = omega arith in
    ap (take (length ds / 2)) (over_is old 0 (bytes_of ds) fits) ∙ take_at (bytes_of ds) (drop (0 + length (bytes_of ds)) old) (length ds / 2) n

-- a frame's demand, and its row, come before those of the frames after it
demands_cons : (f : Frame) (fs : List Frame) → demands_in (f ∷ fs) ≡ demands_in (f ∷ []) ++ demands_in fs
demands_cons (RingFrame h₀) fs = refl
demands_cons (DemandFrame d) fs = refl
demands_cons (UnitFrame r) fs = refl
demands_cons (EndFrame t₀) fs = refl

rows_cons : (f : Frame) (fs : List Frame) → rows_in (f ∷ fs) ≡ rows_in (f ∷ []) ++ rows_in fs
rows_cons (RingFrame h₀) fs = refl
rows_cons (DemandFrame d) fs = refl
rows_cons (UnitFrame r) fs = refl
rows_cons (EndFrame t₀) fs = refl

-- what a frame that was taken does to the counts
pub record Counted (forDemands forUnits : ℕ) (p : Progress) (f : Frame) (q : Progress) : Type 0 where
  pub demands : q.demands ≡ p.demands + length (demands_in (f ∷ []))
  pub units : q.units ≡ p.units + length (rows_in (f ∷ []))
  pub demands_fit : p.demands ≤ forDemands → q.demands ≤ forDemands
  pub units_fit : p.units ≤ forUnits → q.units ≤ forUnits

counted_noted : (forDemands forUnits : ℕ) (p q : Progress) (s : State) (f : Frame) → noted p s f ≡ q → (0 < length (demands_in (f ∷ [])) → p.demands < forDemands) → (0 < length (rows_in (f ∷ [])) → p.units < forUnits) → Counted forDemands forUnits p f q
counted_noted D R p q s (RingFrame h₀) e h k =
    let a = ap (λ (x : Progress). x.demands) e in
    let b = ap (λ (x : Progress). x.units) e in
    record { demands = omega arith; units = omega arith; demands_fit = λ l. omega arith; units_fit = λ l. omega arith }
counted_noted D R p q s (DemandFrame d) e h k =
    let a = ap (λ (x : Progress). x.demands) e in
    let b = ap (λ (x : Progress). x.units) e in
    let lt : p.demands < D = h (omega arith) in
    record { demands = omega arith; units = omega arith; demands_fit = λ l. omega arith; units_fit = λ l. omega arith }
counted_noted D R p q s (UnitFrame r) e h k =
    let a = ap (λ (x : Progress). x.demands) e in
    let b = ap (λ (x : Progress). x.units) e in
    let lt : p.units < R = k (omega arith) in
    record { demands = omega arith; units = omega arith; demands_fit = λ l. omega arith; units_fit = λ l. omega arith }
counted_noted D R p q s (EndFrame t₀) e h k =
    let a = ap (λ (x : Progress). x.demands) e in
    let b = ap (λ (x : Progress). x.units) e in
    record { demands = omega arith; units = omega arith; demands_fit = λ l. omega arith; units_fit = λ l. omega arith }

-- a test that lets an answer through
through : (b : Bool) (x q : Progress) (e : FrameFault) → cond b (Ok x) (Err e) ≡ Ok q → (b ≡ true) × (x ≡ q)
through true x q e h = (refl, (cc))
through false x q e h = let z : ◌≡◌ {A = ℕ} 0 1 = cc in absurd (omega arith)

counted_placed : (D R line : ℕ) (p q : Progress) (s : State) (f : Frame) → placed D R line p s f ≡ Ok q → Counted D R p f q
counted_placed D R line p q s (RingFrame h₀) e = counted_noted D R p q s (RingFrame h₀) (cc) (λ l. omega arith) (λ l. omega arith)
counted_placed D R line p q s (DemandFrame d) e =
    let t = through (ltb p.demands D) (noted p s (DemandFrame d)) q (TooFew (p.demands + 1) line) e in
    counted_noted D R p q s (DemandFrame d) t.1 (λ l. ltb-true p.demands D t.0) (λ l. omega arith)
counted_placed D R line p q s (UnitFrame r) e =
    let t = through (ltb p.units R) (noted p s (UnitFrame r)) q (TooFew (p.units + 1) line) e in
    counted_noted D R p q s (UnitFrame r) t.1 (λ l. omega arith) (λ l. ltb-true p.units R t.0)
counted_placed D R line p q s (EndFrame t₀) e = counted_noted D R p q s (EndFrame t₀) (cc) (λ l. omega arith) (λ l. omega arith)

counted_allowed : (D R line : ℕ) (p q : Progress) (f : Frame) (o : Option State) → allowed D R line p f o ≡ Ok q → Counted D R p f q
counted_allowed D R line p q f None e = let z : ◌≡◌ {A = ℕ} 0 1 = cc in absurd (omega arith)
counted_allowed D R line p q f (Some s) e = counted_placed D R line p q s f e

-- what is left to read
pub record Left (D R : ℕ) (text : List ℕ) (demands₀ : List Demand) (rows₀ : List Row) (rest : List ℕ) (line : ℕ) (p : Progress) (ds : List Demand) (rs : List Row) : Type 0 where
  pub outcome : (read_lines D R line p (lines_of rest)).outcome ≡ (reading D R text).outcome
  pub demands : overwrite ds p.demands (demands_in (read_lines D R line p (lines_of rest)).frames) ≡ overwrite demands₀ 0 (demands_in (reading D R text).frames)
  pub rows : overwrite rs p.units (rows_in (read_lines D R line p (lines_of rest)).frames) ≡ overwrite rows₀ 0 (rows_in (reading D R text).frames)
  pub demands_fit : p.demands ≤ D
  pub units_fit : p.units ≤ R
  pub lines_fit : line + length rest ≤ length text + 1

module _ (D R : ℕ) (text : List ℕ) (demands₀ : List Demand) (rows₀ : List Row) where
  pub left_start : Left D R text demands₀ rows₀ text 1 fresh demands₀ rows₀
  unfolding reading
  left_start = record { outcome = refl; demands = refl; rows = refl; demands_fit = omega arith; units_fit = omega arith; lines_fit = omega arith }

  module _ (rest : List ℕ) (line : ℕ) (p : Progress) (demands : List Demand) (rows : List Row) (left : Left D R text demands₀ rows₀ rest line p demands rows) where
    -- where nothing more is taken, the places hold what the reading gives
    pub left_ended : (r : Result Contents FrameFault) → read_lines D R line p (lines_of rest) ≡ record { frames = []; outcome = r } → (r ≡ (reading D R text).outcome) × (demands ≡ overwrite demands₀ 0 (demands_in (reading D R text).frames)) × (rows ≡ overwrite rows₀ 0 (rows_in (reading D R text).frames))
    left_ended r h = (
      sym (ap (λ (x : Reading). x.outcome) h) ∙ left.outcome,
      sym (ap (λ (x : Reading). overwrite demands p.demands (demands_in x.frames)) h) ∙ left.demands,
      sym (ap (λ (x : Reading). overwrite rows p.units (rows_in x.frames)) h) ∙ left.rows,
    )

    -- a frame that is taken
    pub left_more : (f : Frame) (q : Progress) (rest' : List ℕ) (demands' : List Demand) (rows' : List Row) → read_lines D R line p (lines_of rest) ≡ began f (read_lines D R (line + 1) q (lines_of rest')) → taken D R line p f ≡ Ok q → demands' ≡ overwrite demands p.demands (demands_in (f ∷ [])) → rows' ≡ overwrite rows p.units (rows_in (f ∷ [])) → length rest' < length rest → Left D R text demands₀ rows₀ rest' (line + 1) q demands' rows'
    left_more f q rest' demands' rows' h t e k lt =
        let n = counted_allowed D R line p q f (after p.state f) t in
        let fs = (read_lines D R (line + 1) q (lines_of rest')).frames in
        record {
          outcome = sym (ap (λ (r : Reading). r.outcome) h) ∙ left.outcome;
          demands =
              ap (λ x. overwrite x q.demands (demands_in fs)) e
              ∙ ap (λ m. overwrite (overwrite demands p.demands (demands_in (f ∷ []))) m (demands_in fs)) n.demands
              ∙ sym (over_append demands p.demands (demands_in (f ∷ [])) (demands_in fs))
              ∙ ap (overwrite demands p.demands) (sym (demands_cons f fs))
              ∙ sym (ap (λ (r : Reading). overwrite demands p.demands (demands_in r.frames)) h) ∙ left.demands;
          rows =
              ap (λ x. overwrite x q.units (rows_in fs)) k
              ∙ ap (λ m. overwrite (overwrite rows p.units (rows_in (f ∷ []))) m (rows_in fs)) n.units
              ∙ sym (over_append rows p.units (rows_in (f ∷ [])) (rows_in fs))
              ∙ ap (overwrite rows p.units) (sym (rows_cons f fs))
              ∙ sym (ap (λ (r : Reading). overwrite rows p.units (rows_in r.frames)) h) ∙ left.rows;
          demands_fit = n.demands_fit left.demands_fit;
          units_fit = n.units_fit left.units_fit;
          lines_fit = omega (arith, left.lines_fit);
        }

-- a line whose reading has a fault, and a frame that is not taken
module _ (D R : ℕ) where
  read_err : (line : ℕ) (p : Progress) (e : FrameFault) (l : List ℕ) (ls : List (List ℕ)) → frame_in line (line_bytes line l) ≡ Err e → read_lines D R line p (l ∷ ls) ≡ refused e
  read_err line p e l ls h = ap (λ r. elim r [ Ok f ↦ elim (taken D R line p f) [ Ok q ↦ began f (read_lines D R (line + 1) q ls) | Err e ↦ refused e ] | Err e ↦ refused e ]) h

  read_none : (line : ℕ) (p : Progress) (f : Frame) (e : FrameFault) (l : List ℕ) (ls : List (List ℕ)) → frame_in line (line_bytes line l) ≡ Ok f → taken D R line p f ≡ Err e → read_lines D R line p (l ∷ ls) ≡ refused e
  read_none line p f e l ls h t =
      ap (λ r. elim r [ Ok f ↦ elim (taken D R line p f) [ Ok q ↦ began f (read_lines D R (line + 1) q ls) | Err e ↦ refused e ] | Err e ↦ refused e ]) h
      ∙ ap (λ r. elim r [ Ok q ↦ began f (read_lines D R (line + 1) q ls) | Err e ↦ refused e ]) t

-- one line, by what its reading gives
module _ (D R : ℕ) (rest : List ℕ) (some : 0 < length rest) (line : ℕ) (p : Progress) where
  first : read_lines D R line p (lines_of rest) ≡ read_lines D R line p (take (line_length rest + 1) rest ∷ lines_of (drop (line_length rest + 1) rest))
  first = ap (read_lines D R line p) (lines_first rest some)

  frame_first : (r : Result Frame FrameFault) → frame_in line (line_bytes line rest) ≡ r → frame_in line (line_bytes line (take (line_length rest + 1) rest)) ≡ r
  frame_first r h = ap (frame_in line) (bytes_first line rest) ∙ h

  pub line_refused : (e : FrameFault) → frame_in line (line_bytes line rest) ≡ Err e → read_lines D R line p (lines_of rest) ≡ refused e
  line_refused e h = first ∙ read_err D R line p e (take (line_length rest + 1) rest) (lines_of (drop (line_length rest + 1) rest)) (frame_first (Err e) h)

  pub frame_refused : (f : Frame) (e : FrameFault) → frame_in line (line_bytes line rest) ≡ Ok f → taken D R line p f ≡ Err e → read_lines D R line p (lines_of rest) ≡ refused e
  frame_refused f e h t = first ∙ read_none D R line p f e (take (line_length rest + 1) rest) (lines_of (drop (line_length rest + 1) rest)) (frame_first (Ok f) h) t

  pub frame_taken : (f : Frame) (q : Progress) → well_formed rest ≡ true → frame_in line (line_bytes line rest) ≡ Ok f → taken D R line p f ≡ Ok q → read_lines D R line p (lines_of rest) ≡ began f (read_lines D R (line + 1) q (lines_of (drop (digits rest + 1) rest)))
  frame_taken f q w h t =
      first
      ∙ read_one D R line p q f (take (line_length rest + 1) rest) (lines_of (drop (line_length rest + 1) rest)) (frame_first (Ok f) h) t
      ∙ ap (λ n. began f (read_lines D R (line + 1) q (lines_of (drop (n + 1) rest)))) (rest_first rest w)

-- the frame of a line that is well formed, and the fault of one that is not
module _ (line : ℕ) (part : List ℕ) where
  pub frame_formed : well_formed part ≡ true → frame_in line (line_bytes line part) ≡ frame_of line (bytes_of (take (digits part) part))
  frame_formed w = ap (frame_in line) (cond-true (well_formed part) (Ok (bytes_of (take (digits part) part))) (Err (fault_of line part)) w)

  pub frame_unformed : well_formed part ≡ false → frame_in line (line_bytes line part) ≡ Err (Line (fault_of line part))
  frame_unformed w = ap (frame_in line) (cond-false (well_formed part) (Ok (bytes_of (take (digits part) part))) (Err (fault_of line part)) w)

-- the end of the text
pub read_end : (D R line : ℕ) (p : Progress) (rest : List ℕ) (r : Result Contents FrameFault) → length rest ≡ 0 → stopped line p p.state ≡ r → read_lines D R line p (lines_of rest) ≡ record { frames = []; outcome = r }
read_end D R line p rest r z h = ap (λ xs. read_lines D R line p (lines_of xs)) (nil_from_length rest z) ∙ ap (λ x. record { frames = []; outcome = x }) h

-- the counts at the end are those of the frames that were taken
pub record Ended (D R : ℕ) (p : Progress) (fs : List Frame) (q : Contents) : Type 0 where
  pub demands : q.demands ≡ p.demands + length (demands_in fs)
  pub units : q.units ≡ p.units + length (rows_in fs)
  pub demands_fit : p.demands ≤ D → q.demands ≤ D
  pub units_fit : p.units ≤ R → q.units ≤ R

split : {A B : Type 0} (r : Result A B) → ((a : A) × (r ≡ Ok a)) ⊎ ((b : B) × (r ≡ Err b))
split (Ok a) = inl (a, refl)
split (Err b) = inr (b, refl)

err_not_ok : {A B : Type 0} (e : B) (a : A) → Err e ≡ Ok a → ⊥
err_not_ok e a h = let z : ◌≡◌ {A = ℕ} 0 1 = cc in omega arith

stopped_counts : (line : ℕ) (p : Progress) (q : Contents) (s : State) → stopped line p s ≡ Ok q → (q.demands ≡ p.demands) × (q.units ≡ p.units)
stopped_counts line p q Start h = absurd (err_not_ok (Order line) q h)
stopped_counts line p q (Demands _) h = absurd (err_not_ok (Order line) q h)
stopped_counts line p q (Units _) h = absurd (err_not_ok (Order line) q h)
stopped_counts line p q (Done _ _) h = ((cc), (cc))

module _ (D R : ℕ) where
  ended_more : (p m : Progress) (q : Contents) (f : Frame) (fs : List Frame) → Counted D R p f m → Ended D R m fs q → Ended D R p (f ∷ fs) q
  ended_more p m q f fs a b =
      let n : length (demands_in (f ∷ fs)) ≡ length (demands_in (f ∷ [])) + length (demands_in fs) = ap length (demands_cons f fs) ∙ length-append (demands_in (f ∷ [])) (demands_in fs) in
      let k : length (rows_in (f ∷ fs)) ≡ length (rows_in (f ∷ [])) + length (rows_in fs) = ap length (rows_cons f fs) ∙ length-append (rows_in (f ∷ [])) (rows_in fs) in
      record {
        demands = omega (arith, a.demands, b.demands);
        units = omega (arith, a.units, b.units);
        demands_fit = λ l. b.demands_fit (a.demands_fit l);
        units_fit = λ l. b.units_fit (a.units_fit l);
      }

  ended_none : (p : Progress) (q : Contents) → (q.demands ≡ p.demands) × (q.units ≡ p.units) → Ended D R p [] q
  ended_none p q e = record { demands = omega arith; units = omega arith; demands_fit = λ l. omega arith; units_fit = λ l. omega arith }

  pub read_counts : (line : ℕ) (p : Progress) (q : Contents) (ls : List (List ℕ)) → (read_lines D R line p ls).outcome ≡ Ok q → Ended D R p (read_lines D R line p ls).frames q
  read_counts line p q [] h = ended_none p q (stopped_counts line p q p.state h)
  read_counts line p q (l ∷ ls) h = elim (split (frame_in line (line_bytes line l))) [
    | inl g ↦ elim (split (taken D R line p g.0)) [
      | inl m ↦ (let w = read_one D R line p m.0 g.0 l ls g.1 m.1 in
          subst (λ (x : Reading). Ended D R p x.frames q) (sym w) (ended_more p m.0 q g.0 (read_lines D R (line + 1) m.0 ls).frames (counted_allowed D R line p m.0 g.0 (after p.state g.0) m.1) (read_counts (line + 1) m.0 q ls (sym (ap (λ (x : Reading). x.outcome) w) ∙ h))))
      | inr e ↦ absurd (err_not_ok e.0 q (sym (ap (λ (x : Reading). x.outcome) (read_none D R line p g.0 e.0 l ls g.1 e.1)) ∙ h))
    ]
    | inr e ↦ absurd (err_not_ok e.0 q (sym (ap (λ (x : Reading). x.outcome) (read_err D R line p e.0 l ls e.1)) ∙ h))
  ]

  -- of a whole text
  pub reading_counts : (text : List ℕ) (q : Contents) → (reading D R text).outcome ≡ Ok q → Counts D R (reading D R text).frames q
  unfolding reading
  reading_counts text q h =
      let e = read_counts 1 fresh q (lines_of text) h in
      record { demands = omega (arith, e.demands); units = omega (arith, e.units); demands_fit = e.demands_fit (omega arith); units_fit = e.units_fit (omega arith) }

  pub outcome_counts : (text : List ℕ) (r : Result Contents FrameFault) → r ≡ (reading D R text).outcome → IfOk r (λ q. Counts D R (reading D R text).frames q)
  outcome_counts text (Ok q) h = reading_counts text q (sym h)
  outcome_counts text (Err e) h = tt

-- the front of the places is the list that was written to them
pub front_of : {X : Type 0} (old new xs : List X) (n : ℕ) → new ≡ overwrite old 0 xs → n ≡ length xs → n ≤ length old → take n new ≡ xs
front_of old new xs n e k h =
    let fits : 0 + length xs ≤ length old = omega arith in
    ap (take n) (e ∙ over_is old 0 xs fits) ∙ take_at xs (drop (0 + length xs) old) n (sym k)
