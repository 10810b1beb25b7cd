-- The demand lines pass exactly where they are within the limits.
use Rattle.std.proofs.Common.{◌≡◌, ℕ, ◌+◌, ◌<◌, ◌≤◌, false, not, ◌&&◌, ◌||◌, eqb, ltb, leb, List, [], ◌∷◌, ◌++◌, length, None, sym, refl, arith}
use Rattle.std.specs.List.{AllByRecursion as Each}
use Rattle.std.proofs.lemmas.List.{length_push}
use Rattle.std.proofs.lemmas.Bool.{ne_eqb, eqb-false, or_parts, or_from, and_parts, and_from, not-false, not_from_true, leb-true, leb-false, ltb-false, le-leb, lt-leb, le-ltb}
use Rattle.ring.specs.Ring.{units, Ends, Numbered, Fitting, named, WithinLimits}
use Rattle.checklines.specs.Faults.{from_to}
use Rattle.checklines.specs.Lines.{line_fault, lines_fault, LinesDecided}
use Rattle.ring.specs.declared.Demand.{Demand}
use Rattle.checklines.proofs.Walk.{Walk, Pairs, passed, pass, walk_none, none_walk, walk_weaker, walk_all, walk_pairs, pairs_walk, walk_both}

-- nothing is wrong with a line
pub record LineFine (n : ℕ) (before : List Demand) (d : Demand) : Type 0 where
  pub room : length before < 128
  pub ends : Ends n d.lower d.upper
  pub some_units : (1 ≤ d.units) × (d.units ≤ 48)
  pub number : 1 ≤ d.number
  pub fresh : Each (λ (c : Demand). d.number ≡ c.number → ⊥) before
  pub all_units : units before + d.units ≤ 1024

pub not_named : (ds : List Demand) (k : ℕ) → named ds k ≡ false → Each (λ (c : Demand). k ≡ c.number → ⊥) ds
not_named [] k h = tt
not_named (d ∷ ds) k h = let p = or_parts (eqb d.number k) (named ds k) h in ((λ e. eqb-false d.number k p.0 (sym e)), not_named ds k p.1)

pub named_not : (ds : List Demand) (k : ℕ) → Each (λ (c : Demand). k ≡ c.number → ⊥) ds → named ds k ≡ false
named_not [] k h = refl
named_not (d ∷ ds) k h = or_from (eqb d.number k) (named ds k) (ne_eqb d.number k (λ e. h.0 (sym e))) (named_not ds k h.1)

pub line_fine : (n : ℕ) (before : List Demand) (d : Demand) → line_fault n before d ≡ None → LineFine n before d
line_fine n before d h =
    let a = passed (leb 128 (length before)) _ _ h in
    let b = passed (not (from_to 1 n d.lower && from_to 1 n d.upper)) _ _ a.1 in
    let c = passed (leb d.upper d.lower) _ _ b.1 in
    let f = passed (not (from_to 1 48 d.units)) _ _ c.1 in
    let g = passed (eqb d.number 0 || named before d.number) _ _ f.1 in
    let t = passed (ltb 1024 (units before + d.units)) _ _ g.1 in
    let on = and_parts _ _ (not-false _ b.0) in
    let lo = and_parts _ _ on.0 in
    let hi = and_parts _ _ on.1 in
    let un = and_parts _ _ (not-false _ f.0) in
    let nu = or_parts (eqb d.number 0) (named before d.number) g.0 in
    record {
      room = leb-false 128 (length before) a.0;
      ends = (leb-true 1 d.lower lo.0, leb-false d.upper d.lower c.0, leb-true d.upper n hi.1);
      some_units = (leb-true 1 d.units un.0, leb-true d.units 48 un.1);
      number = go d.number (eqb-false d.number 0 nu.0);
      fresh = not_named before d.number nu.1;
      all_units = ltb-false 1024 (units before + d.units) t.0;
    }
  where
    go : (k : ℕ) → (k ≡ 0 → ⊥) → 1 ≤ k
    go k h = omega arith

pub fine_line : (n : ℕ) (before : List Demand) (d : Demand) → LineFine n before d → line_fault n before d ≡ None
fine_line n before d h =
    pass (leb 128 (length before)) _ _ (lt-leb 128 (length before) h.room)
    (pass (not (from_to 1 n d.lower && from_to 1 n d.upper)) _ _
    (not_from_true _ (and_from (from_to 1 n d.lower) (from_to 1 n d.upper)
    (and_from (leb 1 d.lower) (leb d.lower n) (le-leb 1 d.lower h.ends.0) (le-leb d.lower n (omega (arith, h.ends.1, h.ends.2))))
    (and_from (leb 1 d.upper) (leb d.upper n) (le-leb 1 d.upper (omega (arith, h.ends.0, h.ends.1))) (le-leb d.upper n h.ends.2))))
    (pass (leb d.upper d.lower) _ _ (lt-leb d.upper d.lower h.ends.1)
    (pass (not (from_to 1 48 d.units)) _ _ (not_from_true _ (and_from (leb 1 d.units) (leb d.units 48) (le-leb 1 d.units h.some_units.0) (le-leb d.units 48 h.some_units.1)))
    (pass (eqb d.number 0 || named before d.number) _ _
    (or_from (eqb d.number 0) (named before d.number) (ne_eqb d.number 0 (λ e. go d.number h.number e)) (named_not before d.number h.fresh))
    (pass (ltb 1024 (units before + d.units)) _ _ (le-ltb 1024 (units before + d.units) h.all_units) refl)))))
  where
    go : (k : ℕ) → 1 ≤ k → k ≡ 0 → ⊥
    go k h e = omega arith

pub units_push : (ds : List Demand) (d : Demand) → units (ds ++ d ∷ []) ≡ units ds + d.units
units_push [] d = omega arith
units_push (c ∷ ds) d = omega (arith, units_push ds d)

few_from : (n : ℕ) (before ds : List Demand) → length before ≤ 128 → Walk (LineFine n) before ds → length before + length ds ≤ 128
few_from n before [] h w = omega arith
few_from n before (d ∷ ds) h w =
    let r = w.0.room in
    let p = length_push before d in
    omega (arith, few_from n (before ++ d ∷ []) ds (omega arith) w.1)

total_from : (n : ℕ) (before ds : List Demand) → units before ≤ 1024 → Walk (LineFine n) before ds → units before + units ds ≤ 1024
total_from n before [] h w = omega arith
total_from n before (d ∷ ds) h w =
    let r = w.0.all_units in
    let p = units_push before d in
    omega (arith, total_from n (before ++ d ∷ []) ds (omega arith) w.1)

limits_walk : (n : ℕ) (before ds : List Demand) → length before + length ds ≤ 128 → units before + units ds ≤ 1024 → Walk (λ (b : List Demand) (d : Demand). (length b < 128) × (units b + d.units ≤ 1024)) before ds
limits_walk n before [] h t = tt
limits_walk n before (d ∷ ds) h t =
    let p = length_push before d in
    let q = units_push before d in
    ((omega arith, omega arith), limits_walk n (before ++ d ∷ []) ds (omega arith) (omega arith))

-- no fault: within the limits
pub lines_limits : (n : ℕ) (lines : List Demand) → 3 ≤ n → n ≤ 16 → lines_fault n lines ≡ None → WithinLimits n lines
lines_limits n lines least most h =
    let w : Walk (LineFine n) [] lines = walk_weaker (λ b d. line_fault n b d ≡ None) (LineFine n) (line_fine n) [] lines (walk_none (line_fault n) [] lines h) in
    record {
      least = least;
      most = most;
      fitting = walk_all (λ (d : Demand). Ends n d.lower d.upper) [] lines (walk_weaker (LineFine n) (λ _ (d : Demand). Ends n d.lower d.upper) (λ b d f. f.ends) [] lines w);
      numbered = pairs_numbered lines (walk_pairs (λ (c d : Demand). d.number ≡ c.number → ⊥) [] lines (walk_weaker (LineFine n) (λ b (d : Demand). Each (λ (c : Demand). d.number ≡ c.number → ⊥) b) (λ b d f. f.fresh) [] lines w)).1;
      numbers = walk_all (λ (d : Demand). 1 ≤ d.number) [] lines (walk_weaker (LineFine n) (λ _ (d : Demand). 1 ≤ d.number) (λ b d f. f.number) [] lines w);
      sized = walk_all (λ (d : Demand). (1 ≤ d.units) × (d.units ≤ 48)) [] lines (walk_weaker (LineFine n) (λ _ (d : Demand). (1 ≤ d.units) × (d.units ≤ 48)) (λ b d f. f.some_units) [] lines w);
      few = omega (arith, few_from n [] lines (omega arith) w);
      total = omega (arith, total_from n [] lines (omega arith) w);
    }
  where
    pairs_numbered : (ds : List Demand) → Pairs (λ (c d : Demand). d.number ≡ c.number → ⊥) ds → Numbered ds
    pairs_numbered [] p = tt
    pairs_numbered (d ∷ ds) p = (p.0, pairs_numbered ds p.1)

-- within the limits: no fault
pub limits_lines : (n : ℕ) (lines : List Demand) → WithinLimits n lines → lines_fault n lines ≡ None
limits_lines n lines h =
    none_walk (line_fault n) [] lines
    (walk_weaker Parts (λ b d. line_fault n b d ≡ None) (λ b d p. fine_line n b d (record { room = p.0.0; ends = p.1.0.0; some_units = p.1.0.2; number = p.1.0.1; fresh = p.1.1; all_units = p.0.1 })) [] lines
    (walk_both Limits (λ b d. Own b d × Fresh b d) [] lines (limits_walk n [] lines (omega (arith, h.few)) (omega (arith, h.total)))
    (walk_both Own Fresh [] lines
    (walk_both3 [] lines)
    (pairs_walk (λ (c d : Demand). d.number ≡ c.number → ⊥) [] lines tt (numbered_pairs lines h.numbered)))))
  where
    Limits : List Demand → Demand → Type 0
    Limits b d = (length b < 128) × (units b + d.units ≤ 1024)

    Own : List Demand → Demand → Type 0
    Own b d = Ends n d.lower d.upper × (1 ≤ d.number) × ((1 ≤ d.units) × (d.units ≤ 48))

    Fresh : List Demand → Demand → Type 0
    Fresh b d = Each (λ (c : Demand). d.number ≡ c.number → ⊥) b

    Parts : List Demand → Demand → Type 0
    Parts b d = Limits b d × (Own b d × Fresh b d)

    numbered_pairs : (ds : List Demand) → Numbered ds → Pairs (λ (c d : Demand). d.number ≡ c.number → ⊥) ds
    numbered_pairs [] p = tt
    numbered_pairs (d ∷ ds) p = (p.0, numbered_pairs ds p.1)

    own : (before ds : List Demand) → Fitting n ds → Each (λ (d : Demand). 1 ≤ d.number) ds → Each (λ (d : Demand). (1 ≤ d.units) × (d.units ≤ 48)) ds → Walk Own before ds
    own before [] f k u = tt
    own before (d ∷ ds) f k u = ((f.0, k.0, u.0), own (before ++ d ∷ []) ds f.1 k.1 u.1)

    walk_both3 : (before ds : List Demand) → Walk Own [] lines
    walk_both3 before ds = own [] lines h.fitting h.numbers h.sized

pub lines_decided : LinesDecided
lines_decided n lines least most = (lines_limits n lines least most, limits_lines n lines)
