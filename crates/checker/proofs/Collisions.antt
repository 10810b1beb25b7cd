-- Where the verdict names a collision, it is the first.
use Rattle.std.proofs.Common.{◌≡◌, ℕ, zero, suc, ◌+◌, ◌-◌, ◌<◌, Bool, true, false, cond, not, ◌&&◌, ◌||◌, eqb, ltb, leb, ◌⊎◌, List, [], ◌∷◌, ◌++◌, length, get_or, take, Some, None, Ok, Err, Option, Result, sym, refl, ap, ◌∙◌, subst, inl, inr, ⊎_elim, arith}
use Rattle.std.specs.List.{prefix_len}
use Rattle.std.proofs.lemmas.List.{append_assoc, append-nil, get_or-take, length-take-le}
use Rattle.std.proofs.lemmas.List.Sums.{prefix_len_passes, prefix_len_stops}
use Rattle.std.proofs.ByRecursion.{All-get_or}
use Rattle.std.proofs.lemmas.Bool.{not-false, not-true, ltb-true, both_ways, true≢false}
use Rattle.ring.specs.Sums.{sum_of}
use Rattle.ring.specs.Ring.{row_over, named, Apart}
use Rattle.std.specs.Option.{option_or}
use Rattle.checklines.specs.Faults.{first_fault, from_to}
use Rattle.checkrows.specs.Rows.{like_first, clash, earliest, form_fault, collision_fault, row_fault, rows_fault, is_full, counts_fault}
use Rattle.checklines.specs.Lines.{line_fault, lines_fault}
use Rattle.checker.specs.Verdicts.{ring_fault, sheet_fault, figures, unless, verdict}
use Rattle.checkrows.specs.Rows.{row_at}
use Rattle.checker.specs.Claims.{FirstCollision, NamesCollision}
use Rattle.ring.specs.declared.Demand.{Demand}
use Rattle.ring.specs.declared.Row.{Row}
use Rattle.ring.specs.declared.Figures.{Figures}
use Rattle.refusals.specs.Refusals.{refusal_number}
use Rattle.refusals.specs.declared.Refusal.{Refusal}
use Rattle.refusals.specs.declared.Refusal.TheVariants.{RingSize, TooFew, BookFull, EndOutside, EndsFalling, UnitsOutside, NumberTaken, UnitsPast, DemandUnknown, SlotOutside, SideWrong, Collision, CountWrong}
use Rattle.checkrows.proofs.RowsPass.{row_fine, clash_link, link_clash}

abbrev is_collision : Refusal → Bool
is_collision f = eqb (refusal_number f) 23

data Other : Option Refusal → Type 0 where
  no_fault : Other None
  of : {f : Refusal} → is_collision f ≡ false → Other (Some f)

other_cond : (b : Bool) (f : Refusal) (g : Option Refusal) → is_collision f ≡ false → Other g → Other (cond b (Some f) g)
other_cond true f g h k = of h
other_cond false f g h k = k

other_or : (o g : Option Refusal) → Other o → Other g → Other (option_or o g)
other_or (Some f) g h k = h
other_or None g h k = k

other_first : {X : Type 0} (fault : List X → X → Option Refusal) → ((b : List X) (x : X) → Other (fault b x)) → (before xs : List X) → Other (first_fault fault before xs)
other_first fault h before [] = no_fault
other_first fault h before (x ∷ xs) = other_or (fault before x) (first_fault fault (before ++ x ∷ []) xs) (h before x) (other_first fault h (before ++ x ∷ []) xs)

line_other : (n : ℕ) (b : List Demand) (d : Demand) → Other (line_fault n b d)
line_other n b d =
    other_cond (leb 128 (length b)) (BookFull (length b + 1)) _ refl
    (other_cond (not (from_to 1 n d.lower && from_to 1 n d.upper)) (EndOutside (length b + 1)) _ refl
    (other_cond (leb d.upper d.lower) (EndsFalling (length b + 1)) _ refl
    (other_cond (not (from_to 1 48 d.units)) (UnitsOutside (length b + 1)) _ refl
    (other_cond (eqb d.number 0 || named b d.number) (NumberTaken (length b + 1)) _ refl
    (other_cond (ltb 1024 (sum_of (λ (c : Demand). c.units) b + d.units)) (UnitsPast (length b + 1)) None refl no_fault)))))

not_collision : (f : Refusal) (row met : ℕ) → is_collision f ≡ false → f ≡ Collision row met → ⊥
not_collision f row met h e = true≢false (sym (ap is_collision e) ∙ h)

not_other : (o : Option Refusal) (row met : ℕ) → Other o → o ≡ Some (Collision row met) → ⊥
not_other o row met no_fault e = let z : ◌≡◌ {A = ℕ} 0 1 = cc in omega arith
not_other o row met (of {f} h) e = let z : f ≡ Collision row met = cc in not_collision f row met h z

unless_err : (o : Option Refusal) (r : Result Figures Refusal) (f : Refusal) → unless o r ≡ Err f → (o ≡ Some f) ⊎ (r ≡ Err f)
unless_err (Some g) r f h = inl cc
unless_err None r f h = inr h

-- the part of the check that a collision comes from
collision_of : (n : ℕ) (lines : List Demand) (rows : List Row) (m row met : ℕ) → verdict n lines rows m ≡ Err (Collision row met) → rows_fault n lines rows ≡ Some (Collision row met)
collision_of n lines rows m row met h =
    go (ring_fault n) _ (other_cond (not (from_to 3 16 n)) RingSize None refl no_fault) (λ a.
    go (sheet_fault m) _ (other_cond (ltb m 1024) (TooFew 1024) None refl no_fault) (λ b.
    go (lines_fault n lines) _ (other_first (line_fault n) (line_other n) [] lines) (λ c.
    ⊎_elim (λ (e : rows_fault n lines rows ≡ Some (Collision row met)). e)
    (λ (d : unless (counts_fault lines rows) (Ok (figures n lines rows)) ≡ Err (Collision row met)).
    go (counts_fault lines rows) (Ok (figures n lines rows)) (other_cond (ltb (prefix_len (is_full rows) lines) (length lines)) (CountWrong (prefix_len (is_full rows) lines + 1)) None refl no_fault) (λ e. absurd (let z : ◌≡◌ {A = ℕ} 0 1 = cc in omega arith)) d)
    (unless_err (rows_fault n lines rows) _ (Collision row met) c)) b) a) h
  where
    go : (o : Option Refusal) (r : Result Figures Refusal) → Other o → (r ≡ Err (Collision row met) → rows_fault n lines rows ≡ Some (Collision row met)) → unless o r ≡ Err (Collision row met) → rows_fault n lines rows ≡ Some (Collision row met)
    go o r k f e = ⊎_elim (λ (x : o ≡ Some (Collision row met)). absurd (not_other o row met k x)) f (unless_err o r (Collision row met) e)

-- where the first fault stands
pub first_at : {X : Type 0} (fault : List X → X → Option Refusal) (d : X) (before xs : List X) (f : Refusal) → first_fault fault before xs ≡ Some f →
    (i : ℕ) × (i < length xs) × (fault (before ++ take i xs) (get_or xs i d) ≡ Some f) × ((j : ℕ) → j < i → fault (before ++ take j xs) (get_or xs j d) ≡ None)
first_at fault d before [] f h = absurd (let z : ◌≡◌ {A = ℕ} 0 1 = cc in omega arith)
first_at {X} fault d before (x ∷ xs) f h = go (fault before x) refl h (first_at fault d (before ++ x ∷ []) xs f)
  where
    At : ℕ → Option Refusal
    At j = fault (before ++ take j (x ∷ xs)) (get_or (x ∷ xs) j d)

    Place : Type 0
    Place = (i : ℕ) × (i < length (x ∷ xs)) × (At i ≡ Some f) × ((j : ℕ) → j < i → At j ≡ None)

    go : (o : Option Refusal) → fault before x ≡ o → option_or o (first_fault fault (before ++ x ∷ []) xs) ≡ Some f →
        (first_fault fault (before ++ x ∷ []) xs ≡ Some f → (i : ℕ) × (i < length xs) × (fault ((before ++ x ∷ []) ++ take i xs) (get_or xs i d) ≡ Some f) × ((j : ℕ) → j < i → fault ((before ++ x ∷ []) ++ take j xs) (get_or xs j d) ≡ None)) → Place
    go (Some g) e k ih = (0, omega arith, ap (λ b. fault b x) (append-nil before) ∙ e ∙ k, (λ j l. absurd (omega arith)))
    go None e k ih =
        let r = ih k in
        (suc r.0, omega (arith, r.1), ap (λ b. fault b (get_or xs r.0 d)) (sym (append_assoc before (x ∷ []) (take r.0 xs))) ∙ r.2, before' r.0 r.3)
      where
        before' : (i : ℕ) → ((j : ℕ) → j < i → fault ((before ++ x ∷ []) ++ take j xs) (get_or xs j d) ≡ None) → (j : ℕ) → j < suc i → At j ≡ None
        before' i h zero l = ap (λ b. fault b x) (append-nil before) ∙ e
        before' i h (suc j) l = ap (λ b. fault b (get_or xs j d)) (sym (append_assoc before (x ∷ []) (take j xs))) ∙ h j (omega arith)

-- a row's fault is a collision
row_collision : (n : ℕ) (lines : List Demand) (b : List Row) (r : Row) (row met : ℕ) → row_fault n lines b r ≡ Some (Collision row met) →
    (earliest n lines b r < length b) × (row ≡ length b + 1) × (met ≡ earliest n lines b r + 1)
row_collision n lines b r row met h = last (ltb (earliest n lines b r) (length b)) refl (other_fault (form_fault lines b r) (collision_fault n lines b r) form h)
  where
    form : Other (form_fault lines b r)
    form =
        other_cond (not (named lines r.demand)) (DemandUnknown (length b + 1)) _ refl
        (other_cond (not (from_to 1 1024 r.slot)) (SlotOutside (length b + 1)) _ refl
        (other_cond (not (leb r.side 1 && like_first r.demand r.side b)) (SideWrong (length b + 1)) None refl no_fault))

    other_fault : (o g : Option Refusal) → Other o → option_or o g ≡ Some (Collision row met) → g ≡ Some (Collision row met)
    other_fault (Some f) g k e = absurd (not_other (Some f) row met k e)
    other_fault None g k e = e

    last : (t : Bool) → ltb (earliest n lines b r) (length b) ≡ t → cond t (Some (Collision (length b + 1) (earliest n lines b r + 1))) None ≡ Some (Collision row met) → (earliest n lines b r < length b) × (row ≡ length b + 1) × (met ≡ earliest n lines b r + 1)
    last true t e = (ltb-true _ _ t, cc, cc)
    last false t e = absurd (let z : ◌≡◌ {A = ℕ} 0 1 = cc in omega arith)

-- which rows collide first
pub first_collision : (n : ℕ) (lines : List Demand) (rows : List Row) (i : ℕ) → i < length rows →
    ((j : ℕ) → j < i → row_fault n lines (take j rows) (row_at rows j) ≡ None) → earliest n lines (take i rows) (row_at rows i) < i →
    FirstCollision n lines rows i (earliest n lines (take i rows) (row_at rows i))
first_collision n lines rows i l before e =
    record {
      earlier = e;
      given = l;
      collide = let c = clash_link n lines r q (not-false _ (ap (λ q. not (clash n lines r q)) (sym at) ∙ prefix_len_stops test (take i rows) none (omega (arith, length-take-le i rows (omega arith))))) in (sym c.0, c.1);
      first_met = λ b h c. both_ways (clash n lines r (row_at rows b)) (not-true _ (ap (λ q. not (clash n lines r q)) (sym (get_or-take i rows b none (omega arith))) ∙ prefix_len_passes test (take i rows) b none h)) (link_clash n lines r (row_at rows b) c.1.0 (sym c.0) c.1.1 c.1.2 c.1.3);
      none_before = λ a b h k c.
          All-get_or (λ (q : Row). Apart n lines q (row_at rows a)) (take a rows) b none (omega (arith, length-take-le a rows (omega arith))) (row_fine n lines (take a rows) (row_at rows a) (before a k)).apart
          (c.0 ∙ ap (λ (q : Row). q.slot) (sym (get_or-take a rows b none h))) c.1.0 c.1.1 (ap (λ q. row_over lines q c.1.0) (get_or-take a rows b none h) ∙ c.1.3) c.1.2;
    }
  where
    none : Row
    none = record { demand = 0; side = 0; slot = 0 }

    r : Row
    r = row_at rows i

    test : Row → Bool
    test q = not (clash n lines r q)

    q : Row
    q = row_at rows (earliest n lines (take i rows) r)

    at : get_or (take i rows) (earliest n lines (take i rows) r) none ≡ q
    at = get_or-take i rows (earliest n lines (take i rows) r) none e

pub names_collision : (n : ℕ) (lines : List Demand) (rows : List Row) (m : ℕ) → NamesCollision n lines rows (verdict n lines rows m)
names_collision n lines rows m row met h =
    let p = first_at (row_fault n lines) (record { demand = 0; side = 0; slot = 0 }) [] rows (Collision row met) (collision_of n lines rows m row met h) in
    let c = row_collision n lines (take p.0 rows) (row_at rows p.0) row met p.2 in
    let z = length-take-le p.0 rows (omega (arith, p.1)) in
    let i : p.0 ≡ row - 1 = omega (arith, c.1) in
    let j : earliest n lines (take p.0 rows) (row_at rows p.0) ≡ met - 1 = omega (arith, c.2) in (
      omega (arith, c.1),
      omega (arith, c.2),
      subst (λ a. FirstCollision n lines rows a (met - 1)) i (subst (λ b. FirstCollision n lines rows p.0 b) j (first_collision n lines rows p.0 p.1 p.3 (omega (arith, c.0)))),
    )
