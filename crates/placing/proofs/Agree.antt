-- The slots that are written for a demand are those that hold a unit of it.
use Rattle.std.proofs.Common.{◌≡◌, ℕ, zero, suc, ◌+◌, ◌≤◌, Bool, true, false, cond, ◌||◌, eqb, ◌≢◌, ◌⊎◌, List, [], ◌∷◌, ◌++◌, map, length, take, drop, replicate, fold, filter, sym, refl, ap, ◌∙◌, subst, ap₂, inl, inr, ⊎_elim, arith}
use Rattle.std.specs.List.{prefix_len, flat_map, AllByRecursion as Each}
use Rattle.ring.specs.Sums.{sum_of}
use Rattle.std.proofs.lemmas.List.{append_assoc, append-nil, length-replicate, length-take-le, take_at, drop_at, take-append-drop, nil_from_length, length-drop}
use Rattle.ring.proofs.Summing.{sum_cons}
use Rattle.std.proofs.lemmas.Bool.{cond-true, cond-false, cases_Bool, or_from, or_left, or_cases, or_parts, ne_eqb, eq-eqb, false≢true}
use Rattle.ring.specs.declared.Route.{Route}
use Rattle.drawn.specs.FirstFit.{taken, lowest, put}
use Rattle.drawn.specs.Slotting.{has_unit, shares, units_of, slots_of, Valid, Distinct}
use Rattle.sheet.specs.Marks.{marked, in_turn, used}
use Rattle.placing.specs.Drawing.{mask, marks_after, slots_after, filled}
use Rattle.std.proofs.lemmas.List.Sums.{fold-append}
use Rattle.drawn.proofs.Says.{shares_itself}
use Rattle.placing.proofs.Tied.{Tied, lows, tied_folded, tied_in_turn}
use Rattle.placing.proofs.Turns.{used_after, length_after, length_slots_after}

-- ---- the slots of a demand as units are put
module _ (clash : Route → Route → Bool) where
  pub slots_of_put_other : (x d : Route) → x.demand.number ≢ d.demand.number → (ss : List (List Route)) (k : ℕ) → slots_of k d (put clash ss x) ≡ slots_of k d ss
  slots_of_put_other x d h [] k = cond-false (eqb x.demand.number d.demand.number || false) (k ∷ []) [] (or_from (eqb x.demand.number d.demand.number) false (ne_eqb x.demand.number d.demand.number h) refl)
  slots_of_put_other x d h (s ∷ ss) k =
      elim (taken clash x s) as (λ b. slots_of k d (cond b (s ∷ put clash ss x) ((x ∷ s) ∷ ss)) ≡ slots_of k d (s ∷ ss)) [
        | true ↦ ap (λ r. cond (has_unit d s) (k ∷ r) r) (slots_of_put_other x d h ss (k + 1))
        | false ↦ ap (λ b. cond (b || has_unit d s) (k ∷ slots_of (k + 1) d ss) (slots_of (k + 1) d ss)) (ne_eqb x.demand.number d.demand.number h)
      ]

  pub slots_of_puts_other : (x d : Route) → x.demand.number ≢ d.demand.number → (m : ℕ) (ss : List (List Route)) → slots_of 1 d (fold (put clash) ss (replicate m x)) ≡ slots_of 1 d ss
  slots_of_puts_other x d h zero ss = refl
  slots_of_puts_other x d h (suc m) ss = slots_of_puts_other x d h m (put clash ss x) ∙ slots_of_put_other x d h ss 1

  -- no slot holds a unit of d
  abbrev pub Clear : Route → List (List Route) → Type 0
  Clear d ss = Each (λ s. has_unit d s ≡ false) ss

  pub clear_none : (d : Route) (ss : List (List Route)) (k : ℕ) → Clear d ss → slots_of k d ss ≡ []
  clear_none d [] k h = refl
  clear_none d (s ∷ ss) k h = cond-false (has_unit d s) (k ∷ slots_of (k + 1) d ss) (slots_of (k + 1) d ss) h.0 ∙ clear_none d ss (k + 1) h.1

  pub none_clear : (d : Route) (ss : List (List Route)) (k : ℕ) → slots_of k d ss ≡ [] → Clear d ss
  none_clear d [] k h = tt
  none_clear d (s ∷ ss) k h =
      ⊎_elim
      (λ e. absurd (omega (arith, ap length (sym (cond-true (has_unit d s) (k ∷ slots_of (k + 1) d ss) (slots_of (k + 1) d ss) e) ∙ h))))
      (λ e. (e, none_clear d ss (k + 1) (sym (cond-false (has_unit d s) (k ∷ slots_of (k + 1) d ss) (slots_of (k + 1) d ss) e) ∙ h)))
      (cases_Bool (has_unit d s))

  -- the slots that hold a unit of d all stand before the first that is free for d
  abbrev pub Behind : Route → List (List Route) → Type 0
  Behind d [] = Unit {0}
  Behind d (s ∷ ss) = ((taken clash d s ≡ true) × Behind d ss) ⊎ Clear d (s ∷ ss)

  pub behind_clear : (d : Route) (ss : List (List Route)) → Clear d ss → Behind d ss
  behind_clear d [] h = tt
  behind_clear d (s ∷ ss) h = inr h

  behind_rest : (d : Route) (s : List Route) (ss : List (List Route)) → Behind d (s ∷ ss) → Behind d ss
  behind_rest d s ss h = ⊎_elim (λ q. q.1) (λ q. behind_clear d ss q.1) h

  behind_free : (d : Route) (s : List Route) (ss : List (List Route)) → Behind d (s ∷ ss) → taken clash d s ≡ false → Clear d (s ∷ ss)
  behind_free d s ss h e = ⊎_elim (λ q. absurd (false≢true (sym e ∙ q.0))) (λ q. q) h

  pub slots_of_put_same : (d : Route) (ss : List (List Route)) (k : ℕ) → Behind d ss → slots_of k d (put clash ss d) ≡ slots_of k d ss ++ (k + prefix_len (taken clash d) ss) ∷ []
  slots_of_put_same d [] k h =
      cond-true (eqb d.demand.number d.demand.number || false) (k ∷ []) [] (or_left (eqb d.demand.number d.demand.number) false (eq-eqb d.demand.number d.demand.number refl)) ∙ ap (λ j. j ∷ []) plain
    where
      plain : k ≡ k + 0
      plain = omega arith
  slots_of_put_same d (s ∷ ss) k h =
      ⊎_elim
      (λ e. ap (slots_of k d) (cond-true (taken clash d s) (s ∷ put clash ss d) ((d ∷ s) ∷ ss) e)
      ∙ ap (λ r. cond (has_unit d s) (k ∷ r) r) (slots_of_put_same d ss (k + 1) (behind_rest d s ss h))
      ∙ front (has_unit d s) (slots_of (k + 1) d ss) (k + 1 + prefix_len (taken clash d) ss)
      ∙ ap (λ j. slots_of k d (s ∷ ss) ++ j ∷ []) (further ∙ ap (λ j. k + j) (sym (cond-true (taken clash d s) (1 + prefix_len (taken clash d) ss) 0 e))))
      (λ e. let clear : Clear d (s ∷ ss) = behind_free d s ss h e in
      ap (slots_of k d) (cond-false (taken clash d s) (s ∷ put clash ss d) ((d ∷ s) ∷ ss) e)
      ∙ cond-true (eqb d.demand.number d.demand.number || has_unit d s) (k ∷ slots_of (k + 1) d ss) (slots_of (k + 1) d ss) (or_left (eqb d.demand.number d.demand.number) (has_unit d s) (eq-eqb d.demand.number d.demand.number refl))
      ∙ ap₂ (λ j r. j ∷ r) (plain ∙ ap (λ j. k + j) (sym (cond-false (taken clash d s) (1 + prefix_len (taken clash d) ss) 0 e))) (clear_none d ss (k + 1) clear.1)
      ∙ ap (λ r. r ++ (k + prefix_len (taken clash d) (s ∷ ss)) ∷ []) (sym (clear_none d (s ∷ ss) k clear)))
      (cases_Bool (taken clash d s))
    where
      plain : k ≡ k + 0
      plain = omega arith

      further : k + 1 + prefix_len (taken clash d) ss ≡ k + (1 + prefix_len (taken clash d) ss)
      further = omega arith

      front : (b : Bool) (r : List ℕ) (j : ℕ) → cond b (k ∷ (r ++ j ∷ [])) (r ++ j ∷ []) ≡ cond b (k ∷ r) r ++ j ∷ []
      front true r j = refl
      front false r j = refl

  pub behind_put : (d : Route) → clash d d ≡ true → (ss : List (List Route)) → Behind d ss → Behind d (put clash ss d)
  behind_put d own [] h = inl (or_left (clash d d) false own, tt)
  behind_put d own (s ∷ ss) h =
      ⊎_elim
      (λ e. subst (Behind d) (sym (cond-true (taken clash d s) (s ∷ put clash ss d) ((d ∷ s) ∷ ss) e)) (inl (e, behind_put d own ss (behind_rest d s ss h))))
      (λ e. subst (Behind d) (sym (cond-false (taken clash d s) (s ∷ put clash ss d) ((d ∷ s) ∷ ss) e)) (inl (or_left (clash d d) (taken clash d s) own, behind_rest d s ss h)))
      (cases_Bool (taken clash d s))

  pub slots_of_puts_same : (d : Route) → clash d d ≡ true → (m : ℕ) (ss : List (List Route)) → Behind d ss →
      slots_of 1 d (fold (put clash) ss (replicate m d)) ≡ slots_of 1 d ss ++ lows clash ss (replicate m d)
  slots_of_puts_same d own zero ss h = sym (append-nil (slots_of 1 d ss))
  slots_of_puts_same d own (suc m) ss h =
      slots_of_puts_same d own m (put clash ss d) (behind_put d own ss h)
      ∙ ap (λ r. r ++ lows clash (put clash ss d) (replicate m d)) (slots_of_put_same d ss 1 h)
      ∙ append_assoc (slots_of 1 d ss) (lowest clash ss d ∷ []) (lows clash (put clash ss d) (replicate m d))

-- ---- a turn, on the slots
abbrev pub slots_next : ℕ → (Route → Bool) → List (List Route) → Route → List (List Route)
slots_next n t ss d = cond (t d) (fold (put (shares n)) ss (replicate d.demand.units d)) ss

pub turn_units : (n : ℕ) (t : Route → Bool) (routes : List Route) (ss : List (List Route)) → fold (slots_next n t) ss routes ≡ fold (put (shares n)) ss (units_of (filter t routes))
turn_units n t [] ss = refl
turn_units n t (d ∷ ds) ss =
    elim (t d) as (λ b. fold (slots_next n t) (cond b (fold (put (shares n)) ss (replicate d.demand.units d)) ss) ds ≡ fold (put (shares n)) ss (units_of (cond b (d ∷ filter t ds) (filter t ds)))) [
      | true ↦ turn_units n t ds (fold (put (shares n)) ss (replicate d.demand.units d)) ∙ sym (fold-append (put (shares n)) ss (replicate d.demand.units d) (units_of (filter t ds)))
      | false ↦ turn_units n t ds ss
    ]

map_replicate : {X Y : Type 0} (f : X → Y) (m : ℕ) (x : X) → map f (replicate m x) ≡ replicate m (f x)
map_replicate f zero x = refl
map_replicate f (suc m) x = ap (λ r. f x ∷ r) (map_replicate f m x)

pub tied_next : (n : ℕ) (t : Route → Bool) (d : Route) (marks : List ℕ) (ss : List (List Route)) → Tied n marks ss → used marks + cond (t d) d.demand.units 0 ≤ length marks →
    Tied n (marks_after n t marks d) (slots_next n t ss d)
unfolding marks_after
tied_next n t d marks ss h =
    elim (t d) as (λ b. used marks + cond b d.demand.units 0 ≤ length marks → Tied n (cond b (fold marked marks (replicate d.demand.units (mask n d))) marks) (cond b (fold (put (shares n)) ss (replicate d.demand.units d)) ss)) [
      | true ↦ λ room. subst (λ ws. Tied n (fold marked marks ws) (fold (put (shares n)) ss (replicate d.demand.units d))) (map_replicate (mask n) d.demand.units d)
          (tied_folded n (replicate d.demand.units d) marks ss h (omega (arith, length-replicate d.demand.units d)))
      | false ↦ λ _. h
    ]

module _ (n : ℕ) (t : Route → Bool) where
  next_yes : (ss : List (List Route)) (d : Route) → t d ≡ true → slots_next n t ss d ≡ fold (put (shares n)) ss (replicate d.demand.units d)
  next_yes ss d e = cond-true (t d) (fold (put (shares n)) ss (replicate d.demand.units d)) ss e

  next_no : (ss : List (List Route)) (d : Route) → t d ≡ false → slots_next n t ss d ≡ ss
  next_no ss d e = cond-false (t d) (fold (put (shares n)) ss (replicate d.demand.units d)) ss e

  -- the slots that a demand gets in its turn
  pub part_yes : (d : Route) (marks part : List ℕ) (ss : List (List Route)) → Valid n d → Tied n marks ss → used marks + cond (t d) d.demand.units 0 ≤ length marks → slots_of 1 d ss ≡ [] → t d ≡ true →
      slots_after n t marks part d ≡ slots_of 1 d (slots_next n t ss d)
  unfolding slots_after
  part_yes d marks part ss v h room none e =
      cond-true (t d) (in_turn marks (replicate d.demand.units (mask n d))) part e
      ∙ ap (in_turn marks) (sym (map_replicate (mask n) d.demand.units d))
      ∙ tied_in_turn n (replicate d.demand.units d) marks ss h (omega (arith, room, cond-true {A = ℕ} (t d) d.demand.units 0 e, length-replicate d.demand.units d))
      ∙ ap (λ r. r ++ lows (shares n) ss (replicate d.demand.units d)) (sym none)
      ∙ sym (slots_of_puts_same (shares n) d (shares_itself n d v) d.demand.units ss (behind_clear (shares n) d ss (none_clear (shares n) d ss 1 none)))
      ∙ ap (slots_of 1 d) (sym (next_yes ss d e))

  pub part_no : (d : Route) (marks part : List ℕ) → t d ≡ false → slots_after n t marks part d ≡ part
  unfolding slots_after
  part_no d marks part e = cond-false (t d) (in_turn marks (replicate d.demand.units (mask n d))) part e

  pub slots_of_next_other : (x d : Route) → x.demand.number ≢ d.demand.number → (ss : List (List Route)) → slots_of 1 d (slots_next n t ss x) ≡ slots_of 1 d ss
  slots_of_next_other x d h ss =
      ⊎_elim (λ e. ap (slots_of 1 d) (next_yes ss x e) ∙ slots_of_puts_other (shares n) x d h x.demand.units ss) (λ e. ap (slots_of 1 d) (next_no ss x e)) (cases_Bool (t x))

  pub slots_of_turn_other : (d : Route) (ds : List Route) → Each (λ e. d.demand.number ≢ e.demand.number) ds → (ss : List (List Route)) → slots_of 1 d (fold (slots_next n t) ss ds) ≡ slots_of 1 d ss
  slots_of_turn_other d [] h ss = refl
  slots_of_turn_other d (x ∷ ds) h ss = slots_of_turn_other d ds h.1 (slots_next n t ss x) ∙ slots_of_next_other x d (λ e. h.0 (sym e)) ss

-- out has the slots of the demands that g says have had their turn, and no slot holds a unit of another
abbrev pub Agree : (Route → Bool) → List (List Route) → List ℕ → List Route → Type 0
Agree g ss out [] = Unit {0}
Agree g ss out (d ∷ ds) = ((g d ≡ true → take d.demand.units out ≡ slots_of 1 d ss) × (g d ≡ false → slots_of 1 d ss ≡ [])) × Agree g ss (drop d.demand.units out) ds

pub agree_other : (n : ℕ) (t g : Route → Bool) (x : Route) (ds : List Route) (ss : List (List Route)) (out : List ℕ) → Each (λ e. x.demand.number ≢ e.demand.number) ds → Agree g ss out ds → Agree g (slots_next n t ss x) out ds
agree_other n t g x [] ss out h a = tt
agree_other n t g x (d ∷ ds) ss out h a =
    ((λ e. a.0.0 e ∙ sym (slots_of_next_other n t x d h.0 ss), λ e. slots_of_next_other n t x d h.0 ss ∙ a.0.1 e), agree_other n t g x ds ss (drop d.demand.units out) h.1 a.1)

pub turn_agree : (n : ℕ) (t g : Route → Bool) (routes : List Route) (marks : List ℕ) (ss : List (List Route)) (out : List ℕ) → Tied n marks ss →
    used marks + sum_of (λ d. cond (t d) d.demand.units 0) routes ≤ length marks → sum_of (λ d. d.demand.units) routes ≡ length out → Distinct routes → Each (Valid n) routes →
    Each (λ d. t d ≡ true → g d ≡ false) routes → Agree g ss out routes → Agree (λ d. g d || t d) (fold (slots_next n t) ss routes) (filled n t marks out routes) routes
turn_agree n t g [] marks ss out h room long dis val new a = tt
turn_agree n t g (d ∷ ds) marks ss out h room long dis val new a =
    let own : List ℕ = take d.demand.units out in
    let part : List ℕ = slots_after n t marks own d in
    let marks1 : List ℕ = marks_after n t marks d in
    let ss1 : List (List Route) = slots_next n t ss d in
    let rest : List ℕ = filled n t marks1 (drop d.demand.units out) ds in
    let fits : d.demand.units ≤ length out = omega (arith, sum_cons (λ e. e.demand.units) d ds) in
    let size : length part ≡ d.demand.units = length_slots_after n t marks own d (length-take-le d.demand.units out fits) in
    let room1 : used marks + cond (t d) d.demand.units 0 ≤ length marks = omega (arith, sum_cons (λ e. cond (t e) e.demand.units 0) d ds) in
    let after : slots_of 1 d (fold (slots_next n t) ss1 ds) ≡ slots_of 1 d ss1 = slots_of_turn_other n t d ds dis.0 ss1 in (
      (
        λ e. take_at part rest d.demand.units size
            ∙ ⊎_elim
            (λ q. part_yes n t d marks own ss val.0 h room1 (a.0.1 (new.0 q)) q)
            (λ q. part_no n t d marks own q ∙ a.0.0 (⊎_elim (λ r. r) (λ r. absurd (false≢true (sym q ∙ r))) (or_cases (g d) (t d) e)) ∙ ap (slots_of 1 d) (sym (next_no n t ss d q)))
            (cases_Bool (t d))
            ∙ sym after,
        λ e. after ∙ ap (slots_of 1 d) (next_no n t ss d (or_parts (g d) (t d) e).1) ∙ a.0.1 (or_parts (g d) (t d) e).0,
      ),
      subst (λ o. Agree (λ x. g x || t x) (fold (slots_next n t) ss1 ds) o ds) (sym (drop_at part rest d.demand.units size))
          (turn_agree n t g ds marks1 ss1 (drop d.demand.units out) (tied_next n t d marks ss h room1)
          (omega (arith, used_after n t marks d, length_after n t marks d, sum_cons (λ e. cond (t e) e.demand.units 0) d ds))
          (omega (arith, length-drop d.demand.units out, sum_cons (λ e. e.demand.units) d ds))
          dis.1 val.1 new.1 (agree_other n t g d ds ss (drop d.demand.units out) dis.0 a.1)),
    )

-- at the end the slots are the rows'
pub agree_all : (g : Route → Bool) (routes : List Route) (ss : List (List Route)) (out : List ℕ) → sum_of (λ d. d.demand.units) routes ≡ length out → Each (λ d. g d ≡ true) routes → Agree g ss out routes →
    out ≡ flat_map (λ d. slots_of 1 d ss) routes
agree_all g [] ss out long all a = nil_from_length out (sym long)
agree_all g (d ∷ ds) ss out long all a =
    sym (take-append-drop d.demand.units out)
    ∙ ap₂ (λ x y. x ++ y) (a.0.0 all.0) (agree_all g ds ss (drop d.demand.units out) (omega (arith, length-drop d.demand.units out, sum_cons (λ e. e.demand.units) d ds)) all.1 a.1)

pub agree_none : (routes : List Route) (out : List ℕ) → Agree (λ _. false) [] out routes
agree_none [] out = tt
agree_none (d ∷ ds) out = ((λ e. absurd (false≢true e), λ _. refl), agree_none ds (drop d.demand.units out))
