-- The marks stand for the slots.
use Rattle.std.proofs.Common.{◌≡◌, ℕ, zero, suc, ◌+◌, ◌<◌, ◌≤◌, Bool, true, false, cond, not, ◌&&◌, ◌||◌, eqb, ◌≢◌, List, [], ◌∷◌, map, length, get_or, set, replicate, fold, sym, refl, ap, ◌∙◌, subst, ap₂, ⊎_elim, one-add, arith}
use mathlib.Core.Bool.{or_comm}
use lib.Bits.{bit_or}
use Rattle.std.specs.List.{range_with_len, prefix_len}
use Rattle.std.proofs.lemmas.List.{get_or-set_same, get_or-set_other, get_or-replicate, get_or_past, length-replicate}
use Rattle.std.proofs.lemmas.Bool.{cond-false, cases_eq, cases_lt}
use Rattle.ring.specs.Sides.{holds}
use Rattle.ring.specs.declared.Route.{Route}
use Rattle.ring.specs.Sums.{some}
use Rattle.drawn.specs.FirstFit.{taken, lowest, put}
use Rattle.drawn.specs.Slotting.{shares}
use Rattle.ring.specs.Masks.{bits}
use Rattle.sheet.specs.Marks.{Blank, meets, free_at, marked, in_turn, used}
use Rattle.placing.specs.Drawing.{mask, Empty}
use Rattle.ring.proofs.Bits.{bits_or, bits_and, bits_same, bits_some, some_same, some_or, some_none}
use Rattle.sheet.proofs.Marks.{free_le_used, used_marked, length_marked}

-- ---- the links that are held in a slot
abbrev pub held : List Route → ℕ → Bool
held slot e = some (λ u. holds u e) slot

distribute : (a b c : Bool) → ((a || b) && c) ≡ ((c && a) || (b && c))
distribute true b true = refl
distribute true true false = refl
distribute true false false = refl
distribute false true true = refl
distribute false true false = refl
distribute false false true = refl
distribute false false false = refl

pub held_taken : (n : ℕ) (d : Route) (slot : List Route) → some (λ e. held slot e && holds d e) (range_with_len 1 n) ≡ taken (shares n) d slot
held_taken n d [] = some_none (range_with_len 1 n)
held_taken n d (u ∷ slot) =
    some_same (λ e. (holds u e || held slot e) && holds d e) (λ e. (holds d e && holds u e) || (held slot e && holds d e)) (λ e. distribute (holds u e) (held slot e) (holds d e)) (range_with_len 1 n)
    ∙ some_or (λ e. holds d e && holds u e) (λ e. held slot e && holds d e) (range_with_len 1 n)
    ∙ ap (λ b. shares n d u || b) (held_taken n d slot)

-- each mark has the bits of the links that are held in its slot
abbrev pub Tied : ℕ → List ℕ → List (List Route) → Type 0
Tied n marks slots = (k : ℕ) → get_or marks k 0 ≡ bits 1 n (held (get_or slots k []))

pub tied_meets : (n : ℕ) (marks : List ℕ) (slots : List (List Route)) → Tied n marks slots → (d : Route) (k : ℕ) → meets (mask n d) (get_or marks k 0) ≡ taken (shares n) d (get_or slots k [])
tied_meets n marks slots h d k =
    ap (meets (mask n d)) (h k)
    ∙ ap (λ z. not (eqb z 0)) (bits_and (held (get_or slots k [])) (holds d) 1 n)
    ∙ bits_some (λ e. held (get_or slots k []) e && holds d e) 1 n
    ∙ held_taken n d (get_or slots k [])

-- ---- one more unit
leading_same : {X : Type 0} (p : ℕ → Bool) (q : X → Bool) (d : X) → p 0 ≡ false → q d ≡ false → (xs : List ℕ) (ys : List X) → ((k : ℕ) → p (get_or xs k 0) ≡ q (get_or ys k d)) → prefix_len p xs ≡ prefix_len q ys
leading_same p q d p0 qd [] [] h = refl
leading_same p q d p0 qd [] (y ∷ ys) h = sym (cond-false (q y) (1 + prefix_len q ys) 0 (sym (h 0) ∙ p0))
leading_same p q d p0 qd (x ∷ xs) [] h = cond-false (p x) (1 + prefix_len p xs) 0 (h 0 ∙ qd)
leading_same p q d p0 qd (x ∷ xs) (y ∷ ys) h = ap₂ (λ b k. cond b (1 + k) 0) (h 0) (leading_same p q d p0 qd xs ys (λ k. h (suc k)))

pub tied_free : (n : ℕ) (marks : List ℕ) (slots : List (List Route)) → Tied n marks slots → (d : Route) → free_at marks (mask n d) ≡ prefix_len (taken (shares n) d) slots
tied_free n marks slots h d = leading_same (meets (mask n d)) (taken (shares n) d) [] refl refl marks slots (tied_meets n marks slots h d)

pub get_or_put_same : {X : Type 0} (clash : X → X → Bool) (ss : List (List X)) (x : X) → get_or (put clash ss x) (prefix_len (taken clash x) ss) [] ≡ x ∷ get_or ss (prefix_len (taken clash x) ss) []
get_or_put_same clash [] x = refl
get_or_put_same clash (s ∷ ss) x =
    elim (taken clash x s) as (λ b. get_or (cond b (s ∷ put clash ss x) ((x ∷ s) ∷ ss)) (cond b (1 + prefix_len (taken clash x) ss) 0) [] ≡ x ∷ get_or (s ∷ ss) (cond b (1 + prefix_len (taken clash x) ss) 0) []) [
      | true ↦ subst (λ k. get_or (s ∷ put clash ss x) k [] ≡ x ∷ get_or (s ∷ ss) k []) (sym (one-add (prefix_len (taken clash x) ss))) (get_or_put_same clash ss x)
      | false ↦ refl
    ]

pub get_or_put_other : {X : Type 0} (clash : X → X → Bool) (ss : List (List X)) (x : X) (k : ℕ) → k ≢ prefix_len (taken clash x) ss → get_or (put clash ss x) k [] ≡ get_or ss k []
get_or_put_other clash [] x zero h = absurd (h refl)
get_or_put_other clash [] x (suc k) h = refl
get_or_put_other clash (s ∷ ss) x zero h =
    (elim (taken clash x s) as (λ b. (0 ≢ cond b (1 + prefix_len (taken clash x) ss) 0) → get_or (cond b (s ∷ put clash ss x) ((x ∷ s) ∷ ss)) 0 [] ≡ s) [ true ↦ λ _. refl | false ↦ λ g. absurd (g refl) ]) h
get_or_put_other clash (s ∷ ss) x (suc k) h =
    (elim (taken clash x s) as (λ b. (suc k ≢ cond b (1 + prefix_len (taken clash x) ss) 0) → get_or (cond b (s ∷ put clash ss x) ((x ∷ s) ∷ ss)) (suc k) [] ≡ get_or ss k [])
    [ true ↦ λ g. get_or_put_other clash ss x k (omega arith) | false ↦ λ g. refl ]) h

pub tied_marked : (n : ℕ) (marks : List ℕ) (slots : List (List Route)) (d : Route) → Tied n marks slots → free_at marks (mask n d) < length marks → Tied n (marked marks (mask n d)) (put (shares n) slots d)
unfolding marked
tied_marked n marks slots d h room k =
    let w : ℕ = mask n d in
    let l : ℕ = free_at marks w in
    let t : ℕ = prefix_len (taken (shares n) d) slots in
    let e : l ≡ t = tied_free n marks slots h d in
    let y : ℕ = bit_or (get_or marks l 0) w in
    ⊎_elim
    (λ q. ap (λ j. get_or (set marks l y) j 0) q ∙ get_or-set_same marks l y 0 room
    ∙ ap (λ z. bit_or z w) (h l)
    ∙ bits_or (held (get_or slots l [])) (holds d) 1 n
    ∙ bits_same (λ v. held (get_or slots l []) v || holds d v) (held (d ∷ get_or slots l [])) (λ v. or_comm (held (get_or slots l []) v) (holds d v)) 1 n
    ∙ ap (λ j. bits 1 n (held (d ∷ get_or slots j []))) e
    ∙ ap (λ s. bits 1 n (held s)) (sym (get_or_put_same (shares n) slots d))
    ∙ ap (λ j. bits 1 n (held (get_or (put (shares n) slots d) j []))) (sym e ∙ sym q))
    (λ q. get_or-set_other marks l k y 0 q ∙ h k ∙ ap (λ s. bits 1 n (held s)) (sym (get_or_put_other (shares n) slots d k (λ f. q (f ∙ sym e)))))
    (cases_eq k l)

-- ---- all units in their turn
abbrev pub lows : {X : Type 0} → (X → X → Bool) → List (List X) → List X → List ℕ
lows clash ss [] = []
lows clash ss (x ∷ xs) = lowest clash ss x ∷ lows clash (put clash ss x) xs

pub tied_folded : (n : ℕ) (xs : List Route) (marks : List ℕ) (slots : List (List Route)) → Tied n marks slots → used marks + length xs ≤ length marks →
    Tied n (fold marked marks (map (mask n) xs)) (fold (put (shares n)) slots xs)
tied_folded n [] marks slots h room = h
tied_folded n (x ∷ xs) marks slots h room =
    tied_folded n xs (marked marks (mask n x)) (put (shares n) slots x)
    (tied_marked n marks slots x h (omega (arith, free_le_used marks (mask n x))))
    (omega (arith, used_marked marks (mask n x), length_marked marks (mask n x)))

pub tied_in_turn : (n : ℕ) (xs : List Route) (marks : List ℕ) (slots : List (List Route)) → Tied n marks slots → used marks + length xs ≤ length marks →
    in_turn marks (map (mask n) xs) ≡ lows (shares n) slots xs
tied_in_turn n [] marks slots h room = refl
tied_in_turn n (x ∷ xs) marks slots h room =
    ap₂ (λ k ks. (1 + k) ∷ ks) (tied_free n marks slots h x)
    (tied_in_turn n xs (marked marks (mask n x)) (put (shares n) slots x)
    (tied_marked n marks slots x h (omega (arith, free_le_used marks (mask n x))))
    (omega (arith, used_marked marks (mask n x), length_marked marks (mask n x))))

-- an empty sheet stands for no slots
held_none : (n : ℕ) (e : ℕ) → bits e n (held []) ≡ 0
held_none zero e = refl
held_none (suc n) e = omega (arith, held_none n (e + 1))

pub tied_none : (n : ℕ) (marks : List ℕ) → Empty marks → Tied n marks []
tied_none n marks h k = h k ∙ sym (held_none n 1)

pub blank_empty : (marks : List ℕ) (n : ℕ) → Blank marks n → Empty marks
blank_empty marks n h k = ap (λ ms. get_or ms k 0) h ∙ ⊎_elim (λ l. get_or-replicate n k 0 0 l) (λ l. get_or_past (replicate n 0) k 0 (omega (arith, length-replicate {A = ℕ} n 0))) (cases_lt k n)
