-- The slots of rows, counted one row after another.
use Rattle.std.proofs.Common.{◌≡◌, ℕ, ◌+◌, ◌<◌, Bool, true, false, cond, ◌||◌, eqb, List, [], ◌∷◌, ◌++◌, length, get_or, take, set, sym, refl, ap, ◌∙◌, ⊎_elim, arith}
use Rattle.std.proofs.lemmas.List.{take_more, get_or-set_same, get_or-set_other}
use Rattle.std.proofs.lemmas.Bool.{eqb-true, eqb-false, eq-eqb, ne_eqb, true≢false, cases_eq}
use Rattle.ring.specs.Ring.{in_use, slots, slot_count}
use Rattle.ring.specs.declared.Row.{Row}
use Rattle.ring.proofs.Meanings.{used}

-- a slot is in use with one row more
use_push : (rows : List Row) (q : Row) (k : ℕ) → in_use k (rows ++ q ∷ []) ≡ (in_use k rows || eqb k q.slot)
use_push [] q k = go (eqb k q.slot)
  where
    go : (t : Bool) → (t || false) ≡ t
    go true = refl
    go false = refl
use_push (r ∷ rs) q k = ap (λ t. eqb k r.slot || t) (use_push rs q k) ∙ go (eqb k r.slot) (in_use k rs) (eqb k q.slot)
  where
    go : (a b c : Bool) → (a || (b || c)) ≡ ((a || b) || c)
    go true b c = refl
    go false b c = refl

turned : (a b : ℕ) → eqb a b ≡ eqb b a
turned a b = go (eqb a b) refl
  where
    go : (t : Bool) → eqb a b ≡ t → t ≡ eqb b a
    go true h = sym (eq-eqb b a (sym (eqb-true a b h)))
    go false h = sym (ne_eqb b a (λ q. eqb-false a b h (sym q)))

-- the count of a list with a row in front, by the slots in use behind it
count_cons : (r : Row) (rs : List Row) → slot_count (r ∷ rs) ≡ cond (in_use r.slot rs) 0 1 + slot_count rs
count_cons r rs = ap (λ t. length (cond t (slots rs) (r.slot ∷ slots rs))) (used rs r.slot) ∙ go (in_use r.slot rs)
  where
    go : (t : Bool) → length (cond t (slots rs) (r.slot ∷ slots rs)) ≡ cond t 0 1 + length (slots rs)
    go true = omega arith
    go false = omega arith

count_push : (rows : List Row) (q : Row) → slot_count (rows ++ q ∷ []) ≡ slot_count rows + cond (in_use q.slot rows) 0 1
count_push [] q = refl
count_push (r ∷ rs) q =
    omega (
      arith,
      count_cons r (rs ++ q ∷ []),
      ap (λ t. cond {A = ℕ} t 0 1) (use_push rs q r.slot),
      count_push rs q,
      count_cons r rs,
      go (eqb r.slot q.slot) (in_use r.slot rs) (in_use q.slot rs) (λ h. ap (λ k. in_use k rs) (eqb-true r.slot q.slot h)),
      ap (λ t. cond {A = ℕ} (t || in_use q.slot rs) 0 1) (turned q.slot r.slot),
    )
  where
    go : (b a c : Bool) → (b ≡ true → a ≡ c) → cond {A = ℕ} (a || b) 0 1 + cond {A = ℕ} c 0 1 ≡ cond {A = ℕ} a 0 1 + cond {A = ℕ} (b || c) 0 1
    go true true true h = refl
    go true true false h = absurd (true≢false (h refl))
    go true false true h = absurd (true≢false (sym (h refl)))
    go true false false h = refl
    go false true true h = refl
    go false true false h = refl
    go false false true h = refl
    go false false false h = refl

-- ---- the loop over rows
pub use_more : (rows : List Row) (i : ℕ) (z : Row) (k : ℕ) → i < length rows → in_use k (take (i + 1) rows) ≡ (in_use k (take i rows) || eqb k (get_or rows i z).slot)
use_more rows i z k h = ap (in_use k) (take_more rows i z h) ∙ use_push (take i rows) (get_or rows i z) k

pub count_more : (rows : List Row) (i : ℕ) (z : Row) → i < length rows → slot_count (take (i + 1) rows) ≡ slot_count (take i rows) + cond (in_use (get_or rows i z).slot (take i rows)) 0 1
count_more rows i z h = ap slot_count (take_more rows i z h) ∙ count_push (take i rows) (get_or rows i z)

-- what has been seen, where a row brings a new slot s
pub seen_new : (seen : List Bool) (rows : List Row) (i s : ℕ) (z : Row) → s < length seen → i < length rows → s ≡ (get_or rows i z).slot →
    (k : ℕ) → get_or seen k false ≡ in_use k (take i rows) → get_or (set seen s true) k false ≡ in_use k (take (i + 1) rows)
seen_new seen rows i s z low h is k inv =
    ⊎_elim (λ (q : k ≡ s). ap (λ j. get_or (set seen s true) j false) q ∙ get_or-set_same seen s true false low ∙ sym (use_more rows i z k h ∙ on (in_use k (take i rows)) (eqb k (get_or rows i z).slot) (eq-eqb k (get_or rows i z).slot (q ∙ is))))
    (λ (ne : k ≡ s → ⊥). get_or-set_other seen s k true false ne ∙ inv ∙ sym (use_more rows i z k h ∙ off (in_use k (take i rows)) (eqb k (get_or rows i z).slot) (ne_eqb k (get_or rows i z).slot (λ q. ne (q ∙ sym is)))))
    (cases_eq k s)
  where
    on : (a b : Bool) → b ≡ true → (a || b) ≡ true
    on true b h = refl
    on false b h = h

    off : (a b : Bool) → b ≡ false → (a || b) ≡ a
    off true b h = refl
    off false b h = h

-- where its slot has been seen before
pub seen_old : (seen : List Bool) (rows : List Row) (i s : ℕ) (z : Row) → i < length rows → s ≡ (get_or rows i z).slot → in_use s (take i rows) ≡ true →
    (k : ℕ) → get_or seen k false ≡ in_use k (take i rows) → get_or seen k false ≡ in_use k (take (i + 1) rows)
seen_old seen rows i s z h is old k inv =
    inv ∙ go (in_use k (take i rows)) (eqb k (get_or rows i z).slot) (λ q. ap (λ j. in_use j (take i rows)) (eqb-true k (get_or rows i z).slot q ∙ sym is) ∙ old) ∙ sym (use_more rows i z k h)
  where
    go : (a b : Bool) → (b ≡ true → a ≡ true) → a ≡ (a || b)
    go true b f = refl
    go false true f = f refl
    go false false f = refl
