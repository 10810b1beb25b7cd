-- What the recursive definitions mean in other words.
use Rattle.std.proofs.Common.{◌≡◌, ℕ, zero, suc, Bool, true, false, cond, ◌||◌, eqb, List, [], ◌∷◌, refl, ap, ◌∙◌, arith}
use Rattle.std.proofs.ByRecursion.{All-get_or, All-from_get_or}
use Rattle.std.proofs.lemmas.Bool.{eqb-true}
use Rattle.ring.specs.Ring.{Apart, Clear, ClearAt, has, slots, Once, in_use}
use Rattle.ring.specs.Claims.{ClearByPlaces, SlotsCountedOnce}
use Rattle.ring.specs.declared.Demand.{Demand}
use Rattle.ring.specs.declared.Row.{Row}

to_places : (n : ℕ) (ds : List Demand) (rows : List Row) → Clear n ds rows → ClearAt n ds rows
to_places n ds [] h a b z l m = absurd (omega arith)
to_places n ds (r ∷ rs) h zero zero z l m = absurd (omega arith)
to_places n ds (r ∷ rs) h zero (suc b) z l m = All-get_or (λ (q : Row). Apart n ds r q) rs b z (omega arith) h.0
to_places n ds (r ∷ rs) h (suc a) zero z l m = absurd (omega arith)
to_places n ds (r ∷ rs) h (suc a) (suc b) z l m = to_places n ds rs h.1 a b z (omega arith) (omega arith)

from_places : (n : ℕ) (ds : List Demand) (rows : List Row) → ClearAt n ds rows → Clear n ds rows
from_places n ds [] h = tt
from_places n ds (r ∷ rs) h = (
  All-from_get_or (λ (q : Row). Apart n ds r q) rs r (λ i l. h 0 (suc i) r (omega arith) (omega arith)),
  from_places n ds rs (λ a b z l m. h (suc a) (suc b) z (omega arith) (omega arith)),
)

pub clear_by_places : ClearByPlaces
clear_by_places n ds rows = (to_places n ds rows, from_places n ds rows)

pub once : (rows : List Row) → Once (slots rows)
once [] = tt
once (r ∷ rs) = go (has r.slot (slots rs)) refl (once rs)
  where
    go : (t : Bool) → has r.slot (slots rs) ≡ t → Once (slots rs) → Once (cond t (slots rs) (r.slot ∷ slots rs))
    go true x ih = ih
    go false x ih = (x, ih)

pub used : (rows : List Row) (k : ℕ) → has k (slots rows) ≡ in_use k rows
used [] k = refl
used (r ∷ rs) k = go (has r.slot (slots rs)) refl (eqb k r.slot) refl (used rs k)
  where
    go : (t : Bool) → has r.slot (slots rs) ≡ t → (u : Bool) → eqb k r.slot ≡ u → has k (slots rs) ≡ in_use k rs →
        has k (cond t (slots rs) (r.slot ∷ slots rs)) ≡ (u || in_use k rs)
    go true x true y ih = ap (λ j. has j (slots rs)) (eqb-true k r.slot y) ∙ x
    go true x false y ih = ih
    go false x true y ih = ap (λ b. b || has k (slots rs)) y
    go false x false y ih = ap (λ b. b || has k (slots rs)) y ∙ ih

pub slots_counted_once : (rows : List Row) → SlotsCountedOnce rows
slots_counted_once rows = (once rows, used rows)
