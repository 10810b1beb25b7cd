-- The route of a row, by its line and by its mask.
use Rattle.std.proofs.Common.{◌≡◌, ℕ, zero, suc, ◌+◌, ◌<◌, Bool, true, false, cond, not, ◌&&◌, eqb, List, [], ◌∷◌, length, Some, None, Option, MatchOption, sym, refl, ap, ◌∙◌, arith}
use lib.Bits.{bit_and}
use Rattle.std.proofs.lemmas.Bool.{or_parts, cond-false}
use Rattle.ring.specs.Ring.{over, within, row_over, named}
use Rattle.ring.specs.Sides.{code, holds}
use Rattle.ring.specs.declared.Route.{Route}
use Rattle.ring.specs.declared.Side.{Side}
use Rattle.checkrows.specs.Rows.{meet}
use Rattle.ring.specs.Masks.{bits, link_mask}
use Rattle.checkrows.specs.Track.{mask, line_of, line_at, LineOf}
use Rattle.ring.specs.declared.Demand.{Demand}
use Rattle.ring.specs.declared.Row.{Row}
use Rattle.ring.proofs.Bits.{bits_and, bits_same, bits_some}

pub row_unknown : (ds : List Demand) (r : Row) (e : ℕ) → named ds r.demand ≡ false → row_over ds r e ≡ false
row_unknown [] r e h = refl
row_unknown (d ∷ ds) r e h =
    let p = or_parts (eqb d.number r.demand) (named ds r.demand) h in
    cond-false (eqb d.number r.demand) _ _ p.0 ∙ row_unknown ds r e p.1

pub row_by_line : (ds : List Demand) (r : Row) (e : ℕ) → line_of ds r.demand < length ds →
    row_over ds r e ≡ over r.side (line_at ds (line_of ds r.demand)).lower (line_at ds (line_of ds r.demand)).upper e
row_by_line [] r e h = absurd (omega arith)
row_by_line (d ∷ ds) r e h = go (eqb d.number r.demand) h (row_by_line ds r e)
  where
    at : Bool → ℕ
    at t = cond (not t) (1 + line_of ds r.demand) 0

    go : (t : Bool) → at t < suc (length ds) →
        (line_of ds r.demand < length ds → row_over ds r e ≡ over r.side (line_at ds (line_of ds r.demand)).lower (line_at ds (line_of ds r.demand)).upper e) →
        cond t (over r.side d.lower d.upper e) (row_over ds r e) ≡ over r.side (line_at (d ∷ ds) (at t)).lower (line_at (d ∷ ds) (at t)).upper e
    go true l ih = refl
    go false l ih = let s : suc (line_of ds r.demand) ≡ 1 + line_of ds r.demand = omega arith in ih (omega arith) ∙ ap (λ k. over r.side (line_at (d ∷ ds) k).lower (line_at (d ∷ ds) k).upper e) s

pub none_bits : (e m : ℕ) → bits e m (λ _. false) ≡ 0
none_bits e zero = refl
none_bits e (suc m) = omega (arith, none_bits (e + 1) m)

mask_unknown : (n : ℕ) (ds : List Demand) (r : Row) → ((e : ℕ) → row_over ds r e ≡ false) → mask n ds r ≡ 0
mask_unknown n ds r h = bits_same (row_over ds r) (λ _. false) h 1 n ∙ none_bits 1 n

-- a route has the side's number only as 0 or not 0
over_by : (s t i j e : ℕ) → eqb s 0 ≡ eqb t 0 → over s i j e ≡ over t i j e
over_by s t i j e h = ap (λ b. cond b (within i j e) (not (within i j e))) h

-- two masks meet exactly where the routes share a link
pub masks_meet : (n : ℕ) (ds : List Demand) (r q : Row) → not (eqb (bit_and (mask n ds r) (mask n ds q)) 0) ≡ meet n ds r q
masks_meet n ds r q = ap (λ z. not (eqb z 0)) (bits_and (row_over ds r) (row_over ds q) 1 n) ∙ bits_some (λ e. row_over ds r e && row_over ds q e) 1 n

-- the route of a row, with the ends of its line and a side
pub route_is : (ds : List Demand) (r : Row) (k : ℕ) (side : Side) → LineOf ds r.demand k → eqb (code side) 0 ≡ eqb r.side 0 →
    (e : ℕ) → holds (record { demand = line_at ds k; side = side }) e ≡ row_over ds r e
route_is ds r k side h q e =
    let at = h.place in
    let inside = h.inside in
    over_by (code side) r.side (line_at ds k).lower (line_at ds k).upper e q
    ∙ ap (λ j. over r.side (line_at ds j).lower (line_at ds j).upper e) at
    ∙ sym (row_by_line ds r e (omega arith))

-- and its mask
mask_is : (n : ℕ) (ds : List Demand) (r : Row) (d : Route) → ((e : ℕ) → holds d e ≡ row_over ds r e) → link_mask n (code d.side) d.demand.lower d.demand.upper ≡ mask n ds r
mask_is n ds r d h = bits_same (holds d) (row_over ds r) h 1 n

-- a mask by the route, or 0 where there is none
pub mask_by : (n : ℕ) (ds : List Demand) (r : Row) (o : Option Route) (w : ℕ) (Q : Route → Type 0) →
    MatchOption o ((e : ℕ) → row_over ds r e ≡ false) (λ d. (e : ℕ) → holds d e ≡ row_over ds r e) → MatchOption o (w ≡ 0) Q →
    ((d : Route) → Q d → w ≡ link_mask n (code d.side) d.demand.lower d.demand.upper) → w ≡ mask n ds r
mask_by n ds r None w Q h k f = k ∙ sym (mask_unknown n ds r h)
mask_by n ds r (Some d) w Q h k f = f d k ∙ mask_is n ds r d h
