-- The rows of a node, found and written one by one.
use Rattle.std.proofs.Common.{◌≡◌, ℕ, suc, ◌+◌, ◌-◌, ◌<◌, ◌≤◌, Bool, true, false, cond, not, eqb, leb, List, [], ◌∷◌, ◌++◌, length, get_or, take, drop, set, sym, refl, ap, ap₂, ◌∙◌, subst, arith}
use Rattle.std.specs.List.{enumerate_from}
use Rattle.std.proofs.lemmas.List.{append_assoc, length-take-le, take_all, take_more, set-append_right, drop_more}
use Rattle.std.proofs.lemmas.List.FromFn.{length-enumerate_from, get_or-enumerate_from}
use Rattle.std.proofs.lemmas.Bool.{or_parts, cond-false, cond-true, le-leb}
use Rattle.ring.specs.Ring.{named}
use Rattle.ring.specs.declared.Demand.{Demand}
use Rattle.ring.specs.declared.Row.{Row}
use Rattle.checkrows.specs.Track.{line_of, line_at, LineOf}
use Rattle.planwrite.specs.Fronts.{fronted}
use Rattle.booklaw.specs.Books.{has_end, ends_at}

-- ---- the ends of a row's demand
pub ends_unknown : (ds : List Demand) (node : ℕ) (r : Row) → named ds r.demand ≡ false → ends_at ds node r ≡ false
ends_unknown [] node r h = refl
ends_unknown (d ∷ ds) node r h =
    let p = or_parts (eqb d.number r.demand) (named ds r.demand) h in
    cond-false (eqb d.number r.demand) _ _ p.0 ∙ ends_unknown ds node r p.1

ends_by_line : (ds : List Demand) (node : ℕ) (r : Row) → line_of ds r.demand < length ds → ends_at ds node r ≡ has_end node (line_at ds (line_of ds r.demand))
ends_by_line [] node r h = absurd (omega arith)
ends_by_line (d ∷ ds) node r h = go (eqb d.number r.demand) h (ends_by_line ds node r)
  where
    at : Bool → ℕ
    at t = cond (not t) (1 + line_of ds r.demand) 0

    go : (t : Bool) → at t < suc (length ds) → (line_of ds r.demand < length ds → ends_at ds node r ≡ has_end node (line_at ds (line_of ds r.demand))) →
        cond t (has_end node d) (ends_at ds node r) ≡ has_end node (line_at (d ∷ ds) (at t))
    go true l ih = refl
    go false l ih = let s : suc (line_of ds r.demand) ≡ 1 + line_of ds r.demand = omega arith in ih (omega arith) ∙ ap (λ k. has_end node (line_at (d ∷ ds) k)) s

pub ends_at_line : (ds : List Demand) (node : ℕ) (r : Row) (k : ℕ) → LineOf ds r.demand k → has_end node (line_at ds k) ≡ ends_at ds node r
ends_at_line ds node r k h =
    ap (λ j. has_end node (line_at ds j)) h.place ∙ sym (ends_by_line ds node r (subst (λ j. j < length ds) h.place h.inside))

-- ---- the rows written to the front, one after another
module _ {X : Type 0} where
  -- the item of a turn is numbered by the turns before it
  pub turn_is : (ws : List X) (k at : ℕ) (x : X) → (k < length (enumerate_from 0 ws)) × ((at, x) ≡ get_or (enumerate_from 0 ws) k (at, x)) →
      (at ≡ k) × (x ≡ get_or ws k x) × (k < length ws)
  turn_is ws k at x h =
      let lt : k < length ws = omega (arith, h.0, length-enumerate_from 0 ws) in
      let is : (at, x) ≡ (0 + k, get_or ws k x) = h.1 ∙ get_or-enumerate_from 0 ws k (at, x) lt in
      (omega (arith, ap (λ (p : ℕ × X). p.0) is), ap (λ (p : ℕ × X). p.1) is, lt)

  -- one row more is written behind those that were
  pub written_more : (ws old places : List X) (k at : ℕ) (x : X) → places ≡ take k ws ++ drop k old → length ws ≤ length old →
      (at ≡ k) × (x ≡ get_or ws k x) × (k < length ws) → set places at x ≡ take (k + 1) ws ++ drop (k + 1) old
  written_more ws old places k at x w room h =
      let full : length (take k ws) ≡ k = length-take-le k ws (omega (arith, h.2)) in
      let here : drop k old ≡ get_or old k x ∷ drop (k + 1) old = drop_more old k x (omega (arith, room, h.2)) in
      let z : k - k ≡ 0 = omega arith in
      ap₂ (λ ys j. set ys j x) w h.0
      ∙ set-append_right (take k ws) (drop k old) k k x full (omega arith)
      ∙ ap (λ j. take k ws ++ set (drop k old) j x) z
      ∙ ap (λ ys. take k ws ++ set ys 0 x) here
      ∙ sym (append_assoc (take k ws) (x ∷ []) (drop (k + 1) old))
      ∙ ap (λ y. (take k ws ++ (y ∷ [])) ++ drop (k + 1) old) h.1
      ∙ ap (λ ys. ys ++ drop (k + 1) old) (sym (take_more ws k x h.2))

  -- all are written
  pub written_all : (ws old places : List X) (k : ℕ) → places ≡ take k ws ++ drop k old → length ws ≤ length old → k ≡ length (enumerate_from 0 ws) →
      places ≡ fronted ws old
  written_all ws old places k w room e =
      let all : k ≡ length ws = e ∙ length-enumerate_from 0 ws in
      w
      ∙ ap (λ j. take j ws ++ drop j old) all
      ∙ ap (λ ys. ys ++ drop (length ws) old) (take_all (length ws) ws (omega arith))
      ∙ sym (cond-true (leb (length ws) (length old)) (ws ++ drop (length ws) old) old (le-leb (length ws) (length old) room))
