-- What a turn does to the marks and to the slots of a route: how long they are, and how many marks are used; and the step of the loop over the routes.
use Rattle.std.proofs.Common.{◌≡◌, ℕ, ◌+◌, ◌-◌, ◌<◌, ◌≤◌, Bool, true, false, cond, List, ◌++◌, length, get_or, take, drop, replicate, fold, sym, refl, ap, ◌∙◌, ap₂, arith}
use borrow.Rule.Slice.PartMut.{put_mid}
use Rattle.std.proofs.lemmas.List.{append_assoc, drop-drop, at_drop_more, length-replicate, length-take-le, length-drop}
use Rattle.std.proofs.lemmas.Slice.{take-put_mid, drop-put_mid}
use Rattle.ring.specs.declared.Route.{Route}
use Rattle.sheet.specs.Marks.{marked, in_turn, used}
use Rattle.placing.specs.Drawing.{mask, marks_after, slots_after, filled}
use Rattle.sheet.proofs.Marks.{used_folded, length_folded, length_in_turn}

pub used_after : (n : ℕ) (t : Route → Bool) (marks : List ℕ) (d : Route) → used (marks_after n t marks d) ≤ used marks + cond (t d) d.demand.units 0
unfolding marks_after
used_after n t marks d =
    elim (t d) as (λ b. used (cond b (fold marked marks (replicate d.demand.units (mask n d))) marks) ≤ used marks + cond b d.demand.units 0)
    [ true ↦ omega (arith, used_folded (replicate d.demand.units (mask n d)) marks, length-replicate d.demand.units (mask n d)) | false ↦ omega arith ]

pub length_after : (n : ℕ) (t : Route → Bool) (marks : List ℕ) (d : Route) → length (marks_after n t marks d) ≡ length marks
unfolding marks_after
length_after n t marks d =
    elim (t d) as (λ b. length (cond b (fold marked marks (replicate d.demand.units (mask n d))) marks) ≡ length marks)
    [ true ↦ length_folded (replicate d.demand.units (mask n d)) marks | false ↦ refl ]

pub length_slots_after : (n : ℕ) (t : Route → Bool) (marks part : List ℕ) (d : Route) → length part ≡ d.demand.units → length (slots_after n t marks part d) ≡ d.demand.units
unfolding slots_after
length_slots_after n t marks part d h =
    elim (t d) as (λ b. length (cond b (in_turn marks (replicate d.demand.units (mask n d))) part) ≡ d.demand.units)
    [ true ↦ length_in_turn (replicate d.demand.units (mask n d)) marks ∙ length-replicate d.demand.units (mask n d) | false ↦ h ]

-- the list of slots: the u units of the route at i have the places from at on
pub out_more : (n : ℕ) (t : Route → Bool) (routes : List Route) (i : ℕ) (z : Route) → i < length routes → (marks next out part : List ℕ) (at u : ℕ) → u ≡ (get_or routes i z).demand.units → at + u ≤ length out →
    next ≡ marks_after n t marks (get_or routes i z) → part ≡ slots_after n t marks (take (at + u - at) (drop at out)) (get_or routes i z) →
    take (at + u) (put_mid at (at + u - at) out part) ++ filled n t next (drop (at + u) (put_mid at (at + u - at) out part)) (drop (i + 1) routes)
    ≡ take at out ++ filled n t marks (drop at out) (drop i routes)
out_more n t routes i z lt marks next out part at u is fits e p =
    let d : Route = get_or routes i z in
    let k : ℕ = at + u - at in
    let rest : List Route = drop (i + 1) routes in
    let whole : k ≡ u = omega arith in
    let long : length part ≡ k = ap length p ∙ length_slots_after n t marks (take k (drop at out)) d (length-take-le k (drop at out) (omega (arith, length-drop at out)) ∙ whole ∙ is) ∙ sym is ∙ sym whole in
    ap₂ (λ a b. a ++ filled n t next b rest)
    (take-put_mid at k out part (at + u) (omega arith) (omega arith))
    (drop-put_mid at k out part (at + u) (omega arith) (omega arith) long)
    ∙ append_assoc (take at out) part (filled n t next (drop (at + u) out) rest)
    ∙ ap (λ a. take at out ++ a)
    (ap₂ (λ a s. a ++ filled n t s (drop (at + u) out) rest) p e
    ∙ ap₂ (λ j o. slots_after n t marks (take j (drop at out)) d ++ filled n t (marks_after n t marks d) o rest) (whole ∙ is) (sym (drop-drop u at out) ∙ ap (λ j. drop j (drop at out)) is))
    ∙ sym (at_drop_more (λ ds. take at out ++ filled n t marks (drop at out) ds) routes i z lt)
