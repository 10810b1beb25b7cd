use Rattle.std.proofs.Common.{rules, of_calls, ◌≡◌, ℕ, ◌<◌, map, get_or, refl, sym, ◌∙◌, subst, arith}
use Rattle.std.proofs.lemmas.List.{ext_get_or, get_or-map}
use Rattle.ring.specs.Ring.{WithinLimits}
use Rattle.ring.specs.declared.Demand.{Demand}
use Rattle.ring.proofs.Limits.{to_limits}
use Rattle.slotting_samples.specs.declared.TheConstants.{FULL}
use Rattle.slotting_samples.proofs.full_book.Goals as goal

abbrev made : ℕ × ℕ × ℕ × ℕ → Demand
made t = record { number = t.0; lower = t.1; upper = t.2; units = t.3 }

-- the test of the limits passes
pub returns : goal.returns
returns c =
    let none : Demand = made (0, 0, 0, 0) in
    let calls = c.map.ensures.items in
    let is : c.map.result ≡ map made FULL =
    ext_get_or none c.map.result (map made FULL) calls.long
    (λ k l.
    let low : k < 22 = omega (arith, calls.long) in
    let call = calls.at k (0, 0, 0, 0) none low in
    let e : get_or c.map.result k none ≡ made (get_or FULL k (0, 0, 0, 0)) = search (rules, of_calls) in
    e ∙ sym (get_or-map made FULL k (0, 0, 0, 0) none low)) in
    subst (WithinLimits 16) (sym is) (to_limits 16 (map made FULL) refl)
