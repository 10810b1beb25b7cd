-- No lawful choice sends the pairs 1-2 and 2-3 of a three-node ring the long way.
use Rattle.std.proofs.Common.{◌≡◌, ℕ, false, sym, ap, ◌∙◌, arith}
use Rattle.std.proofs.lemmas.Bool.Decides.{nat_tests}
use Rattle.ring.specs.Ring.{over, Link}
use Rattle.ring.specs.Sides.{code}
use Rattle.ring.specs.declared.Side.{Side}
use Rattle.rules.specs.Law.{LongWaysBreakTheLaw}

-- a link that both routes miss is not there
none_left : (f : ℕ) → Link 3 f → over 1 1 2 f ≡ false → over 1 2 3 f ≡ false → ⊥
none_left f l a b = grind (arith, nat_tests)

pub long_ways_break_the_law : LongWaysBreakTheLaw
long_ways_break_the_law σ first second law =
    let miss = law 3 (omega arith) (omega arith) 1 2 2 3 (omega arith, omega arith, omega arith) (omega arith, omega arith, omega arith) 3 (omega arith, omega arith)
    (ap (λ (s : Side). over (code s) 1 2 3) first) (ap (λ (s : Side). over (code s) 2 3 3) second) in
    none_left miss.0 miss.1 (sym (ap (λ (s : Side). over (code s) 1 2 miss.0) first) ∙ miss.2) (sym (ap (λ (s : Side). over (code s) 2 3 miss.0) second) ∙ miss.3)
