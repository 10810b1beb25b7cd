use Rattle.std.proofs.Common.{◌≡◌, ℕ, ◌≤◌}
use Rattle.ring.proofs.PerLink.{Filled}
use Rattle.ring.proofs.links.figure_per_link.Given as goal

-- whatever function the closure computes, the first e links have its figures
abbrev pub invariant-loop-e : goal.invariant-loop-e
invariant-loop-e g l = (f : ℕ → ℕ) → ((e r : ℕ) → 1 ≤ e → e ≤ l.n → goal.F-post g l.figure e r → r ≡ f e) → Filled f l.e l.figures
