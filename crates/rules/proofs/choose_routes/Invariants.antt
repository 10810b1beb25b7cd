use Rattle.std.proofs.Common.{◌≡◌, take}
use Rattle.ring.specs.Sides.{routes_by}
use Rattle.rules.proofs.choose_routes.Given as goal

-- the first i routes are chosen
abbrev pub invariant-loop-i : goal.invariant-loop-i
invariant-loop-i g l = take l.i l.routes ≡ routes_by (g.R.Rule.side l.rule) l.n (take l.i l.demands)
