use Rattle.std.proofs.Common.{◌≡◌, ◌+◌, ◌-◌}
use Rattle.ring.specs.Sides.{holds}
use Rattle.ring.specs.Masks.{bits}
use Rattle.ring.proofs.Route.link_mask.Given as goal

-- the mask has the links past those that are left
abbrev pub invariant-loop-link : goal.invariant-loop-link
invariant-loop-link l = l.mask ≡ bits (l.link + 1) (l.n - l.link) (holds l.self)
