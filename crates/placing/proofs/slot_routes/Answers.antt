use Rattle.std.proofs.Common.{◌≡◌, sym, ap, ◌∙◌, subst, arith}
use Rattle.ring.specs.Ring.{Link}
use Rattle.drawn.specs.Slotting.{cut_link, slotted_at, slots_in}
use Rattle.drawn.proofs.Bounds.{cut_link_lem}
use Rattle.placing.proofs.Tied.{blank_empty}
use Rattle.placing.proofs.slot_routes.Goals as goal

pub invariant_of-ring : goal.invariant_of-ring
invariant_of-ring c =
    let at : c.least_loaded-least.result.candidate ≡ cut_link c.args.n c.args.routes.now = ap (λ b. b.candidate) c.least_loaded-least.ensures in
    let link : Link c.args.n c.least_loaded-least.result.candidate = subst (Link c.args.n) (sym at) (cut_link_lem c.args.n c.args.routes.now (omega (arith, c.requires.least))) in
    record { small = c.requires.most; first = omega (arith, link.0); last = omega (arith, link.1) }
