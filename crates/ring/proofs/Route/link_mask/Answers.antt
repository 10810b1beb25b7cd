use Rattle.std.proofs.Common.{◌≡◌, ◌+◌, ◌-◌, ◌*◌, true, ap, ◌∙◌, ap₂, arith}
use Rattle.ring.specs.Sides.{code, holds}
use Rattle.ring.specs.Masks.{bits, link_mask}
use Rattle.ring.proofs.Bits.{mask_fits, mask_step, bit_for_each_link, meets_where_routes_share}
use Rattle.ring.proofs.Route.link_mask.Goals as goal

pub overflow_mul-mask : goal.overflow_mul-mask
overflow_mul-mask c = omega (arith, mask_fits (holds c.args.self.now) c.args.n c.loop-link.link c.loop-link.mask true c.loop-link-test.true c.loop-link.auto.link c.requires c.loop-link.invariant)

pub overflow_add-mask : goal.overflow_add-mask
overflow_add-mask c = omega (arith, mask_fits (holds c.args.self.now) c.args.n c.loop-link.link c.loop-link.mask c.holds_link.result c.loop-link-test.true c.loop-link.auto.link c.requires c.loop-link.invariant)

pub returns : goal.returns
returns c =
    let d = c.args.self.now.demand in
    let s = code c.args.self.now.side in
    let first : c.loop-link.link + 1 ≡ 1 = omega arith in
    let all : c.args.n - c.loop-link.link ≡ c.args.n = omega arith in
    let is : c.loop-link.mask ≡ link_mask c.args.n s d.lower d.upper = c.loop-link.invariant ∙ ap₂ (λ e m. bits e m (holds c.args.self.now)) first all in
    record { value = is; bits = bit_for_each_link c.args.n s d.lower d.upper _ is; meets = meets_where_routes_share c.args.n s d.lower d.upper _ is }
