use Rattle.std.proofs.Common.{◌≡◌, ◌+◌, set, sym, subst, arith}
use Rattle.ring.proofs.PerLink.{Filled, filled_link, filled_links}
use Rattle.ring.proofs.links.figure_per_link.Goals as goal

pub loop-e-preserved : goal.loop-e-preserved
loop-e-preserved g c f is =
    subst (λ k. Filled f (c.loop-e.e + 1) (set c.loop-e.figures k c.figure.result)) (sym c.from.ensures)
    (filled_link f c.loop-e.e c.loop-e.figures c.figure.result (omega (arith, c.requires.ring)) (is (c.loop-e.e + 1) c.figure.result (omega arith) (omega arith) c.figure.ensures) (c.loop-e.invariant f is))

pub returns : goal.returns
returns g c f is =
    let e : c.loop-e.e ≡ c.args.n = omega arith in
    filled_links f c.args.n c.loop-e.figures (subst (λ k. Filled f k c.loop-e.figures) e (c.loop-e.invariant f is))
