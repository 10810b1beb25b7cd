use Rattle.std.proofs.Common.{◌+◌, ap₂}
use Rattle.refusals.specs.declared.Refusal.TheVariants.{Collision}
use Rattle.checkrows.proofs.Sheet.{first_is, clash_there}
use Rattle.checkrows.proofs.rows.collision.Goals as goal

pub unreachable-requires : goal.unreachable-requires
unreachable-requires c = clash_there c.args.lines.now.nodes c.args.lines.now.lines.now c.args.rows.now c.args.at c.requires.given c.requires.met (c.in-None.ensures c.args.at c.requires.given)

pub returns : goal.returns
returns c =
    let f = first_is c.args.lines.now.nodes c.args.lines.now.lines.now c.args.rows.now _ _ c.args.at c.requires.given c.requires.clear c.requires.met c.in-Some.ensures in
    ap₂ (λ i j. Collision (i + 1) (j + 1)) f.0 f.1
