use Rattle.std.proofs.Common.{length, sym, subst, arith}
use Rattle.planfile.specs.Places.{Named}
use Rattle.planfile.proofs.Naming.{named_in}
use Rattle.planfile.proofs.take.judge.Goals as goal

pub line_of-requires : goal.line_of-requires
line_of-requires c =
    let e = c.in-Err.refusal in
    let p = c.args.p in
    let h : Named (length c.args.lines.now) (length c.args.rows.now) e = named_in p.heading.nodes c.args.lines.now c.args.rows.now (length c.args.marks.now) e (sym c.in-Err.ensures.answer) in
    let k : Named p.demands (length c.args.rows.now) e = subst (λ n. Named n (length c.args.rows.now) e) c.requires.lines h in
    record { named = subst (λ n. Named p.demands n e) c.requires.rows k; small = omega arith }
