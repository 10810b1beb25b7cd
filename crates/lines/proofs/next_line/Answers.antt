use Rattle.std.proofs.Common.{◌≡◌, sym, refl}
use Rattle.lines.specs.Lines.{digits}
use Rattle.lines.proofs.First.{unformed_here}
use Rattle.lines.proofs.next_line.Goals as goal

pub returns-then-not-is_formed : goal.returns-then-not-is_formed
returns-then-not-is_formed c =
    let text = c.args.text.now in
    let n = c.count_digits-count.result in
    let e : n ≡ digits text = c.count_digits-count.ensures.value in
    unformed_here c.args.line text _ n e (sym c.if-not-is_formed.ensures.value) refl
