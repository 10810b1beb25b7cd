use Rattle.std.proofs.Common.{◌≡◌, ◌+◌, ◌<◌, true, leb, length, set, sym, ◌∙◌, arith, length-set}
use Rattle.std.proofs.lemmas.Bool.{and_parts, leb-true}
use Rattle.ring.proofs.Limits.{to_limits}
use Rattle.booklaw.specs.Books.{outs}
use Rattle.booklaw.proofs.Passing.{outs_on}
use Rattle.book.specs.Does.{demands_in}
use Rattle.book.proofs.book.Book.issue.Goals as goal

-- a mark more, and one more issued
pub invariant_of-self : goal.invariant_of-self
invariant_of-self c =
    let b = c.args.self.now in
    let v = c.args.node in
    let on = and_parts (leb 1 v) (leb v b.size) (sym c.if-not-is_node.ensures) in
    let inside : v < length b.out = omega (arith, leb-true v b.size on.1, (to_limits b.size (demands_in b) b.limits).most, b.places) in
    let more = outs_on b.out v inside (sym c.if-is_out.ensures) in
    let more-at : outs (set b.out c.from.result true) ≡ outs b.out + 1 = rw c.from.ensures more in
    record { room = b.room; limits = b.limits; held = b.held; places = length-set _ _ _ ∙ b.places; accounted = omega (arith, more-at, b.accounted) }
