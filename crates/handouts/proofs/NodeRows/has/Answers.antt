use Rattle.std.proofs.Common.{rules, List, Option, Some, None, sym, ◌∙◌, ◌≡◌, false, MatchOption, Bool, ℕ}
use Rattle.ring.specs.declared.Demand.{Demand}
use Rattle.ring.specs.declared.Row.{Row}
use Rattle.ring.specs.Ring.{named}
use Rattle.checkrows.specs.Track.{LineOf, line_at}
use Rattle.booklaw.specs.Books.{has_end, ends_at}
use Rattle.handouts.proofs.Kept.{ends_unknown, ends_at_line}
use Rattle.handouts.proofs.NodeRows.has.Goals as goal

of_line : (ds : List Demand) (node : ℕ) (r : Row) (k : Option ℕ) (b : Bool) → MatchOption k (named ds r.demand ≡ false) (LineOf ds r.demand) →
    MatchOption k (b ≡ false) (λ j. b ≡ has_end node (line_at ds j)) → b ≡ ends_at ds node r
of_line ds node r None b h e = e ∙ sym (ends_unknown ds node r h)
of_line ds node r (Some k) b h e = e ∙ ends_at_line ds node r k h

pub returns : goal.returns
returns c = of_line c.args.self.now.demands.now c.args.self.now.node c.args.row c.line_of.result _ c.line_of.ensures (search rules)
