use Rattle.std.proofs.Common.{ℕ, not, ◌&&◌, eqb, sym, ap, ◌∙◌, ap₂}
use lib.Bits.{bit_and}
use Rattle.std.proofs.lemmas.Bool.{eq-eqb}
use Rattle.checkrows.specs.Rows.{meet}
use Rattle.checkrows.proofs.Links.{masks_meet}
use Rattle.checkrows.proofs.routes.DemandLines.collide.Goals as goal

pub returns-then-earlier-row : goal.returns-then-earlier-row
returns-then-earlier-row c =
    let n = c.args.self.now.nodes in
    let lines = c.args.self.now.lines.now in
    ap₂ (λ (a b : ℕ). not (eqb (bit_and a b) 0)) c.row_mask.ensures c.row_mask-then-earlier-row.ensures
    ∙ masks_meet n lines c.args.row c.args.earlier
    ∙ ap (λ t. t && meet n lines c.args.row c.args.earlier) (sym (eq-eqb c.args.earlier.slot c.args.row.slot c.if-earlier-row.true))
