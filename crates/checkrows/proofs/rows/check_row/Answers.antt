use Rattle.std.proofs.Common.{◌∙◌}
use Rattle.std.proofs.lemmas.Option.{MatchOption-at_some}
use Rattle.std.proofs.lemmas.Result.{err_from_is_err_and}
use Rattle.checkrows.specs.Track.{LineOf}
use Rattle.checkrows.proofs.Sheet.{form_seen}
use Rattle.checkrows.proofs.rows.check_row.Goals as goal

pub returns-in_err-check_slot_and_side : goal.returns-in_err-check_slot_and_side
returns-in_err-check_slot_and_side c =
    let p = err_from_is_err_and c.from_residual-in_err-check_slot_and_side.result c.from_residual-in_err-check_slot_and_side.ensures.1 in
    let line : LineOf c.args.lines.now c.args.row.demand c.in_ok-k.k = MatchOption-at_some _ _ c.in_ok-k.k c.in_ok-k.ensures.ok_part c.line_of.ensures in
    let at = form_seen c.args.lines.now c.args.before.now c.args.row c.args.firsts.now c.in_ok-k.k c.requires.seen line in
    rw (p.1, p.2) (at ∙ c.in_err-check_slot_and_side.ensures)

pub returns : goal.returns
returns c =
    let line : LineOf c.args.lines.now c.args.row.demand c.in_ok-k.k = MatchOption-at_some _ _ c.in_ok-k.k c.in_ok-k.ensures.ok_part c.line_of.ensures in
    let at = form_seen c.args.lines.now c.args.before.now c.args.row c.args.firsts.now c.in_ok-k.k c.requires.seen line in
    (at ∙ c.in_ok-check_slot_and_side.ensures, line)
