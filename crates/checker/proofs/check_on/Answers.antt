use Rattle.std.proofs.Common.{length, arith, rules}
use Rattle.std.proofs.lemmas.Result.{err_from_is_err_and}
use Rattle.checker.proofs.Answering.{given_stops, limits, room, rows_stop, counts_stop, few, all_pass}
use Rattle.checker.proofs.check_on.Goals as goal

pub returns-in_err-check_given : goal.returns-in_err-check_given
returns-in_err-check_given c =
    let p = err_from_is_err_and c.from_residual.result c.from_residual.ensures.1 in
    rw (p.1, p.2) (given_stops _ _ _ _ _ c.in_err-check_given.ensures)

pub check_rows-requires : goal.check_rows-requires
check_rows-requires c =
    let n = c.args.n in
    let lines = c.args.lines.now in
    let rows = c.args.rows.now in
    let m = length c.args.marks.now in
    let given = c.in_ok-check_given.ensures in
    record { limits = limits n lines rows m given; room = omega (arith, room n lines rows m given, c.blank.auto.marks); blank = search rules }

pub returns-in_err-check_rows : goal.returns-in_err-check_rows
returns-in_err-check_rows c =
    let p = err_from_is_err_and c.from_residual-in_err-check_rows.result c.from_residual-in_err-check_rows.ensures.1 in
    rw (p.1, p.2) (rows_stop _ _ _ _ c.in_ok-check_given.ensures _ c.in_err-check_rows.ensures)

pub returns-in_err-check_counts : goal.returns-in_err-check_counts
returns-in_err-check_counts c =
    let p = err_from_is_err_and c.from_residual-in_err-check_counts.result c.from_residual-in_err-check_counts.ensures.1 in
    rw (p.1, p.2)
    (counts_stop _ _ _ _ c.in_ok-check_given.ensures c.in_ok-check_rows.ensures _ c.in_err-check_counts.ensures)

pub figures_of-requires : goal.figures_of-requires
figures_of-requires c =
    let n = c.args.n in
    let lines = c.args.lines.now in
    let rows = c.args.rows.now in
    let m = length c.args.marks.now in
    let given = c.in_ok-check_given.ensures in
    few n lines rows m given c.in_ok-check_rows.ensures c.in_ok-check_counts.ensures

pub invariant_of-lines : goal.invariant_of-lines
invariant_of-lines c = record { small = (limits c.args.n c.args.lines.now c.args.rows.now (length c.args.marks.now) c.in_ok-check_given.ensures).most }

pub returns : goal.returns
returns c =
    all_pass _ _ _ _ c.in_ok-check_given.ensures
    c.in_ok-check_rows.ensures c.in_ok-check_counts.ensures _ c.figures_of.ensures
