use Rattle.std.proofs.Common.{get_or, take, arith}
use Rattle.std.proofs.lemmas.Result.{err_from_is_err_and}
use Rattle.checklines.specs.Lines.{line_fault}
use Rattle.ring.specs.declared.Demand.{Demand}
use Rattle.checklines.proofs.Walk.{fault_stops, fault_goes, fault_ends}
use Rattle.ring.proofs.Summing.{sum_more}
use Rattle.checklines.proofs.LinesPass.{line_fine}
use Rattle.checklines.proofs.check_lines.Goals as goal

pub returns-in_err-check_line : goal.returns-in_err-check_line
returns-in_err-check_line c =
    let p = err_from_is_err_and c.from_residual.result c.from_residual.ensures.1 in
    rw (p.1, p.2) (fault_stops (line_fault c.args.n) _ _ _ _ _ c.loop-i-test.true c.loop-i.invariant.0 c.in_err-check_line.ensures)

pub loop-i-preserved : goal.loop-i-preserved
loop-i-preserved c =
    let none : Demand = record { number = 0; lower = 0; upper = 0; units = 0 } in
    let lines = c.args.lines.now in
    let i = c.loop-i.i in
    let h = c.in_ok-check_line.ensures in
    let m = sum_more (λ (d : Demand). d.units) lines i none c.loop-i-test.true in
    let f = (line_fine c.args.n (take i lines) (get_or lines i none) h).all_units in
    (fault_goes (line_fault c.args.n) _ _ _ _ c.loop-i-test.true c.loop-i.invariant.0 h, omega (arith, m, c.loop-i.invariant.1), omega (arith, f, c.loop-i.invariant.1))

pub returns : goal.returns
returns c = fault_ends (line_fault c.args.n) _ _ _ c.loop-i-test.false c.loop-i.invariant.0
