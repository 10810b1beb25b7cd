use Rattle.std.proofs.Common.{◌≡◌, length, take, ap, ◌∙◌}
use Rattle.frames.specs.Reading.{reading, demands_in, rows_in}
use Rattle.frames.proofs.Steps.{front_of}
use Rattle.planfile.specs.Taking.{judged, settled}
use Rattle.planfile.proofs.take.take_on.Goals as goal

pub returns-clause-answer : goal.returns-clause-answer
returns-clause-answer c =
    let h = c.in_ok-p.ensures in
    let p = c.in_ok-p.p in
    let ds = c.args.lines.now in
    let rs = c.args.rows.now in
    let marks = length c.args.marks.now in
    let r = reading (length ds) (length rs) c.args.text.now in
    let front : take p.demands c.read_file.new.demands ≡ demands_in r.frames = front_of ds c.read_file.new.demands (demands_in r.frames) p.demands h.demands h.counts.demands h.counts.demands_fit in
    let units : take p.units c.read_file.new.rows ≡ rows_in r.frames = front_of rs c.read_file.new.rows (rows_in r.frames) p.units h.rows h.counts.units h.counts.units_fit in
    c.judge.ensures ∙ ap (λ xs. judged marks p xs (take p.units c.read_file.new.rows)) front ∙ ap (judged marks p (demands_in r.frames)) units ∙ ap (settled marks (demands_in r.frames) (rows_in r.frames)) h.answer
