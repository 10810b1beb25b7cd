use Rattle.std.proofs.Common.{◌≡◌, ◌+◌, ◌-◌, ◌<◌, length, take, drop, Ok, Err, sym, ap, ◌∙◌, arith}
use Rattle.std.proofs.lemmas.Result.{err_from_is_err_and, IfOk-from_err}
use Rattle.std.proofs.lemmas.List.{take_rest, length-drop}
use Rattle.lines.specs.Hex.{bytes_of}
use Rattle.lines.specs.Lines.{fault_of, line_bytes, lines_of, digits}
use Rattle.frames.specs.declared.FrameFault.TheVariants.{Line}
use Rattle.frames.specs.Reading.{frame_in, taken, stopped, began, read_lines}
use Rattle.frames.specs.Frames.{frame_of}
use Rattle.frames.proofs.Steps.{Left, left_start, left_ended, left_more, line_refused, frame_refused, frame_taken, frame_formed, frame_unformed, read_end, outcome_counts}
use Rattle.frames.proofs.read.read_file.Goals as goal

pub returns-in_err-digits : goal.returns-in_err-digits
returns-in_err-digits c =
    let l = c.loop-rest in
    let D = length c.args.demands.now in
    let R = length c.args.rows.now in
    let line = l.line in
    let rest = l.rest.now in
    let h = c.in_err-digits.ensures in
    let some : 0 < length rest = omega arith in
    let e = Line (fault_of line rest) in
    let r = left_ended D R c.args.text.now c.args.demands.now c.args.rows.now rest line l.p l.demands l.rows l.invariant (Err e) (line_refused D R rest some line l.p e (frame_unformed line rest h.not_formed)) in
    let x = err_from_is_err_and c.from_residual.result c.from_residual.ensures.1 in
    let y = x.1 ∙ ap Err (x.2 ∙ ap Line h.fault) in
    record { answer = y ∙ r.0; demands = r.1; rows = r.2; counts = IfOk-from_err c.from_residual.result _ c.from_residual.ensures.0 }

pub returns-in_err-frame : goal.returns-in_err-frame
returns-in_err-frame c =
    let l = c.loop-rest in
    let D = length c.args.demands.now in
    let R = length c.args.rows.now in
    let line = l.line in
    let rest = l.rest.now in
    let some : 0 < length rest = omega arith in
    let k = c.in_ok-digits.ensures in
    let e = c.in_err-frame.field-0.0 in
    let f : frame_in line (line_bytes line rest) ≡ Err e = frame_formed line rest k.formed ∙ ap (λ ds. frame_of line (bytes_of ds)) (sym k.front) ∙ sym c.in_err-frame.ensures in
    let r = left_ended D R c.args.text.now c.args.demands.now c.args.rows.now rest line l.p l.demands l.rows l.invariant (Err e) (line_refused D R rest some line l.p e f) in
    let x = err_from_is_err_and c.from_residual-in_err-frame.result c.from_residual-in_err-frame.ensures.1 in
    record { answer = x.1 ∙ ap Err x.2 ∙ r.0; demands = r.1; rows = r.2; counts = IfOk-from_err c.from_residual-in_err-frame.result _ c.from_residual-in_err-frame.ensures.0 }

pub returns-in_err-p : goal.returns-in_err-p
returns-in_err-p c =
    let l = c.loop-rest in
    let D = length c.args.demands.now in
    let R = length c.args.rows.now in
    let line = l.line in
    let rest = l.rest.now in
    let some : 0 < length rest = omega arith in
    let k = c.in_ok-digits.ensures in
    let h = c.in_err-p.ensures in
    let e = c.in_err-p.field-0.0 in
    let g = c.in_ok-frame.frame in
    let f : frame_in line (line_bytes line rest) ≡ Ok g = frame_formed line rest k.formed ∙ ap (λ ds. frame_of line (bytes_of ds)) (sym k.front) ∙ sym c.in_ok-frame.ensures in
    let t : taken D R line l.p g ≡ Err e = sym (h.answer ∙ ap (λ n. taken n (length l.rows) line l.p g) l.auto.demands ∙ ap (λ n. taken D n line l.p g) l.auto.rows) in
    let r = left_ended D R c.args.text.now c.args.demands.now c.args.rows.now rest line l.p l.demands l.rows l.invariant (Err e) (frame_refused D R rest some line l.p g e f t) in
    let x = err_from_is_err_and c.from_residual-in_err-p.result c.from_residual-in_err-p.ensures.1 in
    record { answer = x.1 ∙ ap Err x.2 ∙ r.0; demands = h.demands ∙ r.1; rows = h.rows ∙ r.2; counts = IfOk-from_err c.from_residual-in_err-p.result _ c.from_residual-in_err-p.ensures.0 }

pub loop-rest-preserved : goal.loop-rest-preserved
loop-rest-preserved c =
    let l = c.loop-rest in
    let D = length c.args.demands.now in
    let R = length c.args.rows.now in
    let line = l.line in
    let rest = l.rest.now in
    let some : 0 < length rest = omega arith in
    let k = c.in_ok-digits.ensures in
    let h = c.in_ok-p.ensures in
    let q = c.in_ok-p.p in
    let g = c.in_ok-frame.frame in
    let f : frame_in line (line_bytes line rest) ≡ Ok g = frame_formed line rest k.formed ∙ ap (λ ds. frame_of line (bytes_of ds)) (sym k.front) ∙ sym c.in_ok-frame.ensures in
    let t : taken D R line l.p g ≡ Ok q = sym (h.answer ∙ ap (λ n. taken n (length l.rows) line l.p g) l.auto.demands ∙ ap (λ n. taken D n line l.p g) l.auto.rows) in
    let n = length c.in_ok-digits.digits.now + 1 in
    let rest' = take (length rest - n) (drop n rest) in
    let same : drop (digits rest + 1) rest ≡ rest' = sym (take_rest rest n ∙ ap (λ m. drop (m + 1) rest) k.count) in
    let fewer : length rest' < length rest = omega (arith, ap length (take_rest rest n), length-drop n rest) in
    let w = frame_taken D R rest some line l.p g q k.formed f t ∙ ap (λ xs. began g (read_lines D R (line + 1) q (lines_of xs))) same in
    left_more D R c.args.text.now c.args.demands.now c.args.rows.now rest line l.p l.demands l.rows l.invariant g q rest' c.take_frame.new.demands c.take_frame.new.rows w t h.demands h.rows fewer

pub loop-rest-init : goal.loop-rest-init
loop-rest-init c = left_start (length c.args.demands.now) (length c.args.rows.now) c.args.text.now c.args.demands.now c.args.rows.now

pub returns : goal.returns
returns c =
    let l = c.loop-rest in
    let D = length c.args.demands.now in
    let R = length c.args.rows.now in
    let rest = l.rest.now in
    let none : length rest ≡ 0 = omega arith in
    let line = l.line in
    let e = c.stop.result in
    let s : stopped line l.p l.p.state ≡ e = sym c.stop.ensures in
    let r = left_ended D R c.args.text.now c.args.demands.now c.args.rows.now rest line l.p l.demands l.rows l.invariant e (read_end D R line l.p rest e none s) in
    record { answer = r.0; demands = r.1; rows = r.2; counts = outcome_counts D R c.args.text.now e r.0 }
