use Rattle.std.proofs.Common.{◌≡◌, ◌≤◌, [], ◌∷◌, ◌++◌, length, get_or, take, Ok, Err, sym, ap, ◌∙◌, subst, arith}
use Rattle.std.specs.List.{flat_map, AllByRecursion as Each}
use Rattle.std.proofs.lemmas.Result.{err_from_is_err_and, IfOk-from_err}
use Rattle.std.proofs.lemmas.List.{append-nil}
use Rattle.std.proofs.ByRecursion.{All-push}
use Rattle.ring.specs.declared.Demand.{Demand}
use Rattle.ring.specs.declared.Row.{Row}
use Rattle.frames.specs.declared.Frame.TheVariants.{DemandFrame, UnitFrame, EndFrame}
use Rattle.lines.specs.Writes.{overwrite}
use Rattle.planwrite.specs.Texts.{Sized, frame_text, file_text, file_length}
use Rattle.planwrite.specs.Backs.{ReadsBack}
use Rattle.planwrite.specs.Fronts.{fronting}
use Rattle.planwrite.proofs.Lengths.{length_file, demands_so_far, rows_so_far, joined, joined_is, joined_text, so_far_more, so_far_all, over_more, length_more, room_is, refused_stays, answered_fits, whole_written, whole_taken}
use Rattle.planwrite.proofs.ReadBack.{reads_back}
use Rattle.planwrite.proofs.PlanFile.write.Goals as goal

pub returns-in_err-length : goal.returns-in_err-length
returns-in_err-length c =
    let ds = c.args.self.now.demands.now in
    let rs = c.args.self.now.rows.now in
    let old = c.args.bytes.now in
    let n = file_length (length ds) (length rs) in
    let text = file_text c.args.self.now.number c.args.self.now.nodes ds rs c.args.slots in
    let long : length text ≡ n = length_file c.args.self.now.number c.args.self.now.nodes ds rs c.args.slots in
    let e = c.in_err-length.field-0.0 in
    let h : Err e ≡ fronting text old = c.in_err-length.ensures ∙ room_is text old n long in
    let x = err_from_is_err_and c.from_residual.result c.from_residual.ensures.1 in
    record { answer = x.1 ∙ ap Err x.2 ∙ h; written = refused_stays text old e h; back = IfOk-from_err c.from_residual.result _ c.from_residual.ensures.0 }

zero_demand : Demand
zero_demand = record { number = 0; lower = 0; upper = 0; units = 0 }

zero_row : Row
zero_row = record { demand = 0; side = 0; slot = 0 }

pub loop-d-preserved : goal.loop-d-preserved
unfolding zero_demand
loop-d-preserved c =
    let ds = c.args.self.now.demands.now in
    let i = c.loop-d.d-index in
    let front = demands_so_far c.args.self.now.number c.args.self.now.nodes [] in
    let fs = demands_so_far c.args.self.now.number c.args.self.now.nodes (take i ds) in
    let (at, place, bytes, sized) = c.loop-d.invariant in
    let p = c.put_frame-place-in-loop-d in
    let f = DemandFrame (get_or ds i zero_demand) in
    let more = so_far_more front DemandFrame ds i zero_demand c.loop-d-test.true in (
      omega (arith, at, p.ensures.next),
      length_more fs f c.loop-d.place p.result place p.ensures.next ∙ ap (λ gs. length (flat_map frame_text gs)) more,
      over_more c.args.bytes.now fs f c.loop-d.bytes p.new.bytes c.loop-d.place bytes place p.ensures.written ∙ ap (λ gs. overwrite c.args.bytes.now 0 (flat_map frame_text gs)) more,
      subst (Each Sized) more (All-push Sized fs f sized p.ensures.sized),
    )

pub loop-row-init : goal.loop-row-init
loop-row-init c =
    let ds = c.args.self.now.demands.now in
    let i = c.loop-d.d-index in
    let front = demands_so_far c.args.self.now.number c.args.self.now.nodes [] in
    let left : length ds ≤ i = c.loop-d-test.false in
    let (at, place, bytes, sized) = c.loop-d.invariant in
    let all : demands_so_far c.args.self.now.number c.args.self.now.nodes (take i ds) ≡ rows_so_far c.args.self.now.number c.args.self.now.nodes ds [] =
    so_far_all front DemandFrame ds i left ∙ sym (append-nil (demands_so_far c.args.self.now.number c.args.self.now.nodes ds)) in (
      omega (arith, at, left, c.loop-d.auto.d-index-end),
      place ∙ ap (λ gs. length (flat_map frame_text gs)) all,
      bytes ∙ ap (λ gs. overwrite c.args.bytes.now 0 (flat_map frame_text gs)) all,
      subst (Each Sized) all sized,
    )

pub loop-row-preserved : goal.loop-row-preserved
unfolding zero_row
loop-row-preserved c =
    let ds = c.args.self.now.demands.now in
    let rs = c.args.self.now.rows.now in
    let i = c.loop-row.row-index in
    let front = demands_so_far c.args.self.now.number c.args.self.now.nodes ds in
    let fs = rows_so_far c.args.self.now.number c.args.self.now.nodes ds (take i rs) in
    let (at, place, bytes, sized) = c.loop-row.invariant in
    let p = c.put_frame-place-in-loop-row in
    let f = UnitFrame (get_or rs i zero_row) in
    let more = so_far_more front UnitFrame rs i zero_row c.loop-row-test.true in (
      omega (arith, at, p.ensures.next),
      length_more fs f c.loop-row.place p.result place p.ensures.next ∙ ap (λ gs. length (flat_map frame_text gs)) more,
      over_more c.args.bytes.now fs f c.loop-row.bytes p.new.bytes c.loop-row.place bytes place p.ensures.written ∙ ap (λ gs. overwrite c.args.bytes.now 0 (flat_map frame_text gs)) more,
      subst (Each Sized) more (All-push Sized fs f sized p.ensures.sized),
    )

pub returns : goal.returns
returns c =
    let number = c.args.self.now.number in
    let nodes = c.args.self.now.nodes in
    let ds = c.args.self.now.demands.now in
    let rs = c.args.self.now.rows.now in
    let old = c.args.bytes.now in
    let p = c.put_frame in
    let new = p.new.bytes in
    let n = file_length (length ds) (length rs) in
    let text = file_text number nodes ds rs c.args.slots in
    let m = c.in_ok-length.length in
    let h : Ok m ≡ fronting text old = c.in_ok-length.ensures ∙ room_is text old n (length_file number nodes ds rs c.args.slots) in
    let fits = answered_fits text old m h in
    let i = c.loop-row.row-index in
    let left : length rs ≤ i = c.loop-row-test.false in
    let (_, place, bytes, sized) = c.loop-row.invariant in
    let f = EndFrame (record { demands = length ds; units = length rs; slots = c.args.slots }) in
    let fs = rows_so_far number nodes ds (take i rs) in
    let all : fs ++ (f ∷ []) ≡ joined number nodes ds rs c.args.slots = ap (λ gs. gs ++ (f ∷ [])) (so_far_all (demands_so_far number nodes ds) UnitFrame rs i left) in
    let e : new ≡ overwrite old 0 text =
    over_more old fs f c.loop-row.bytes new c.loop-row.place bytes place p.ensures.written
    ∙ ap (λ gs. overwrite old 0 (flat_map frame_text gs)) all ∙ ap (overwrite old 0) (joined_text number nodes ds rs c.args.slots) in
    let b : ReadsBack number nodes ds rs c.args.slots text = reads_back number nodes ds rs c.args.slots (subst (Each Sized) (all ∙ joined_is number nodes ds rs c.args.slots) (All-push Sized fs f sized p.ensures.sized)) in
    let same : take m new ≡ text = whole_taken text old new m fits.1 fits.0 e in
    record {
      answer = h;
      written = whole_written text old new fits.0 e;
      back = subst (ReadsBack number nodes ds rs c.args.slots) (sym same) b;
    }
