use Rattle.std.proofs.Common.{◌≡◌, take, IfOk, ap, ◌∙◌, subst, arith}
use Rattle.ring.specs.Ring.{slot_count}
use Rattle.planwrite.specs.Texts.{file_text}
use Rattle.planwrite.specs.Fronts.{fronted, fronting}
use Rattle.planwrite.specs.Backs.{ReadsBack}
use Rattle.planfile.proofs.TakeBack.{slots_few, made_takes}
use Rattle.planfile.proofs.write.write_plan.Goals as goal

pub overflow_cast-slots : goal.overflow_cast-slots
overflow_cast-slots c = omega (arith, slots_few c.args.plan.now.rows.now, c.slot_count-slots.ensures.value)

pub returns : goal.returns
returns c =
    let k = c.args.plan.now.number in
    let n = c.args.plan.now.nodes in
    let ds = c.args.plan.now.demands.now in
    let rs = c.args.plan.now.rows.now in
    let old = c.args.bytes.now in
    let e : c.slot_count-slots.result ≡ slot_count rs = c.slot_count-slots.ensures.value in
    let h = c.write.ensures in
    let r = c.write.result in
    let new = c.write.new.bytes in
    let b : IfOk r (λ m. ReadsBack k n ds rs (slot_count rs) (take m new)) = subst (λ s. IfOk r (λ m. ReadsBack k n ds rs s (take m new))) e h.back in
    record {
      answer = h.answer ∙ ap (λ s. fronting (file_text k n ds rs s) old) e;
      written = h.written ∙ ap (λ s. fronted (file_text k n ds rs s) old) e;
      back = b;
      taken = made_takes k n ds rs r (λ m. take m new) b;
    }
