use Rattle.std.proofs.Common.{take, IfOk}
use Rattle.std.proofs.lemmas.Bool.{not_from_false}
use Rattle.ring.specs.Ring.{slot_count}
use Rattle.planwrite.specs.Backs.{ReadsBack}
use Rattle.planfile.specs.Backs.{TakesBack}
use Rattle.book.specs.Does.{state}
use Rattle.book.proofs.Doing.{same_plan, writes_out, is_written}
use Rattle.book.proofs.book.Book.write_out.Goals as goal

pub returns : goal.returns
returns c =
    let s = state c.args.self.now in
    let old = c.args.bytes.now in
    let new = c.write_plan.new.bytes in
    let r = c.write_plan.result in
    let e = c.write_plan.ensures in
    let is = not_from_false _ c.in_ok-must_be_planned.ensures in
    let p = c.as_slice.ensures.value in
    let q = c.as_slice-2.ensures in
    record {
      answer = writes_out s old _ _ is p q r e.answer;
      written = is_written s old _ _ is p q new e.written;
      back = same_plan s old _ _ is p q (λ ds rows. IfOk r (λ n. ReadsBack s.number s.size ds rows (slot_count rows) (take n new))) e.back;
      taken = same_plan s old _ _ is p q (λ ds rows. IfOk r (λ n. TakesBack s.number s.size ds rows (take n new))) e.taken;
    }
