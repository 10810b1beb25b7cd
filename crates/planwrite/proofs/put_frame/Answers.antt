use Rattle.std.proofs.Common.{◌<◌, ◌∙◌, rules}
use Rattle.planwrite.proofs.Lengths.{high_byte}
use Rattle.planwrite.proofs.put_frame.Goals as goal

pub returns-in-DemandFrame-clause-written : goal.returns-in-DemandFrame-clause-written
returns-in-DemandFrame-clause-written c =
    let h : c.in-DemandFrame.d.number < 65536 = search rules in
    c.put_line-in-DemandFrame.ensures.written ∙ simp (c.in-DemandFrame.is, c.to_be_bytes-in-DemandFrame.ensures, high_byte c.in-DemandFrame.d.number h)

pub returns-in-UnitFrame-clause-written : goal.returns-in-UnitFrame-clause-written
returns-in-UnitFrame-clause-written c =
    let h : c.in-UnitFrame.r.demand < 65536 = search rules in
    let k : c.in-UnitFrame.r.slot < 65536 = search rules in
    c.put_line-in-UnitFrame.ensures.written ∙ simp (c.in-UnitFrame.is, c.to_be_bytes-in-UnitFrame.ensures, c.to_be_bytes-in-UnitFrame-2.ensures, high_byte c.in-UnitFrame.r.demand h, high_byte c.in-UnitFrame.r.slot k)

pub returns-in-EndFrame-clause-written : goal.returns-in-EndFrame-clause-written
returns-in-EndFrame-clause-written c =
    let t = c.in-EndFrame.t in
    let h : t.demands < 65536 = search rules in
    let k : t.units < 65536 = search rules in
    let l : t.slots < 65536 = search rules in
    c.put_line-in-EndFrame.ensures.written ∙ simp (c.in-EndFrame.is, c.to_be_bytes-in-EndFrame.ensures, c.to_be_bytes-in-EndFrame-2.ensures, c.to_be_bytes-in-EndFrame-3.ensures, high_byte t.demands h, high_byte t.units k, high_byte t.slots l)
