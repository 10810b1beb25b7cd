use Rattle.std.proofs.Common.{rules, ◌≡◌, Ok, Err}
use Rattle.frames.specs.Reading.{reading}
use Rattle.planfile.specs.Taking.{taking}
use Rattle.report.proofs.report.Goals as goal

pub returns-in-Ok : goal.returns-in-Ok
returns-in-Ok c = let e : taking 1024 (reading 256 2048 c.args.text.now) ≡ Ok c.in-Ok.taken = search rules in rw e (search rules)

pub returns-in-Err : goal.returns-in-Err
returns-in-Err c = let e : taking 1024 (reading 256 2048 c.args.text.now) ≡ Err c.in-Err.fault = search rules in rw e (search rules)
