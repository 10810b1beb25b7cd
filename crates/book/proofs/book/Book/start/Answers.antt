use Rattle.std.proofs.Common.{ℕ, IfOk, Ok, Err, Result}
use Rattle.booklaw.specs.declared.StartFault.{StartFault}
use Rattle.book.specs.declared.book.Book.{Book}
use Rattle.book.specs.Runs.{Sound}
use Rattle.book.specs.Starts.{Starts}
use Rattle.book.proofs.AllRuns.{fresh_sound}
use Rattle.book.proofs.book.Book.start.Goals as goal

sound_started : (n number : ℕ) (r : Result Book StartFault) → Starts n number r → IfOk r (λ b. Sound n number b)
sound_started n number (Ok b) h = fresh_sound n number b h.0 h.1
sound_started n number (Err e) h = tt

pub returns : goal.returns
returns c = record { starts = c.begin.ensures; sound = sound_started c.args.n c.args.number _ c.begin.ensures }
