-- Writing the plan of a book out.
use Rattle.std.specs.Prelude.{ℕ, cond, List, Err, Result}
use Rattle.refusals.specs.declared.Refusal.{Refusal}
use Rattle.refusals.specs.declared.Refusal.TheVariants.{Unplanned}
use Rattle.ring.specs.Ring.{slot_count}
use Rattle.planwrite.specs.Texts.{file_text}
use Rattle.planwrite.specs.Fronts.{fronted, fronting}
use Rattle.booklaw.specs.Books.{State, planned}

-- the plan file of a book: its number, ring, demands and rows, with the slot count of the rows
abbrev pub plan_text : State → List ℕ
plan_text s = file_text s.number s.size s.demands s.rows (slot_count s.rows)

-- the answer: the file's length, or that there is no plan, or how many bytes the file needs
abbrev pub writing_out : State → List ℕ → Result ℕ Refusal
writing_out s bytes = cond (planned s) (fronting (plan_text s) bytes) (Err Unplanned)

-- what the bytes hold then: the file and past it what they held, or all that they held where it is refused
abbrev pub written_out : State → List ℕ → List ℕ
written_out s bytes = cond (planned s) (fronted (plan_text s) bytes) bytes
