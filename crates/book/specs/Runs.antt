-- Runs of the code's book, and the law over them: what holds after each call of any list of calls on a fresh book, whatever each brings and answers.
use Rattle.std.specs.Prelude.{◌≡◌, ℕ, List, [], ◌∷◌}
use Rattle.booklaw.specs.Calls.{Call, Issue, Answer, accepted}
use Rattle.booklaw.specs.Histories.{Event, Unreturned}
use Rattle.booklaw.specs.Laws.{Law}
use Rattle.book.specs.declared.book.Book.{Book}
use Rattle.book.specs.Does.{Does, state, demands_in, rows_in}

-- calls on a book one after another, each as its contract says, which leave the last book; the latest event comes first
pub data Run (start : Book) : List Event → Book → Type 0 where
  none : Run start [] start
  next : {past : List Event} {b b' : Book} {c : Call} {r : Answer} → Run start past b → Does b c r b' → Run start (record { call = c; got = r } ∷ past) b'

-- THE LAW OVER ALL RUNS of a book that was started with this ring size and number
pub record Sound (size number : ℕ) (start : Book) : Type 0 where
  -- After each call the book's demands are those by the calls. If it is planned by the calls, its rows are a plan for the demands by the calls: the one that slotting
  -- gives by the rule that its drawing brought, or with the best link shut. The slot count is at most the heaviest cut's total, and at most twice that of every rival; and after a
  -- best-link plan at most every rival's slot count plus the load of that rival's least loaded link. If it is not planned, it has no rows. Its slips are those by the calls.
  pub lawful : (past : List Event) (b : Book) → Run start past b → Law size number past (state b)
  -- From each accepted issue until the next accepted hand back for its node, if one comes, the book holds the same rows in the same order: `b` is the book before the
  -- issue, `out` the one after it, and `b'` the one after any later calls without such a hand back.
  pub stays : (past : List Event) (b out : Book) (node : ℕ) → Run start past b → Does b (Issue node) accepted out →
      (later : List Event) (b' : Book) → Run out later b' → Unreturned node later → (rows_in b' ≡ rows_in out) × (demands_in b' ≡ demands_in out)
