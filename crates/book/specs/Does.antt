-- What the code's book holds, and the contract that every call on it has.
use Rattle.std.specs.Prelude.{◌≡◌, List, vec_items}
use Rattle.ring.specs.declared.Demand.{Demand}
use Rattle.ring.specs.declared.Row.{Row}
use Rattle.booklaw.specs.Books.{State}
use Rattle.booklaw.specs.Calls.{Call, Answer, answer, after}
use Rattle.book.specs.declared.book.Book.{Book}

abbrev pub demands_in : Book → List Demand
demands_in b = vec_items b.demands

abbrev pub rows_in : Book → List Row
rows_in b = b.rows.items

-- what a book holds
abbrev pub state : Book → State
state b = record {
  size = b.size;
  number = b.number;
  demands = demands_in b;
  drawing = b.drawing;
  rows = rows_in b;
  out = b.out;
  issued = b.counts.issued;
  loaded = b.counts.loaded;
  returned = b.counts.returned;
}

-- THE CONTRACT OF EVERY CALL: made on the book b, the call c answers r and leaves the book b'. A refused call leaves it as it was.
pub record Does (b : Book) (c : Call) (r : Answer) (b' : Book) : Type 0 where
  pub answers : r ≡ answer (state b) c
  pub leaves : state b' ≡ after (state b) c
