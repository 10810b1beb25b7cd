-- Starting a book.
use Rattle.std.specs.Prelude.{◌≡◌, ℕ, Bool, true, cond, ◌&&◌, Result, MatchResult, nat_le}
use Rattle.refusals.specs.declared.Refusal.TheVariants.{RingSize}
use Rattle.booklaw.specs.Books.{fresh}
use Rattle.booklaw.specs.declared.StartFault.{StartFault}
use Rattle.booklaw.specs.declared.StartFault.TheVariants.{Memory, Refused}
use Rattle.book.specs.declared.book.Book.{Book}
use Rattle.book.specs.Does.{state}

-- whether a ring may have n nodes
abbrev pub is_ring : ℕ → Bool
is_ring n = nat_le 3 n && nat_le n 16

-- the book is one that was just started, with this ring size and number
abbrev pub Fresh : ℕ → ℕ → Book → Type 0
Fresh n number b = state b ≡ fresh n number

-- what a start answers: a fresh book; else the ring size is refused, or a ring of that size may be but there is no memory
abbrev pub Starts : ℕ → ℕ → Result Book StartFault → Type 0
Starts n number r = MatchResult r (λ b. (is_ring n ≡ true) × Fresh n number b) (λ e. e ≡ cond (is_ring n) Memory (Refused RingSize))
