-- Where a slip stands: it was issued and not read yet, it was read, or it was handed back. Only a slip that was handed back may end.
use Rattle.std.specs.Prelude.{◌≡◌, ℕ}
use Rattle.book.specs.declared.slips.Slip.{Slip}
use Rattle.booklaw.specs.declared.Stage.{Stage}
use Rattle.booklaw.specs.declared.Stage.TheVariants.{Unread, Read, Spent}

abbrev pub IsUnread : Slip → Type 0
IsUnread s = s.stage ≡ Unread

abbrev pub IsRead : Slip → Type 0
IsRead s = s.stage ≡ Read

abbrev pub IsSpent : Slip → Type 0
IsSpent s = s.stage ≡ Spent

-- the slip for a node of the book with a number
abbrev pub slip_for : ℕ → ℕ → Stage → Slip
slip_for book node stage = record { book = book; node = node; stage = stage }

-- the same slip, now read
abbrev pub now_read : Slip → Slip
now_read s = slip_for s.book s.node Read
