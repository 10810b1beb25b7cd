-- Loading one node of a book.
use Rattle.std.specs.Prelude.{◌≡◌, ℕ, ◌+◌, ◌⊎◌, List, length}
use Rattle.ring.specs.declared.Row.{Row}
use Rattle.planwrite.specs.Fronts.{fronted}
use Rattle.booklaw.specs.Books.{State, node_rows}
use Rattle.booklaw.specs.Calls.{with_slips}

-- the node was loaded: its rows stand in the front of the places, and the book is as it was, with one slip more that was issued and handed back as loaded
pub record Loaded (s t : State) (node count : ℕ) (old new : List Row) : Type 0 where
  pub counted : count ≡ length (node_rows s.demands s.rows node)
  pub handed : new ≡ fronted (node_rows s.demands s.rows node) old
  pub left : t ≡ with_slips s s.out (s.issued + 1) (s.loaded + 1) s.returned

-- it was not: the places are as they were, and so is the book, but for a slip that was issued and handed back as returned, if there was one
pub record Unloaded (s t : State) (old new : List Row) : Type 0 where
  pub kept : new ≡ old
  pub left : (t ≡ s) ⊎ (t ≡ with_slips s s.out (s.issued + 1) s.loaded (s.returned + 1))
