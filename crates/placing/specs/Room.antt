-- The rows of a plan in a list that has room for more.
use Rattle.std.specs.Prelude.{ℕ, List}
use Rattle.ring.specs.declared.Row.{Row}

-- the rows, and how many there is room for in all
pub record RowRoom : Type 0 where
  pub items : List Row
  pub capacity : ℕ
