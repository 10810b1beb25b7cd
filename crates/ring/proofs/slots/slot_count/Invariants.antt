use Rattle.std.proofs.Common.{◌≡◌, ℕ, ◌<◌, ◌≤◌, false, length, get_or, take}
use Rattle.ring.specs.Ring.{in_use, slot_count}
use Rattle.ring.proofs.slots.slot_count.Given as goal

-- what was seen are the slots of the rows so far, and the count is theirs
abbrev pub invariant-loop-row : goal.invariant-loop-row
invariant-loop-row l = (length l.seen ≡ 65536)
    × ((k : ℕ) → k < 65536 → get_or l.seen k false ≡ in_use k (take l.row-index l.rows))
    × (l.count ≡ slot_count (take l.row-index l.rows))
    × (l.count ≤ l.row-index)
