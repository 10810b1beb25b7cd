use Rattle.std.proofs.Common.{◌≡◌, ◌-◌, ◌<◌, ◌≤◌, length}
use Rattle.sheet.specs.Marks.{Blank}
use Rattle.slotting.proofs.Tried.{TriedTo}
use Rattle.slotting.proofs.trials.try_links.Given as goal

-- the links before this one have been tried; before the first trial the rows are as they were
abbrev pub invariant-loop-link : goal.invariant-loop-link
invariant-loop-link l =
    (length l.trials ≡ 16)
    × TriedTo l.traffic.nodes l.traffic.demands.now l.trials (l.link - 1)
    × (l.link ≡ 1 → l.rows.items ≡ l.initial.rows.items)
    × (l.rows.capacity ≡ l.initial.rows.capacity)
    × (1 < l.link → (1024 ≤ length l.initial.sheet) × Blank l.sheet (length l.initial.sheet))
