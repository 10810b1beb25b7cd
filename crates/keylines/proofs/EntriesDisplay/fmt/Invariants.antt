use Rattle.std.proofs.Common.{take}
use Rattle.std.specs.List.{flat_map}
use Rattle.std.specs.Fmt.{HasWritten, IsPlainFormatter}
use Rattle.keylines.specs.KeyLines.{entry_line}
use Rattle.keylines.proofs.EntriesDisplay.fmt.Given as goal

-- what was written so far
abbrev pub invariant-loop-entry : goal.invariant-loop-entry
invariant-loop-entry g l =
    IsPlainFormatter l.initial.f → HasWritten g.W.Write.write_str_gives l.initial.f (flat_map entry_line (take l.entry-index l.entry-items)) l.f
