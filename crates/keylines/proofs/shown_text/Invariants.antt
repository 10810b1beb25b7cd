use Rattle.std.proofs.Common.{◌≡◌, ◌≤◌, ◌*◌, take}
use Rattle.std.specs.List.{flat_map}
use Rattle.keylines.specs.KeyLines.{shown_byte}
use Rattle.keylines.proofs.shown_text.Given as goal

-- what was put so far, which is at most four bytes for each
abbrev pub invariant-loop-byte : goal.invariant-loop-byte
invariant-loop-byte l =
    (l.end ≤ 4 * l.byte-index)
    × (take l.end l.out ≡ flat_map shown_byte (take l.byte-index l.bytes))
