use Rattle.std.proofs.Common.{◌≡◌, take, replicate, fold}
use Rattle.sheet.specs.Marks.{marked, in_turn}
use Rattle.sheet.proofs.place_units.Given as goal

abbrev pub invariant-loop-slot : goal.invariant-loop-slot
invariant-loop-slot l = (l.marks ≡ fold marked l.initial.marks (replicate l.slot-index l.mask)) × (take l.slot-index l.slots ≡ in_turn l.initial.marks (replicate l.slot-index l.mask))
