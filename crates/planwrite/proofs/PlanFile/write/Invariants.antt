use Rattle.std.proofs.Common.{◌≡◌, ◌+◌, ◌*◌, length, take}
use Rattle.std.specs.List.{flat_map, AllByRecursion as Each}
use Rattle.lines.specs.Writes.{overwrite}
use Rattle.planwrite.specs.Texts.{Sized, frame_text}
use Rattle.planwrite.proofs.Lengths.{demands_so_far, rows_so_far}
use Rattle.planwrite.proofs.PlanFile.write.Given as goal

-- the lines of the frames so far stand at the front
abbrev pub invariant-loop-d : goal.invariant-loop-d
invariant-loop-d l =
    let fs = demands_so_far l.self.number l.self.nodes (take l.d-index l.self.demands.now) in
    (l.place ≡ 9 + 13 * l.d-index) ×
    (l.place ≡ length (flat_map frame_text fs)) ×
    (l.bytes ≡ overwrite l.fn.bytes 0 (flat_map frame_text fs)) ×
    Each Sized fs

abbrev pub invariant-loop-row : goal.invariant-loop-row
invariant-loop-row l =
    let fs = rows_so_far l.self.number l.self.nodes l.self.demands.now (take l.row-index l.self.rows.now) in
    (l.place ≡ 9 + 13 * (length l.self.demands.now + l.row-index)) ×
    (l.place ≡ length (flat_map frame_text fs)) ×
    (l.bytes ≡ overwrite l.fn.bytes 0 (flat_map frame_text fs)) ×
    Each Sized fs
