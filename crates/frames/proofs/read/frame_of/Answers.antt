use Rattle.std.proofs.Common.{◌/◌, ◌<◌, ◌≤◌, [], ◌∷◌, length, take, ap, ◌∙◌, arith}
use Rattle.frames.specs.Frames.{frame_of}
use Rattle.lines.specs.Hex.{bytes_of}
use Rattle.lines.proofs.Writes.{length_bytes_of}
use Rattle.frames.proofs.Steps.{long_form, front_is}
use Rattle.frames.proofs.read.frame_of.Goals as goal

pub returns : goal.returns
returns c =
    let ds = c.args.digits.now in
    let room : length ds / 2 ≤ 7 = omega arith in
    let zeros = 0 ∷ 0 ∷ 0 ∷ 0 ∷ 0 ∷ 0 ∷ 0 ∷ [] in
    c.parse.ensures
    ∙ ap (λ bs. frame_of c.args.line (take (length ds / 2) bs)) c.decode.ensures
    ∙ ap (frame_of c.args.line) (front_is zeros ds room)
