use Rattle.std.proofs.Common.{◌≡◌, take, ap, ◌∙◌, take_all, rules}
use Rattle.std.proofs.lemmas.Str.{IsUtf8-from_ascii}
use Rattle.keylines.specs.KeyLines.{shown_bytes}
use Rattle.keylines.proofs.AsciiShown.{IsAscii-shown_bytes}
use Rattle.keylines.proofs.shown_text.Goals as goal

pub unreachable-requires : goal.unreachable-requires
unreachable-requires c =
    let bytes = c.args.bytes.now in
    let shown : take c.loop-byte.end c.loop-byte.out ≡ shown_bytes bytes =
    c.loop-byte.invariant.1 ∙ ap shown_bytes (take_all c.loop-byte.byte-index bytes c.loop-byte-test.false) in
    c.in_default.ensures.cases.0 (rw shown (IsUtf8-from_ascii (shown_bytes bytes) (IsAscii-shown_bytes bytes (λ i. search rules))))
