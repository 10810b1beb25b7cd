use Rattle.std.proofs.Common.{[], get_or, eqb, ap, refl, ◌∙◌, rules, tests}
use Rattle.std.specs.List.{slice_split}
use Rattle.std.proofs.lemmas.Iterator.Consumers.{nth_from_yields_List}
use Rattle.std.proofs.lemmas.Iterator.Splits.{YieldsList-from_slice_split}
use Rattle.lines.specs.Lines.{lines_of, unfed}
use Rattle.lines.proofs.First.{cut_is, part_is}
use Rattle.lines.proofs.fault_line.Goals as goal

pub returns : goal.returns
returns c =
    let s = c.args.text.now in
    let n = c.saturating_sub.result in
    let found = nth_from_yields_List _ _ n c.nth.ensures.ran (YieldsList-from_slice_split _ (λ b. eqb b 10) s c.split.ensures.rest c.split.ensures.done c.split.ensures.closure (λ x r q k. search (rules, tests))) in
    ap (λ x. x.now) c.unwrap_or.ensures ∙ part_is (λ x. x.now) c.nth.result _ (slice_split (λ b. eqb b 10) s) n found refl
    ∙ cut_is s n ∙ ap (λ n. unfed (get_or (lines_of s) n [])) c.saturating_sub.ensures
