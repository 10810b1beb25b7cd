use Rattle.std.proofs.Common.{◌≡◌, ℕ, ◌+◌, ◌-◌, replicate, length-set, sym, ap, ◌∙◌, subst, subst₂, arith}
use Rattle.ring.specs.Ring.{slot_count}
use Rattle.ring.specs.declared.choosing.Best.{Best}
use Rattle.ring.proofs.Limits.{to_limits}
use Rattle.slotting.proofs.Tried.{TriedTo, tried_next, best_tried}
use Rattle.slotting.proofs.trials.try_links.Goals.{else-loop-link-test, then-loop-link-test+in_ok-trial+else-link-link-end}
use Rattle.slotting.proofs.trials.try_links.Goals as goal

pub loop-link-preserved : goal.loop-link-preserved
loop-link-preserved c =
    let n = c.args.traffic.now.nodes in
    let ds = c.args.traffic.now.demands.now in
    let limits = to_limits n ds c.args.traffic.now.limits in
    let drew = c.in_ok-trial.ensures.answer in
    let link = c.loop-link.link in
    let back : link ≡ link + 1 - 1 = omega arith in
    let next = tried_next n ds c.loop-link.trials link c.from.result _ (omega (arith, c.loop-link.auto.link)) (omega (arith, c.loop-link.auto.link, limits.most, c.loop-link.invariant.0)) c.from.ensures (drew.slots_are ∙ ap slot_count drew.rows_are) c.loop-link.invariant.1 in (
      length-set _ _ _ ∙ c.loop-link.invariant.0,
      subst (TriedTo n ds _) back next,
      (λ e. absurd (omega (arith, c.loop-link.auto.link))),
      c.in_ok-trial.ensures.room ∙ c.loop-link.invariant.3,
      (λ l. (omega (arith, drew.long, c.loop-link.auto.sheet), c.in_ok-trial.ensures.blank ∙ ap (λ (k : ℕ). replicate {A = ℕ} k 0) c.loop-link.auto.sheet)),
    )

pub returns-clause-answer : goal.returns-clause-answer
returns-clause-answer c =
    let n = c.args.traffic.now.nodes in
    let ds = c.args.traffic.now.demands.now in
    let limits = to_limits n ds c.args.traffic.now.limits in
    elim c.loop-link-test.branch [
      | else-loop-link-test w ↦ absurd (omega (arith, limits.least, w.loop-link-test.false, c.loop-link.auto.link-end))
      | then-loop-link-test+in_ok-trial+else-link-link-end w ↦
          let last : c.loop-link.link ≡ n = omega arith in
          let drew = w.in_ok-trial.ensures.answer in
          let next = tried_next n ds c.loop-link.trials c.loop-link.link w.from.result _ (omega (arith, c.loop-link.auto.link)) (omega (arith, c.loop-link.auto.link, limits.most, c.loop-link.invariant.0)) w.from.ensures (drew.slots_are ∙ ap slot_count drew.rows_are) c.loop-link.invariant.1 in
          let all : TriedTo n ds c.loop-link-test.trials n = subst₂ (TriedTo n ds) (sym w.trials-is) last next in
          let best = best_tried n ds (omega (arith, limits.least)) c.loop-link-test.trials _ _ c.from-2.ensures all c.in-Some.ensures in
          record { long = omega (arith, drew.long, c.loop-link.auto.sheet); link_is = ap (λ (b : Best ℕ ℕ). b.candidate) best }
    ]
