use Rattle.std.proofs.Common.{◌≡◌, length, get_or, Some, ap, subst, ◌∙◌, of_calls, rules, arith}
use Rattle.std.specs.Slice.Iter.{iter_rest}
use Rattle.ring.specs.Choosing.{FirstBest}
use Rattle.ring.proofs.FirstBest.{lent_at, lent_first, answered}
use Rattle.ring.proofs.choosing.first_best.Goals as goal

pub returns : goal.returns
returns g c =
    let all = c.args.all.now in
    let run = c.first_best_of.ensures in
    let items = run.0.items in
    let lent = c.map.ensures.runs run.0 run.0.seen run.1 in
    let each = c.iter.ensures.runs lent.0 lent.0.seen in
    let made = lent.2.2 (search (rules, of_calls)) in
    let rest : iter_rest lent.0.from ≡ all = ap iter_rest lent.1 ∙ c.iter.ensures.rest in
    let long : length items ≡ length all = omega (arith, run.0.long, lent.2.1, each.1 (lent.2.0 ∙ run.2), ap length rest) in
    answered (length items ≡ 0) (length all ≡ 0) _ _ _ (λ e. omega arith)
    (λ x y shown first.
    let is : x.candidate ≡ y = search (rules, of_calls) in
    subst (λ v. FirstBest g.M.Ord.cmp all v.now) is (lent_first g.M.Ord.cmp all items long
    (λ k v z l.
    let read = run.0.reads k v (omega (arith, run.0.long)) in
    let from = each.2 k z (omega (arith, lent.2.1, run.0.long)) ∙ ap (λ xs. Some (get_or xs k z)) rest in
    lent_at _ (λ a b call. (search (rules, of_calls), search (rules, of_calls))) _ _ _ _ read from (made.1 k))
    x first))
    c.first_best_of.result c.map-2.result c.map-2.ensures.cases run.3.1
