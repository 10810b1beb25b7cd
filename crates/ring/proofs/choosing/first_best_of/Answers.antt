use Rattle.std.proofs.Common.{◌≡◌, length, sym, subst, of_calls, rules}
use Rattle.std.specs.Option.{MatchOption}
use Rattle.ring.specs.Choosing.{kept, first_best, FirstBest}
use Rattle.ring.proofs.FirstBest.{first_best_is}
use Rattle.ring.proofs.choosing.first_best_of.Goals as goal

pub returns : goal.returns
returns g c =
    let cmp = g.M.Ord.cmp in
    let run = c.fold.ensures.runs in
    let is : c.fold.result ≡ first_best cmp run.0.items = run.3 (kept cmp) (λ x y r f k. search (rules, of_calls)) in
    let best = subst (λ r. MatchOption r (length run.0.items ≡ 0) (λ x. FirstBest cmp run.0.items x)) (sym is) (first_best_is cmp g.met.M.Ord.total run.0.items) in
    (run.0, run.1, run.2, (is, best))
