use Rattle.std.proofs.Common.{◌≡◌, ℕ, ◌+◌, ◌-◌, ◌<◌, map, Some, sym, refl, ap, ◌∙◌, subst, rules, of_calls, arith}
use Rattle.std.specs.Option.{option_map}
use Rattle.std.specs.Ordering.{nat_cmp}
use Rattle.std.specs.declared.cmp.Reverse.{Reverse}
use Rattle.std.proofs.iter.runs.Sources.{ranges}
use Rattle.ring.specs.Ring.{cut}
use Rattle.ring.specs.Choosing.{first_best}
use Rattle.ring.specs.Cuts.{cut_at, heaviest_after, heaviest_cut, HeaviestCut}
use Rattle.ring.specs.declared.Cut.{Cut}
use Rattle.ring.specs.declared.choosing.Best.{Best}
use Rattle.ring.proofs.FirstBest.{first_by_most, counted}
use Rattle.bounds.specs.Measures.{heavy_cut}
use Rattle.bounds.proofs.Heaviest.{heaviest_is}
use Rattle.bounds.proofs.cuts.RingDemands.heaviest_cut.Goals as goal
use Rattle.bounds.proofs.cuts.RingDemands.heaviest_cut.Goals.{After-first_best_of}

-- the cuts are the heaviest of the links 1 to n - 1 with links after them
best : (c : After-first_best_of) → c.first_best_of.result ≡ Some (heavy_cut (heaviest_cut c.args.self.now.nodes c.args.self.now.demands.now))
best c =
    let n = c.args.self.now.nodes in
    let ds = c.args.self.now.demands.now in
    let mk : ℕ → Best Cut (Reverse ℕ) = λ e. heavy_cut (cut_at ds e (heaviest_after n ds e)) in
    let run = c.first_best_of.ensures in
    let firsts = c.map-cuts.ensures.runs run.0 run.0.seen run.1 in
    let many : firsts.0.len ≡ n - 1 + 1 - 1 = search (rules, ranges) in
    let each : (k : ℕ) → k < firsts.0.len → option_map (λ y. y) (firsts.0.at k) ≡ Some (1 + k) = search (rules, ranges) in
    let made = firsts.2.3 mk (λ x r f k. search (rules, of_calls)) in
    run.3.0 ∙ ap (first_best (λ (x y : Reverse ℕ). nat_cmp y.0 x.0)) (made ∙ ap (map mk) (counted firsts.0 1 (n - 1 + 1 - 1) many each))
    ∙ first_by_most mk (λ e. cut ds e (heaviest_after n ds e)) (λ e. refl) 1 (n - 1) (omega (arith, c.args.self.now.ring.0))

pub unwrap-requires : goal.unwrap-requires
unwrap-requires c = let e = best c in search rules

pub returns : goal.returns
returns c =
    let n = c.args.self.now.nodes in
    let ds = c.args.self.now.demands.now in
    let e = best (goal.at.returns c).After-first_best_of in
    let one : c.unwrap.result ≡ heavy_cut (heaviest_cut n ds) = cc in
    let is : c.unwrap.result.candidate ≡ heaviest_cut n ds = ap (λ (b : Best Cut (Reverse ℕ)). b.candidate) one in
    record {
      value = is;
      heaviest = subst (HeaviestCut n ds) (sym is) (heaviest_is n ds (omega (arith, c.args.self.now.ring.0)));
    }
