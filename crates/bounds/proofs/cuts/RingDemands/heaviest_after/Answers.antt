use Rattle.std.proofs.Common.{◌≡◌, ℕ, ◌+◌, ◌-◌, ◌<◌, map, Some, refl, ap, ◌∙◌, rules, of_calls}
use Rattle.std.specs.Option.{option_map}
use Rattle.std.specs.Ordering.{nat_cmp}
use Rattle.std.specs.declared.cmp.Reverse.{Reverse}
use Rattle.std.proofs.iter.runs.Sources.{ranges}
use Rattle.ring.specs.Ring.{cut}
use Rattle.ring.specs.Choosing.{first_best}
use Rattle.ring.specs.Cuts.{cut_at, heaviest_after}
use Rattle.ring.specs.declared.Cut.{Cut}
use Rattle.ring.specs.declared.choosing.Best.{Best}
use Rattle.ring.proofs.FirstBest.{first_by_most, counted}
use Rattle.bounds.specs.Measures.{heavy_cut}
use Rattle.bounds.proofs.cuts.RingDemands.heaviest_after.Goals as goal
use Rattle.bounds.proofs.cuts.RingDemands.heaviest_after.Goals.{After-first_best_of}

-- the cuts are those of e with the links e + 1 to n
best : (c : After-first_best_of) → c.first_best_of.result ≡ Some (heavy_cut (cut_at c.args.self.now.demands.now c.args.e (heaviest_after c.args.self.now.nodes c.args.self.now.demands.now c.args.e)))
best c =
    let n = c.args.self.now.nodes in
    let e = c.args.e in
    let ds = c.args.self.now.demands.now in
    let mk : ℕ → Best Cut (Reverse ℕ) = λ f. heavy_cut (cut_at ds e f) in
    let run = c.first_best_of.ensures in
    let links = c.map-cuts.ensures.runs run.0 run.0.seen run.1 in
    let many : links.0.len ≡ n + 1 - (e + 1) = search (rules, ranges) in
    let each : (k : ℕ) → k < links.0.len → option_map (λ y. y) (links.0.at k) ≡ Some (e + 1 + k) = search (rules, ranges) in
    let made = links.2.3 mk (λ x r f k. search (rules, of_calls)) in
    run.3.0 ∙ ap (first_best (λ (x y : Reverse ℕ). nat_cmp y.0 x.0)) (made ∙ ap (map mk) (counted links.0 (e + 1) (n + 1 - (e + 1)) many each))
    ∙ first_by_most mk (cut ds e) (λ f. refl) (e + 1) n c.requires

pub unwrap-requires : goal.unwrap-requires
unwrap-requires c = let e = best c in search rules

pub returns : goal.returns
returns c = let e = best (goal.at.returns c).After-first_best_of in cc
