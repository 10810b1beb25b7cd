-- The heaviest cut with its links is a cut of the ring, none is heavier, and each that comes before it is lighter.
use Rattle.std.proofs.Common.{◌≡◌, ℕ, ◌+◌, ◌-◌, ◌<◌, ◌≤◌, List, refl, ap, ⊎_elim, arith}
use Rattle.ring.specs.Ring.{cut}
use Rattle.ring.specs.Cuts.{heaviest_after, heaviest_first, heaviest_cut, Pair, Before, HeaviestCut}
use Rattle.ring.specs.declared.Demand.{Demand}
use Rattle.ring.proofs.FirstBest.{first_most_lem}
use Rattle.bounds.proofs.Spread.{cut_le_heaviest, heaviest_pairs_le}

module _ (n : ℕ) (ds : List Demand) (two : 2 ≤ n) where
  -- the heaviest of the cuts of the link e with the links after it
  after : (e : ℕ) → 1 ≤ e → e < n → ((e + 1 ≤ heaviest_after n ds e) × (heaviest_after n ds e ≤ n))
      × ((f : ℕ) → e + 1 ≤ f → f ≤ n → cut ds e f ≤ cut ds e (heaviest_after n ds e))
      × ((f : ℕ) → e + 1 ≤ f → f < heaviest_after n ds e → cut ds e f < cut ds e (heaviest_after n ds e))
  after e l u = first_most_lem (e + 1) n (cut ds e) (omega arith)

  -- the heaviest of those
  among : ((1 ≤ heaviest_first n ds) × (heaviest_first n ds ≤ n - 1))
      × ((e : ℕ) → 1 ≤ e → e ≤ n - 1 → cut ds e (heaviest_after n ds e) ≤ (heaviest_cut n ds).total)
      × ((e : ℕ) → 1 ≤ e → e < heaviest_first n ds → cut ds e (heaviest_after n ds e) < (heaviest_cut n ds).total)
  among = first_most_lem 1 (n - 1) (λ e. cut ds e (heaviest_after n ds e)) (omega arith)

  none_heavier : (e f : ℕ) → Pair n e f → cut ds e f ≤ (heaviest_cut n ds).total
  none_heavier e f p = omega (arith, (after e p.0 (omega (arith, p.1, p.2))).1 f (omega (arith, p.1)) p.2, among.1 e p.0 (omega (arith, p.1, p.2)))

  links : Pair n (heaviest_cut n ds).first (heaviest_cut n ds).second
  links =
      let a = among.0 in
      let b = (after (heaviest_first n ds) a.0 (omega (arith, a.1))).0 in
      (a.0, omega (arith, b.0), b.1)

  first_such : (e f : ℕ) → Pair n e f → Before e f (heaviest_cut n ds).first (heaviest_cut n ds).second → cut ds e f < (heaviest_cut n ds).total
  first_such e f p before =
      ⊎_elim (λ (l : e < heaviest_first n ds). omega (arith, (after e p.0 (omega (arith, p.1, p.2))).1 f (omega (arith, p.1)) p.2, among.2 e p.0 l))
      (λ (s : (e ≡ heaviest_first n ds) × (f < heaviest_after n ds (heaviest_first n ds))).
      let q = (after (heaviest_first n ds) among.0.0 (omega (arith, among.0.1))).2 f (omega (arith, s.0, p.1)) s.1 in
      omega (arith, q, ap (λ x. cut ds x f) s.0))
      before

  pub heaviest_is : HeaviestCut n ds (heaviest_cut n ds)
  heaviest_is =
      let a = cut_le_heaviest n ds (heaviest_cut n ds).first (heaviest_cut n ds).second (links.0, omega (arith, links.1, links.2)) (omega (arith, links.0, links.1), links.2) in
      record {
        links = links;
        counted = refl;
        greatest = omega (arith, a, heaviest_pairs_le n ds (heaviest_cut n ds).total none_heavier);
        none_heavier = none_heavier;
        first_such = first_such;
      }
