-- The test of the limits decides them.
use Rattle.std.proofs.Common.{◌≡◌, ℕ, ◌≤◌, Bool, true, not, ◌&&◌, eqb, ltb, leb, List, [], ◌∷◌, length, refl}
use Rattle.std.specs.List.{AllByRecursion as Each}
use Rattle.std.proofs.lemmas.Bool.{and_parts, and_from, leb-true, le-leb, ltb-true, lt-ltb, not-true, not_from_false, ne_eqb, eq-eqb, both_ways}
use Rattle.ring.specs.Sums.{each}
use Rattle.ring.specs.Ring.{Ends, Numbered, WithinLimits, units, ends_test, units_test, numbered_test, within_limits}
use Rattle.ring.specs.Claims.{LimitsDecided}
use Rattle.ring.specs.declared.Demand.{Demand}

all_each : {X : Type 0} (p : X → Bool) (P : X → Type 0) → ((x : X) → p x ≡ true → P x) → (xs : List X) → each p xs ≡ true → Each P xs
all_each p P f [] h = tt
all_each p P f (x ∷ xs) h = let q = and_parts (p x) (each p xs) h in (f x q.0, all_each p P f xs q.1)

each_all : {X : Type 0} (p : X → Bool) (P : X → Type 0) → ((x : X) → P x → p x ≡ true) → (xs : List X) → Each P xs → each p xs ≡ true
each_all p P f [] h = refl
each_all p P f (x ∷ xs) h = and_from (p x) (each p xs) (f x h.0) (each_all p P f xs h.1)

to_ends : (n : ℕ) (d : Demand) → ends_test n d ≡ true → Ends n d.lower d.upper
to_ends n d h =
    let p = and_parts (leb 1 d.lower) (ltb d.lower d.upper && leb d.upper n) h in
    let q = and_parts (ltb d.lower d.upper) (leb d.upper n) p.1 in
    (leb-true 1 d.lower p.0, ltb-true d.lower d.upper q.0, leb-true d.upper n q.1)

from_ends : (n : ℕ) (d : Demand) → Ends n d.lower d.upper → ends_test n d ≡ true
from_ends n d h =
    and_from (leb 1 d.lower) (ltb d.lower d.upper && leb d.upper n) (le-leb 1 d.lower h.0)
    (and_from (ltb d.lower d.upper) (leb d.upper n) (lt-ltb d.lower d.upper h.1) (le-leb d.upper n h.2))

to_numbered : (ds : List Demand) → numbered_test ds ≡ true → Numbered ds
to_numbered [] h = tt
to_numbered (d ∷ ds) h =
    let p = and_parts (each (λ (c : Demand). not (eqb c.number d.number)) ds) (numbered_test ds) h in (
      all_each (λ (c : Demand). not (eqb c.number d.number)) (λ (c : Demand). c.number ≡ d.number → ⊥)
          (λ c e q. both_ways (eqb c.number d.number) (not-true (eqb c.number d.number) e) (eq-eqb c.number d.number q)) ds p.0,
      to_numbered ds p.1,
    )

from_numbered : (ds : List Demand) → Numbered ds → numbered_test ds ≡ true
from_numbered [] h = refl
from_numbered (d ∷ ds) h =
    and_from (each (λ (c : Demand). not (eqb c.number d.number)) ds) (numbered_test ds)
    (each_all (λ (c : Demand). not (eqb c.number d.number)) (λ (c : Demand). c.number ≡ d.number → ⊥)
    (λ c ne. not_from_false (eqb c.number d.number) (ne_eqb c.number d.number ne)) ds h.0)
    (from_numbered ds h.1)

pub to_limits : (n : ℕ) (ds : List Demand) → within_limits n ds ≡ true → WithinLimits n ds
to_limits n ds h =
    let a = and_parts (leb 3 n) _ h in
    let b = and_parts (leb n 16) _ a.1 in
    let c = and_parts (each (ends_test n) ds) _ b.1 in
    let d = and_parts (numbered_test ds) _ c.1 in
    let g = and_parts (each (λ (d : Demand). leb 1 d.number) ds) _ d.1 in
    let e = and_parts (each units_test ds) _ g.1 in
    let f = and_parts (leb (length ds) 128) (leb (units ds) 1024) e.1 in
    record {
      least = leb-true 3 n a.0;
      most = leb-true n 16 b.0;
      fitting = all_each (ends_test n) (λ (d : Demand). Ends n d.lower d.upper) (to_ends n) ds c.0;
      numbered = to_numbered ds d.0;
      numbers = all_each (λ (d : Demand). leb 1 d.number) (λ (d : Demand). 1 ≤ d.number) (λ d t. leb-true 1 d.number t) ds g.0;
      sized = all_each units_test (λ (d : Demand). (1 ≤ d.units) × (d.units ≤ 48))
          (λ d t. let q = and_parts (leb 1 d.units) (leb d.units 48) t in (leb-true 1 d.units q.0, leb-true d.units 48 q.1)) ds e.0;
      few = leb-true (length ds) 128 f.0;
      total = leb-true (units ds) 1024 f.1;
    }

pub from_limits : (n : ℕ) (ds : List Demand) → WithinLimits n ds → within_limits n ds ≡ true
from_limits n ds l =
    and_from (leb 3 n) _ (le-leb 3 n l.least)
    (and_from (leb n 16) _ (le-leb n 16 l.most)
    (and_from (each (ends_test n) ds) _ (each_all (ends_test n) (λ (d : Demand). Ends n d.lower d.upper) (from_ends n) ds l.fitting)
    (and_from (numbered_test ds) _ (from_numbered ds l.numbered)
    (and_from (each (λ (d : Demand). leb 1 d.number) ds) _ (each_all (λ (d : Demand). leb 1 d.number) (λ (d : Demand). 1 ≤ d.number) (λ d h. le-leb 1 d.number h) ds l.numbers)
    (and_from (each units_test ds) _ (each_all units_test (λ (d : Demand). (1 ≤ d.units) × (d.units ≤ 48))
    (λ d h. and_from (leb 1 d.units) (leb d.units 48) (le-leb 1 d.units h.0) (le-leb d.units 48 h.1)) ds l.sized)
    (and_from (leb (length ds) 128) (leb (units ds) 1024) (le-leb (length ds) 128 l.few) (le-leb (units ds) 1024 l.total)))))))

pub limits_decided : LimitsDecided
limits_decided n ds = (to_limits n ds, from_limits n ds)
