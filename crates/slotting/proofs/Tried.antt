-- The trials of the links one after another, each at its place.
use Rattle.std.proofs.Common.{◌≡◌, ℕ, zero, suc, ◌+◌, ◌-◌, ◌<◌, ◌≤◌, List, [], ◌∷◌, ◌++◌, map, length, take, set, get_or, Ordering, sym, refl, ap, ◌∙◌, subst, subst₂, arith}
use Rattle.std.specs.List.{range_with_len}
use Rattle.std.specs.Option.{MatchOption}
use Rattle.std.specs.Cmp.{IsTotalOrder, nat_cmp_total}
use Rattle.std.specs.Ordering.{nat_cmp}
use Rattle.std.proofs.lemmas.List.{get_or_default, map-append, take_more_set}
use Rattle.std.proofs.lemmas.List.MinMax.{ranks_by, IsFirstBest-unique}
use Rattle.ring.specs.declared.Demand.{Demand}
use Rattle.ring.specs.declared.choosing.Best.{Best}
use Rattle.ring.specs.Choosing.{beats, FirstBest}
use Rattle.ring.proofs.FirstBest.{first_best_is, first_by_least}
use Rattle.drawn.specs.Slotting.{slots_shut, best_link}
use Rattle.slotting.specs.Answers.{trial}

-- one number more at the end
counting_end : (a m : ℕ) → range_with_len a m ++ (a + m) ∷ [] ≡ range_with_len a (suc m)
counting_end a zero = let e : a + 0 ≡ a = omega arith in ap (λ x. x ∷ []) e
counting_end a (suc m) = let e : a + suc m ≡ a + 1 + m = omega arith in ap (λ x. a ∷ (range_with_len (a + 1) m ++ x ∷ [])) e ∙ ap (λ xs. a ∷ xs) (counting_end (a + 1) m)

-- one element more
filled_more : {X : Type 0} (f : ℕ → X) (a : ℕ) (all : List X) (i : ℕ) (x : X) → i < length all → x ≡ f (a + i) → take i all ≡ map f (range_with_len a i) →
    take (i + 1) (set all i x) ≡ map f (range_with_len a (i + 1))
filled_more f a all i x lt is h =
    let next : suc i ≡ i + 1 = omega arith in
    take_more_set all i x lt
    ∙ ap (λ y. take i all ++ y ∷ []) is
    ∙ ap (λ xs. xs ++ f (a + i) ∷ []) h
    ∙ sym (map-append f (range_with_len a i) ((a + i) ∷ []))
    ∙ ap (map f) (counting_end a i)
    ∙ ap (λ k. map f (range_with_len a k)) next

-- the first m links have been tried, each at its place
abbrev pub TriedTo : ℕ → List Demand → List (Best ℕ ℕ) → ℕ → Type 0
TriedTo n ds trials m = take m trials ≡ map (trial n ds) (range_with_len 1 m)

-- and the next one
pub tried_next : (n : ℕ) (ds : List Demand) (trials : List (Best ℕ ℕ)) (link at slots : ℕ) → 1 ≤ link → link ≤ length trials → at ≡ link → slots ≡ slots_shut n ds link →
    TriedTo n ds trials (link - 1) → TriedTo n ds (set trials (at - 1) (record { candidate = link; measure = slots })) link
tried_next n ds trials link at slots low high is was h =
    let turn : link ≡ 1 + (link - 1) = omega arith in
    let same : link - 1 + 1 ≡ link = omega arith in
    let made : ℕ → ℕ → Best ℕ ℕ = λ e m. record { candidate = e; measure = m } in
    let more = filled_more (trial n ds) 1 trials (link - 1) (made link slots) (omega arith) (ap (made link) was ∙ ap (trial n ds) turn) h in
    subst₂ (λ k m. TriedTo n ds (set trials (k - 1) (made link slots)) m) (sym is) same more

-- there is one first best
one_first : {C M : Type 0} (cmp : M → M → Ordering) → IsTotalOrder cmp → (all : List (Best C M)) (x y : Best C M) → FirstBest cmp all x → FirstBest cmp all y → x ≡ y
one_first {C = C} {M = M} cmp o all x y fx fy =
    let same : fx.0 ≡ fy.0 = IsFirstBest-unique {beats = beats cmp} (ranks_by o (λ (z : Best C M). z.measure)) all (length all) fx.0 fy.0 x fx.3 fy.3 in
    sym fx.2 ∙ ap (λ k. get_or all k x) same ∙ get_or_default all fy.0 x y fy.1 ∙ fy.2

-- of all links the first best is the best one
pub best_tried : (n : ℕ) (ds : List Demand) → 1 ≤ n → (trials : List (Best ℕ ℕ)) (m : ℕ) (x : Best ℕ ℕ) → m ≡ n → TriedTo n ds trials n → FirstBest nat_cmp (take m trials) x →
    x ≡ trial n ds (best_link n ds)
best_tried n ds low trials m x many all first =
    let every = map (trial n ds) (range_with_len 1 n) in
    let is = first_by_least (trial n ds) (slots_shut n ds) (λ e. refl) n low in
    let best = subst (λ r. MatchOption r (length every ≡ 0) (λ y. FirstBest nat_cmp every y)) is (first_best_is nat_cmp nat_cmp_total every) in
    one_first nat_cmp nat_cmp_total every x (trial n ds (best_link n ds)) (subst (λ xs. FirstBest nat_cmp xs x) (ap (λ k. take k trials) many ∙ all) first) best
