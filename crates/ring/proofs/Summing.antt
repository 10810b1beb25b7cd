-- Laws of sums over a list.
use Rattle.std.proofs.Common.{◌≡◌, ℕ, ◌+◌, ◌<◌, ◌≤◌, Bool, true, false, cond, ◌&&◌, List, [], ◌∷◌, ◌++◌, length, get_or, take, drop, set, sum_by, sym, refl, ap, ◌∙◌, arith}
use Rattle.std.specs.List.{AllByRecursion as Each}
use Rattle.std.proofs.lemmas.List.Sums.{sum_by-cons, sum_by_more, sum_by-drop_more, sum_by-set}
use Rattle.ring.specs.Sums.{sum_of, one, count_of}
use Rattle.ring.specs.Ring.{units}
use Rattle.ring.specs.Sides.{Choice, route_units, routes_by}
use Rattle.ring.specs.declared.Demand.{Demand}

pub sum_zero : {X : Type 0} (xs : List X) → sum_of (λ x. 0) xs ≡ 0
sum_zero [] = refl
sum_zero (x ∷ xs) = omega (arith, sum_zero xs)

pub sum_one : {X : Type 0} (xs : List X) → sum_of (λ x. 1) xs ≡ length xs
sum_one [] = refl
sum_one (x ∷ xs) = omega (arith, sum_one xs)

pub sum_add : {X : Type 0} (f g : X → ℕ) (xs : List X) → sum_of (λ x. f x + g x) xs ≡ sum_of f xs + sum_of g xs
sum_add f g [] = refl
sum_add f g (x ∷ xs) = omega (arith, sum_add f g xs)

pub sum_swap : {X Y : Type 0} (f : X → Y → ℕ) (xs : List X) (ys : List Y) →
    sum_of (λ x. sum_of (f x) ys) xs ≡ sum_of (λ y. sum_of (λ x. f x y) xs) ys
sum_swap f [] ys = sym (sum_zero ys)
sum_swap f (x ∷ xs) ys = ap (λ n. sum_of (f x) ys + n) (sum_swap f xs ys) ∙ sym (sum_add (f x) (λ y. sum_of (λ x. f x y) xs) ys)

pub sum_le : {X : Type 0} (f g : X → ℕ) (xs : List X) → Each (λ x. f x ≤ g x) xs → sum_of f xs ≤ sum_of g xs
sum_le f g [] h = omega arith
sum_le f g (x ∷ xs) h = omega (arith, h.0, sum_le f g xs h.1)

pub sum_eq : {X : Type 0} (f g : X → ℕ) (xs : List X) → Each (λ x. f x ≡ g x) xs → sum_of f xs ≡ sum_of g xs
sum_eq f g [] h = refl
sum_eq f g (x ∷ xs) h = omega (arith, h.0, sum_eq f g xs h.1)

pub all_of : {X : Type 0} (P : X → Type 0) → ((x : X) → P x) → (xs : List X) → Each P xs
all_of P h [] = tt
all_of P h (x ∷ xs) = (h x, all_of P h xs)

-- a count that is taken only where b holds
pub count_if : {X : Type 0} (p : X → Bool) (b : Bool) (xs : List X) → count_of (λ x. b && p x) xs ≡ cond b (count_of p xs) 0
count_if p true xs = refl
count_if p false xs = sum_zero xs

-- ---- the library's sums, which are folds
pub as_sum_by : {X : Type 0} (f : X → ℕ) (xs : List X) → sum_of f xs ≡ sum_by f xs
as_sum_by f [] = refl
as_sum_by f (x ∷ xs) = ap (λ n. f x + n) (as_sum_by f xs) ∙ sym (sum_by-cons f x xs)

-- ---- lists that are joined, cut and changed
pub sum_cons : {X : Type 0} (f : X → ℕ) (x : X) (xs : List X) → sum_of f (x ∷ xs) ≡ f x + sum_of f xs
sum_cons f x xs = refl

pub sum_append : {X : Type 0} (f : X → ℕ) (xs ys : List X) → sum_of f (xs ++ ys) ≡ sum_of f xs + sum_of f ys
sum_append f [] ys = omega arith
sum_append f (x ∷ xs) ys = omega (arith, sum_append f xs ys)

pub sum_more : {X : Type 0} (f : X → ℕ) (xs : List X) (i : ℕ) (d : X) → i < length xs → sum_of f (take (i + 1) xs) ≡ sum_of f (take i xs) + f (get_or xs i d)
sum_more f xs i d h = as_sum_by f (take (i + 1) xs) ∙ sum_by_more f xs i d h ∙ ap (λ n. n + f (get_or xs i d)) (sym (as_sum_by f (take i xs)))

pub sum_drop_more : {X : Type 0} (f : X → ℕ) (xs : List X) (i : ℕ) (d : X) → i < length xs → sum_of f (drop i xs) ≡ f (get_or xs i d) + sum_of f (drop (i + 1) xs)
sum_drop_more f xs i d h = as_sum_by f (drop i xs) ∙ sum_by-drop_more f xs i d h ∙ ap (λ n. f (get_or xs i d) + n) (sym (as_sum_by f (drop (i + 1) xs)))

pub sum_set : {X : Type 0} (f : X → ℕ) (xs : List X) (i : ℕ) (y d : X) → i < length xs → sum_of f (set xs i y) + f (get_or xs i d) ≡ sum_of f xs + f y
sum_set f xs i y d h = omega (arith, as_sum_by f (set xs i y), as_sum_by f xs, sum_by-set f xs i y d h)

-- ---- counts
pub count_cons : {X : Type 0} (p : X → Bool) (x : X) (xs : List X) → count_of p (x ∷ xs) ≡ one (p x) + count_of p xs
count_cons p x xs = refl

pub one_le : (b : Bool) → one b ≤ 1
one_le true = omega arith
one_le false = omega arith

pub count_le_length : {X : Type 0} (p : X → Bool) (xs : List X) → count_of p xs ≤ length xs
count_le_length p [] = omega arith
count_le_length p (x ∷ xs) = omega (arith, one_le (p x), count_le_length p xs)

-- ---- a part of a sum: what passes a test
pub part_le : {X : Type 0} (p : X → Bool) (f : X → ℕ) (xs : List X) → sum_of (λ x. cond (p x) (f x) 0) xs ≤ sum_of f xs
part_le p f [] = omega arith
part_le p f (x ∷ xs) = omega (arith, go (p x), part_le p f xs)
  where
    go : (t : Bool) → cond t (f x) 0 ≤ f x
    go true = omega arith
    go false = omega arith

-- ---- routes
-- the units of the demands, whatever their sides
pub route_units_lem : (σ : Choice) (n : ℕ) (ds : List Demand) → route_units (routes_by σ n ds) ≡ units ds
route_units_lem σ n [] = refl
route_units_lem σ n (d ∷ ds) = omega (arith, route_units_lem σ n ds)
