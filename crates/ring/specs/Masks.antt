-- A route as a link mask: a number in which bit e - 1 stands for the link e.
use Rattle.std.specs.Prelude.{◌≡◌, ℕ, zero, suc, ◌+◌, ◌-◌, ◌*◌, ◌/◌, ◌%◌, ◌^◌, Bool, true, cond, ◌≢◌, bit_and}
use Rattle.ring.specs.Sums.{one}
use Rattle.ring.specs.Ring.{over, Link}

-- the number whose lowest bit says p of e, the next one p of e + 1, and so on for m bits
abbrev pub bits : ℕ → ℕ → (ℕ → Bool) → ℕ
bits e zero p = 0
bits e (suc m) p = cond (p e) 1 0 + 2 * bits (e + 1) m p

-- the links of the ring of n nodes that the route of the ends i < j on a side holds
abbrev pub link_mask : ℕ → ℕ → ℕ → ℕ → ℕ
link_mask n side i j = bits 1 n (over side i j)

-- ---- what a mask means
-- bit e - 1 is 1 where the route holds the link e, else 0
abbrev pub BitForEachLink : ℕ → ℕ → ℕ → ℕ → ℕ → Type 0
BitForEachLink n side i j mask = (e : ℕ) → Link n e → (mask / 2 ^ (e - 1)) % 2 ≡ one (over side i j e)

-- some link of the ring is in both routes
abbrev pub Share : ℕ → ℕ → ℕ → ℕ → ℕ → ℕ → ℕ → Type 0
Share n s i j t k l = (e : ℕ) × Link n e × (over s i j e ≡ true) × (over t k l e ≡ true)

-- the mask has a bit in common with the mask of any other route exactly where the two routes share a link
abbrev pub MeetsWhereRoutesShare : ℕ → ℕ → ℕ → ℕ → ℕ → Type 0
MeetsWhereRoutesShare n s i j mask = (t k l : ℕ) →
    (Share n s i j t k l → bit_and mask (link_mask n t k l) ≢ 0) × ((bit_and mask (link_mask n t k l) ≢ 0) → Share n s i j t k l)
