-- What the subject sees of a book: its ring, its number, its demands in the order of entry, its plan, and its slips.
use Rattle.std.specs.Prelude.{ℕ, min, max, Bool, true, false, cond, not, ◌&&◌, ◌||◌, List, [], ◌∷◌, replicate, filter, ◌==◌, nat_le, slice_index_or}
use Rattle.ring.specs.Sums.{count_of}
use Rattle.ring.specs.Ring.{load, lower_bound_of, slot_count}
use Rattle.ring.specs.Sides.{per_link}
use Rattle.ring.specs.Cuts.{heaviest_cut}
use Rattle.ring.specs.declared.Demand.{Demand}
use Rattle.ring.specs.declared.Row.{Row}
use Rattle.booklaw.specs.declared.Card.{Card}
use Rattle.booklaw.specs.declared.Drawing.{Drawing}
use Rattle.booklaw.specs.declared.Drawing.TheVariants.{Open, ByRule, BestLink}

pub record State : Type 0 where
  -- the nodes of the ring, and the number of the book
  pub size : ℕ
  pub number : ℕ
  -- in the order of entry
  pub demands : List Demand
  -- which drawing the book holds, and the rows of its plan
  pub drawing : Drawing
  pub rows : List Row
  -- whether a slip for the node v is out, at place v; no node has the number 0
  pub out : List Bool
  -- how many slips were issued, handed back as loaded, and handed back as returned, since the book was started
  pub issued : ℕ
  pub loaded : ℕ
  pub returned : ℕ

-- a book that was just started: open and empty, with no slip out
abbrev pub fresh : ℕ → ℕ → State
fresh size number = record { size = size; number = number; demands = []; drawing = Open; rows = []; out = replicate 17 false; issued = 0; loaded = 0; returned = 0 }

-- ---- the plan
abbrev pub is_open : Drawing → Bool
is_open Open = true
is_open ByRule = false
is_open (BestLink link) = false

abbrev pub planned : State → Bool
planned s = not (is_open s.drawing)

-- an open book holds no row, and a planned one at most 1,024
abbrev pub most_rows : Drawing → ℕ
most_rows d = cond (is_open d) 0 1024

-- ---- demands
-- v is a node of the ring of n nodes
abbrev pub is_node : ℕ → ℕ → Bool
is_node n v = nat_le 1 v && nat_le v n

-- the demand of these ends, which come in either order
abbrev pub demand_of : ℕ → ℕ → ℕ → ℕ → Demand
demand_of number a b units = record { number = number; lower = min a b; upper = max a b; units = units }

-- the demands less the one with this number; the later ones move up
abbrev pub without : ℕ → List Demand → List Demand
without number ds = filter (λ (d : Demand). not (d.number == number)) ds

-- ---- slips
-- whether the node is marked out: a slip for it was issued and is not handed back
abbrev pub is_out : List Bool → ℕ → Bool
is_out out node = slice_index_or out node false

-- how many nodes are marked out
abbrev pub outs : List Bool → ℕ
outs out = count_of (λ b. b) out

-- whether a slip with this book number and node is one that is out
abbrev pub fits : State → ℕ → ℕ → Bool
fits s book node = book == s.number && is_out s.out node

-- whether the demand has the node as one of its ends
abbrev pub has_end : ℕ → Demand → Bool
has_end node d = d.lower == node || d.upper == node

-- whether the demand of the row's number has
abbrev pub ends_at : List Demand → ℕ → Row → Bool
ends_at [] node r = false
ends_at (d ∷ ds) node r = cond (d.number == r.demand) (has_end node d) (ends_at ds node r)

-- the rows of all demands with the node as either end, in the order of the plan
abbrev pub node_rows : List Demand → List Row → ℕ → List Row
node_rows ds rows node = filter (ends_at ds node) rows

-- ---- the card
-- the figures of a plan: the slot count and the loads of its rows, the heaviest cut with its links and the lower bound of its demands
abbrev pub card_of : ℕ → List Demand → List Row → Card
card_of n ds rows = record { figures = record { slots = slot_count rows; loads = per_link n (load ds rows) }; cut = heaviest_cut n ds; lower_bound = lower_bound_of n ds }
