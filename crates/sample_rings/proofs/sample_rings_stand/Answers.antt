use Rattle.std.proofs.Common.{refl}
use Rattle.ring.specs.Sides.{per_link}
use Rattle.drawn.specs.Slotting.{drawn}
use Rattle.sample_rings.proofs.sample_rings_stand.Goals as goal

-- each is computed
pub returns : goal.returns
unfolding drawn per_link
returns c =
    record {
      neighbours_cut = refl;
      neighbours_total = refl;
      neighbours_bound = refl;
      neighbours_short = refl;
      neighbours_shut_load = refl;
      neighbours_shut_link = refl;
      neighbours_shut = refl;
      neighbours_link = refl;
      neighbours_best = refl;
      opposites_total = refl;
      opposites_bound = refl;
      opposites_short = refl;
      crossing_short = refl;
      crossing_short_loads = refl;
      crossing_cut = refl;
      crossing_bound = refl;
      empty_short = refl;
      empty_cut = refl;
      empty_bound = refl;
      equal_weights = refl;
      unequal_weights = refl;
      checked = refl;
      collision = refl;
      collision_number = refl;
      slot_outside = refl;
      two_nodes = refl;
      short_sheet = refl;
      end_outside = refl;
      no_rows = refl;
    }
