use Rattle.ring.proofs.Meanings.{clear_by_places}
use Rattle.ring.proofs.Limits.{limits_decided}
use Rattle.ring.proofs.definitions_mean.Goals as goal

pub returns : goal.returns
returns c = record { places = clear_by_places; limits = limits_decided }
