-- Why a book cannot be started, in plain words.
use Rattle.std.specs.Prelude.{ℕ, List, codes}
use Rattle.booklaw.specs.declared.StartFault.{StartFault}
use Rattle.booklaw.specs.declared.StartFault.TheVariants.{Memory, Refused}

abbrev pub fault_words : StartFault → List ℕ
fault_words Memory = codes "no memory"
fault_words (Refused why) = codes "no such ring"
