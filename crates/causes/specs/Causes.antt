-- What a report says of a refusal beside its number, its cause and its line.
use Rattle.std.specs.Prelude.{Some, None}
use Rattle.refusals.specs.declared.Refusal.{Refusal}
use Rattle.refusals.specs.declared.Refusal.TheVariants.{RingSize, Planned, Unplanned, EndOutside, EndsFalling, UnitsOutside, NumberTaken, NumberUnknown, BookFull, UnitsPast, NodesOut, NodeOut, SlipsSpent, SlipUnknown, TooFew, LineForm, FrameForm, FrameOrder, FiguresWrong, DemandUnknown, SideWrong, SlotOutside, Collision, CountWrong, NoWeight, NoLink}
use Rattle.causes.specs.declared.Detail.{Detail}

-- the values of a refusal by what they are; the line of a demand with another number of rows than units is its place
abbrev pub detail_of : Refusal → Detail
detail_of RingSize = record { character = None; needed = None; place = None; row = None; met = None }
detail_of Planned = record { character = None; needed = None; place = None; row = None; met = None }
detail_of Unplanned = record { character = None; needed = None; place = None; row = None; met = None }
detail_of (EndOutside place) = record { character = None; needed = None; place = Some place; row = None; met = None }
detail_of (EndsFalling place) = record { character = None; needed = None; place = Some place; row = None; met = None }
detail_of (UnitsOutside place) = record { character = None; needed = None; place = Some place; row = None; met = None }
detail_of (NumberTaken place) = record { character = None; needed = None; place = Some place; row = None; met = None }
detail_of NumberUnknown = record { character = None; needed = None; place = None; row = None; met = None }
detail_of (BookFull place) = record { character = None; needed = None; place = Some place; row = None; met = None }
detail_of (UnitsPast place) = record { character = None; needed = None; place = Some place; row = None; met = None }
detail_of NodesOut = record { character = None; needed = None; place = None; row = None; met = None }
detail_of NodeOut = record { character = None; needed = None; place = None; row = None; met = None }
detail_of SlipsSpent = record { character = None; needed = None; place = None; row = None; met = None }
detail_of SlipUnknown = record { character = None; needed = None; place = None; row = None; met = None }
detail_of (TooFew needed) = record { character = None; needed = Some needed; place = None; row = None; met = None }
detail_of (LineForm line character) = record { character = Some character; needed = None; place = None; row = None; met = None }
detail_of (FrameForm line) = record { character = None; needed = None; place = None; row = None; met = None }
detail_of (FrameOrder line) = record { character = None; needed = None; place = None; row = None; met = None }
detail_of (FiguresWrong line) = record { character = None; needed = None; place = None; row = None; met = None }
detail_of (DemandUnknown row) = record { character = None; needed = None; place = None; row = Some row; met = None }
detail_of (SideWrong row) = record { character = None; needed = None; place = None; row = Some row; met = None }
detail_of (SlotOutside row) = record { character = None; needed = None; place = None; row = Some row; met = None }
detail_of (Collision row met) = record { character = None; needed = None; place = None; row = Some row; met = Some met }
detail_of (CountWrong line) = record { character = None; needed = None; place = Some line; row = None; met = None }
detail_of (NoWeight link) = record { character = None; needed = None; place = None; row = None; met = None }
detail_of NoLink = record { character = None; needed = None; place = None; row = None; met = None }
