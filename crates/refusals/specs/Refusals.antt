-- The causes of a refusal: the number of each, its words, and the values that are returned with it, in their order.
use Rattle.std.specs.Prelude.{ℕ, List, Some, None, Option, codes}
use Rattle.refusals.specs.declared.Refusal.{Refusal}
use Rattle.refusals.specs.declared.Refusal.TheVariants.{RingSize, Planned, Unplanned, EndOutside, EndsFalling, UnitsOutside, NumberTaken, NumberUnknown, BookFull, UnitsPast, NodesOut, NodeOut, SlipsSpent, SlipUnknown, TooFew, LineForm, FrameForm, FrameOrder, FiguresWrong, DemandUnknown, SideWrong, SlotOutside, Collision, CountWrong, NoWeight, NoLink}

abbrev pub refusal_number : Refusal → ℕ
refusal_number RingSize = 1
refusal_number Planned = 2
refusal_number Unplanned = 3
refusal_number (EndOutside place) = 4
refusal_number (EndsFalling place) = 5
refusal_number (UnitsOutside place) = 6
refusal_number (NumberTaken place) = 7
refusal_number NumberUnknown = 8
refusal_number (BookFull place) = 9
refusal_number (UnitsPast place) = 10
refusal_number NodesOut = 11
refusal_number NodeOut = 12
refusal_number SlipsSpent = 13
refusal_number SlipUnknown = 14
refusal_number (TooFew needed) = 15
refusal_number (LineForm line character) = 16
refusal_number (FrameForm line) = 17
refusal_number (FrameOrder line) = 18
refusal_number (FiguresWrong line) = 19
refusal_number (DemandUnknown row) = 20
refusal_number (SideWrong row) = 21
refusal_number (SlotOutside row) = 22
refusal_number (Collision row met) = 23
refusal_number (CountWrong line) = 24
refusal_number (NoWeight link) = 25
refusal_number NoLink = 26

-- the cause in plain words
abbrev pub cause_words : Refusal → List ℕ
cause_words RingSize = codes "the ring size is not 3 to 16"
cause_words Planned = codes "the book is planned"
cause_words Unplanned = codes "the book has no plan"
cause_words (EndOutside place) = codes "an end or a node is not on the ring"
cause_words (EndsFalling place) = codes "the lower end is not below the upper one"
cause_words (UnitsOutside place) = codes "the units are not 1 to 48"
cause_words (NumberTaken place) = codes "the demand number is 0 or present already"
cause_words NumberUnknown = codes "the demand number is not present"
cause_words (BookFull place) = codes "there are more than 128 demands"
cause_words (UnitsPast place) = codes "there are more than 1024 units"
cause_words NodesOut = codes "a node is marked out"
cause_words NodeOut = codes "this node is out already"
cause_words SlipsSpent = codes "65535 slips have been issued"
cause_words SlipUnknown = codes "the slip is of another book or its node is not out"
cause_words (TooFew needed) = codes "there is not room enough"
cause_words (LineForm line character) = codes "the line is not pairs of lower-case hexadecimal digits and a line feed"
cause_words (FrameForm line) = codes "no frame has this kind and length"
cause_words (FrameOrder line) = codes "the frame may not come here or the text stops early"
cause_words (FiguresWrong line) = codes "the figures of the end frame are wrong"
cause_words (DemandUnknown row) = codes "the row is of no demand"
cause_words (SideWrong row) = codes "the side is not 0 or 1 or unlike that of the demand's first row"
cause_words (SlotOutside row) = codes "the slot is not 1 to 1024"
cause_words (Collision row met) = codes "the row shares a slot and a link with an earlier one"
cause_words (CountWrong line) = codes "the demand has not as many rows as units"
cause_words (NoWeight link) = codes "the weight of a link is 0"
cause_words NoLink = codes "the link to shut is not 1 to 16"

-- at most two values
abbrev pub Values : Type 0
Values = Option ℕ × Option ℕ

abbrev pub refusal_values : Refusal → Values
refusal_values RingSize = (None, None)
refusal_values Planned = (None, None)
refusal_values Unplanned = (None, None)
refusal_values (EndOutside place) = (Some place, None)
refusal_values (EndsFalling place) = (Some place, None)
refusal_values (UnitsOutside place) = (Some place, None)
refusal_values (NumberTaken place) = (Some place, None)
refusal_values NumberUnknown = (None, None)
refusal_values (BookFull place) = (Some place, None)
refusal_values (UnitsPast place) = (Some place, None)
refusal_values NodesOut = (None, None)
refusal_values NodeOut = (None, None)
refusal_values SlipsSpent = (None, None)
refusal_values SlipUnknown = (None, None)
refusal_values (TooFew needed) = (Some needed, None)
refusal_values (LineForm line character) = (Some line, Some character)
refusal_values (FrameForm line) = (Some line, None)
refusal_values (FrameOrder line) = (Some line, None)
refusal_values (FiguresWrong line) = (Some line, None)
refusal_values (DemandUnknown row) = (Some row, None)
refusal_values (SideWrong row) = (Some row, None)
refusal_values (SlotOutside row) = (Some row, None)
refusal_values (Collision row met) = (Some row, Some met)
refusal_values (CountWrong line) = (Some line, None)
refusal_values (NoWeight link) = (Some link, None)
refusal_values NoLink = (None, None)
