-- What is printed of a plan file: lines of a key and a value.
use Rattle.std.specs.Prelude.{ℕ, List, [], ◌∷◌, ◌++◌, take, Some, Ok, Err, codes, Option, Result}
use Rattle.refusals.specs.declared.Refusal.{Refusal}
use Rattle.refusals.specs.Refusals.{refusal_number, cause_words}
use Rattle.keylines.specs.declared.Key.{Key}
use Rattle.keylines.specs.declared.Key.TheVariants.{Book, Nodes, Demands, Units, Slots, Refused, Line, Character, Needed, Place, Row, Met}
use Rattle.keylines.specs.declared.Entry.{Entry}
use Rattle.keylines.specs.KeyLines.{key_line, entry_line, entry_lines, spaced, shown_bytes}
use Rattle.causes.specs.declared.Detail.{Detail}
use Rattle.causes.specs.Causes.{detail_of}
use Rattle.lines.specs.Lines.{line_at}
use Rattle.frames.specs.Reading.{reading}
use Rattle.planfile.specs.declared.PlanFault.{PlanFault}
use Rattle.planfile.specs.declared.Taken.{Taken}
use Rattle.planfile.specs.Faults.{cause_of, line_of_fault}
use Rattle.planfile.specs.Taking.{taking}

-- an entry with a number, and one that may have none
abbrev pub known : Key → ℕ → Entry
known k n = record { key = k; value = Some n }

abbrev pub if_known : Key → Option ℕ → Entry
if_known k v = record { key = k; value = v }

-- ---- a plan that passes
-- the book, the ring and the counts
abbrev pub figure_entries : Taken → List Entry
figure_entries t = known Book t.number ∷ known Nodes t.nodes ∷ known Demands t.demands ∷ known Units t.units ∷ known Slots t.verdict.slots ∷ []

-- then the loads of the ring's links
abbrev pub passed_text : Taken → List ℕ
passed_text t = codes "passed\n" ++ (entry_lines (figure_entries t) ++ (codes "loads" ++ (spaced (take t.nodes t.verdict.loads) ++ codes "\n")))

-- ---- a plan that is refused
-- where the fault is, and its values
abbrev pub place_entries : ℕ → Detail → List Entry
place_entries line d = known Line line ∷ if_known Character d.character ∷ if_known Needed d.needed ∷ if_known Place d.place ∷ if_known Row d.row ∷ if_known Met d.met ∷ []

-- the number, the cause in words, the place, and the line at fault as it is shown
abbrev pub refused_text : List ℕ → ℕ → Refusal → List ℕ
refused_text text line refusal =
    entry_line (known Refused (refusal_number refusal))
    ++ (key_line (codes "cause") (cause_words refusal)
    ++ (entry_lines (place_entries line (detail_of refusal)) ++ (codes "text " ++ (shown_bytes (line_at text line) ++ codes "\n"))))

abbrev pub answer_text : List ℕ → Result Taken PlanFault → List ℕ
answer_text text (Ok t) = passed_text t
answer_text text (Err e) = refused_text text (line_of_fault e) (cause_of e)

-- what is printed of a text, with room for 256 demand lines and 2,048 rows, and a sheet of 1,024 marks
abbrev pub reported : List ℕ → List ℕ
reported text = answer_text text (taking 1024 (reading 256 2048 text))
