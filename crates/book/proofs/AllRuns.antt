-- The law over all runs of the code's book, from the law of the calls: each step of a run is a call's contract.
use Rattle.std.proofs.Common.{◌≡◌, ℕ, ◌≤◌, true, leb, List, [], ◌∷◌, sym, subst, arith}
use Rattle.std.proofs.lemmas.Bool.{and_parts, leb-true}
use Rattle.ring.specs.declared.Demand.{Demand}
use Rattle.ring.specs.declared.Row.{Row}
use Rattle.booklaw.specs.Calls.{Issue, accepted, answer, after}
use Rattle.booklaw.specs.Histories.{Event, Unreturned}
use Rattle.booklaw.proofs.AllCalls.{Kept, begins, goes_on, lawful, Held, held_begins, held_goes_on, held_same}
use Rattle.book.specs.declared.book.Book.{Book}
use Rattle.book.specs.Does.{Does, state, demands_in, rows_in}
use Rattle.book.specs.Runs.{Run, none, next, Sound}
use Rattle.book.specs.Starts.{is_ring, Fresh}

-- each book of a run keeps what a fresh one has
run_kept : (size number : ℕ) (start : Book) {past : List Event} {b : Book} → Kept size number [] (state start) → Run start past b → Kept size number past (state b)
run_kept size number start i none = i
run_kept size number start i (next {past} {b} {b'} {c} {r} run d) =
    subst (Kept size number (record { call = c; got = r } ∷ past)) (sym d.leaves) (goes_on size number past (state b) c r (run_kept size number start i run) d.answers)

-- each book of a run from one with a node out holds the same rows and demands, as long as no hand back for the node is accepted
run_held : (node : ℕ) (rows : List Row) (ds : List Demand) (out : Book) {later : List Event} {b : Book} → Held node rows ds (state out) → Run out later b → Unreturned node later →
    Held node rows ds (state b)
run_held node rows ds out i none un = i
run_held node rows ds out i (next {past} {b} {b'} {c} {r} run d) un =
    subst (Held node rows ds) (sym d.leaves) (held_goes_on node rows ds (state b) c r (run_held node rows ds out i run un.1) d.answers un.0)

-- an accepted issue begins that
issued_held : (node : ℕ) (b out : Book) → Does b (Issue node) accepted out → b.size ≤ 16 → Held node (rows_in out) (demands_in out) (state out)
issued_held node b out d high =
    let e : answer (state b) (Issue node) ≡ accepted = sym d.answers in
    let i = held_begins node (state b) b.places high e in
    let left : after (state b) (Issue node) ≡ state out = sym d.leaves in
    let same = held_same (subst (Held node (rows_in b) (demands_in b)) left i) in
    subst (λ rows. Held node rows (demands_in out) (state out)) (sym same.0)
    (subst (λ ds. Held node (rows_in b) ds (state out)) (sym same.1) (subst (Held node (rows_in b) (demands_in b)) left i))

-- the law, of a fresh book
pub fresh_sound : (n number : ℕ) (b : Book) → is_ring n ≡ true → Fresh n number b → Sound n number b
fresh_sound n number b ring new =
    let p = and_parts (leb 3 n) (leb n 16) ring in
    let i = subst (Kept n number []) (sym new) (begins n number (leb-true 3 n p.0) (leb-true n 16 p.1)) in
    record {
      lawful = λ past b' run. lawful n number past (state b') (run_kept n number b i run);
      stays = λ past before out node run d later b' run' un.
          let k = run_kept n number b i run in
          held_same (run_held node (rows_in out) (demands_in out) out (issued_held node before out d (omega (arith, k.same_size, leb-true n 16 p.1))) run' un);
    }
