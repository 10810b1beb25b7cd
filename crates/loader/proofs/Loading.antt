-- A slip that was just issued is handed back: it is known, and the book is then as it was, but for its counters.
use Rattle.std.proofs.Common.{◌≡◌, ℕ, ◌+◌, ◌<◌, true, false, eqb, List, length, set, sym, refl, ap, ◌∙◌, subst, arith}
use Rattle.std.proofs.lemmas.List.{get_or-set_same, set-set, set-get_or}
use Rattle.std.proofs.lemmas.Bool.{and_from, eq-eqb, not_from_true}
use Rattle.refusals.specs.declared.Refusal.{Refusal}
use Rattle.refusals.specs.declared.Refusal.TheVariants.{SlipUnknown}
use Rattle.ring.specs.declared.Row.{Row}
use Rattle.ring.proofs.Limits.{to_limits}
use Rattle.planwrite.specs.Fronts.{fronted}
use Rattle.booklaw.specs.Books.{State, is_out, node_rows}
use Rattle.booklaw.specs.Calls.{Issue, HandBack, Outcome, as_loaded, as_returned, Answer, accepted, refused, unless, answer, changed, settled, after, with_slips}
use Rattle.booklaw.proofs.Passing.{issue_passed}
use Rattle.book.specs.declared.book.Book.{Book}
use Rattle.book.specs.declared.slips.Slip.{Slip}
use Rattle.booklaw.specs.declared.Stage.TheVariants.{Unread}
use Rattle.book.specs.Does.{Does, state, demands_in, rows_in}
use Rattle.book.specs.Slips.{slip_for, now_read}
use Rattle.loader.specs.Loads.{Loaded}

module _ (b out : Book) (node : ℕ) (d : Does b (Issue node) accepted out) where
  may : answer (state b) (Issue node) ≡ accepted
  may = sym d.answers

  inside : node < length b.out
  inside = omega (arith, (issue_passed (state b) node may).2, (to_limits b.size (demands_in b) b.limits).most, b.places)

  -- what the issue leaves
  marked : State
  marked = with_slips (state b) (set b.out node true) (b.counts.issued + 1) b.counts.loaded b.counts.returned

  issued_is : state out ≡ marked
  unfolding marked
  issued_is = d.leaves ∙ ap (λ r. settled r (state b) (changed (state b) (Issue node))) may

  -- the slip is known
  known : (how : Outcome) → answer marked (HandBack how b.number node) ≡ accepted
  unfolding marked
  known how =
      let yes-number : eqb b.number b.number ≡ true = eq-eqb b.number b.number refl in
      let yes-out : is_out (set b.out node true) node ≡ true = get_or-set_same b.out node true false inside in
      ap (λ t. unless t SlipUnknown accepted) (not_from_true _ (and_from (eqb b.number b.number) (is_out (set b.out node true) node) yes-number yes-out))

  pub back_known : (how : Outcome) → answer (state out) (HandBack how b.number node) ≡ accepted
  back_known how = ap (λ s. answer s (HandBack how b.number node)) issued_is ∙ known how

  -- its mark is taken off again
  unmarked : set (set b.out node true) node false ≡ b.out
  unmarked = set-set b.out node true false ∙ ap (set b.out node) (sym (issue_passed (state b) node may).3) ∙ set-get_or b.out node false

  left_by : (how : Outcome) (r : Answer) (b' : Book) → Does out (HandBack how b.number node) r b' → state b' ≡ changed marked (HandBack how b.number node)
  left_by how r b' e =
      e.leaves ∙ ap (λ s. after s (HandBack how b.number node)) issued_is
      ∙ ap (λ q. settled q marked (changed marked (HandBack how b.number node))) (known how)

  pub left_loaded : (r : Answer) (b' : Book) → Does out (HandBack as_loaded b.number node) r b' → state b' ≡ with_slips (state b) b.out (b.counts.issued + 1) (b.counts.loaded + 1) b.counts.returned
  unfolding marked
  left_loaded r b' e = left_by as_loaded r b' e ∙ ap (λ o. with_slips (state b) o (b.counts.issued + 1) (b.counts.loaded + 1) b.counts.returned) unmarked

  pub left_returned : (r : Answer) (b' : Book) → Does out (HandBack as_returned b.number node) r b' → state b' ≡ with_slips (state b) b.out (b.counts.issued + 1) b.counts.loaded (b.counts.returned + 1)
  unfolding marked
  left_returned r b' e = left_by as_returned r b' e ∙ ap (λ o. with_slips (state b) o (b.counts.issued + 1) b.counts.loaded (b.counts.returned + 1)) unmarked

  -- the rows of the node are the same as before the issue
  pub same_rows : node_rows (demands_in out) (rows_in out) node ≡ node_rows (demands_in b) (rows_in b) node
  unfolding marked
  same_rows = ap (λ s. node_rows s.demands s.rows node) issued_is

  module _ (slip : Slip) (is : slip ≡ slip_for b.number node Unread) where
    book_is : slip.book ≡ b.number
    book_is = ap (λ (x : Slip). x.book) is

    node_is : slip.node ≡ node
    node_is = ap (λ (x : Slip). x.node) is

    rows_are : node_rows (demands_in out) (rows_in out) slip.node ≡ node_rows (demands_in b) (rows_in b) node
    rows_are = ap (node_rows (demands_in out) (rows_in out)) node_is ∙ same_rows

    -- a hand back of this slip is one of the slip that was issued
    pub as_issued : (how : Outcome) (r : Answer) (b' : Book) → Does out (HandBack how slip.book slip.node) r b' → Does out (HandBack how b.number node) r b'
    as_issued how r b' e = subst (λ v. Does out (HandBack how b.number v) r b') node_is (subst (λ k. Does out (HandBack how k slip.node) r b') book_is e)

    -- the node was loaded
    pub is_loaded : (read : Slip) → read ≡ now_read slip → (count : ℕ) (old new : List Row) → count ≡ length (node_rows (demands_in out) (rows_in out) slip.node) →
        new ≡ fronted (node_rows (demands_in out) (rows_in out) slip.node) old → (r : Answer) (b' : Book) → Does out (HandBack as_loaded read.book read.node) r b' →
        Loaded (state b) (state b') node count old new
    is_loaded read now-is count old new counted handed r b' e =
        let e' = subst (λ (x : Slip). Does out (HandBack as_loaded x.book x.node) r b') now-is e in
        record {
          counted = counted ∙ ap length rows_are;
          handed = handed ∙ ap (λ rows. fronted rows old) rows_are;
          left = left_loaded r b' (as_issued as_loaded r b' e');
        }

    -- a slip that is handed back as returned is not refused
    pub never_refused : (why : Refusal) (b' : Book) → Does out (HandBack as_returned slip.book slip.node) (refused why) b' → ⊥
    never_refused why b' e =
        let p : refused why ≡ answer (state out) (HandBack as_returned b.number node) = (as_issued as_returned (refused why) b' e).answers in
        let q : answer (state out) (HandBack as_returned b.number node) ≡ accepted = back_known as_returned in
        let z : ◌≡◌ {A = ℕ} 0 1 = cc in
        omega arith
