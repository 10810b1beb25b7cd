-- The loop over the rows, step by step.
use Rattle.std.proofs.Common.{◌≡◌, ℕ, ◌+◌, ◌-◌, ◌<◌, ◌≤◌, Bool, true, false, List, [], ◌∷◌, ◌++◌, length, get_or, take, set, replicate, Some, None, Option, sym, refl, ap, ◌∙◌, subst, arith}
use Rattle.std.proofs.lemmas.List.{take_more, length-take-le, length-set, length-replicate}
use Rattle.ring.specs.Sums.{some}
use Rattle.ring.specs.Ring.{WithinLimits}
use Rattle.checkrows.specs.Rows.{clash, earliest, form_fault, collision_fault, row_fault, rows_fault}
use Rattle.sheet.specs.Marks.{Blank, meets}
use Rattle.checkrows.specs.Track.{mask, marked_at, LineOf, Tied, Seen, Going}
use Rattle.checkrows.specs.Rows.{row_at}
use Rattle.ring.specs.declared.Demand.{Demand}
use Rattle.ring.specs.declared.Row.{Row}
use Rattle.refusals.specs.declared.Refusal.{Refusal}
use Rattle.refusals.specs.declared.Refusal.TheVariants.{Collision}
use Rattle.checklines.proofs.Walk.{fault_step, or_stop, or_pass, fault_ends}
use Rattle.checkrows.proofs.RowsPass.{FormFine, form_fine}
use Rattle.checkrows.proofs.Sheet.{tied_none, tied_taken, tied_mark, seen_none, seen_mark, collision_none, collision_some, clear_more}

abbrev none : Row
none = record { demand = 0; side = 0; slot = 0 }

pub going_none : (n : ℕ) (ds : List Demand) (rows : List Row) (marks : List ℕ) → Blank marks (length marks) → Going n ds rows 0 (replicate 128 None) marks
going_none n ds rows marks h =
    record { fault = refl; tied = tied_none n ds marks (length marks) h; seen = seen_none ds 128; size = length-replicate {A = Option ℕ} 128 None; clear = λ b l. absurd (omega arith) }

module _ {n : ℕ} {ds : List Demand} {rows : List Row} {i : ℕ} {firsts : List (Option ℕ)} {marks : List ℕ} (g : Going n ds rows i firsts marks) where
  pub going_ends : length rows ≤ i → rows_fault n ds rows ≡ None
  going_ends l = fault_ends (row_fault n ds) rows i (rows_fault n ds rows) l g.fault

  module _ (l : i < length rows) where
    pub going_stops : (f : Refusal) → form_fault ds (take i rows) (row_at rows i) ≡ Some f → rows_fault n ds rows ≡ Some f
    going_stops f h =
        sym g.fault ∙ fault_step (row_fault n ds) rows i none l
        ∙ or_stop (row_fault n ds (take i rows) (row_at rows i)) _ f (or_stop (form_fault ds (take i rows) (row_at rows i)) (collision_fault n ds (take i rows) (row_at rows i)) f h)

    module _ (h : form_fault ds (take i rows) (row_at rows i) ≡ None) where
      -- with what the code has made of the row: w is its mask, and t says whether it is taken
      pub going_met : (w : ℕ) → w ≡ mask n ds (row_at rows i) → (t : Bool) → t ≡ meets w (get_or marks ((row_at rows i).slot - 1) 0) → some (clash n ds (row_at rows i)) (take i rows) ≡ t
      going_met w ew t et =
          let o = (form_fine ds (take i rows) (row_at rows i) h).on_sheet in
          sym (et ∙ ap (λ w. meets w (get_or marks ((row_at rows i).slot - 1) 0)) ew ∙ tied_taken n ds (take i rows) marks (row_at rows i) g.tied o.0 o.1)

      pub going_collides : some (clash n ds (row_at rows i)) (take i rows) ≡ true → rows_fault n ds rows ≡ Some (Collision (i + 1) (earliest n ds (take i rows) (row_at rows i) + 1))
      going_collides m =
          sym g.fault ∙ fault_step (row_fault n ds) rows i none l
          ∙ or_stop (row_fault n ds (take i rows) (row_at rows i)) _ _
          (or_pass (form_fault ds (take i rows) (row_at rows i)) (collision_fault n ds (take i rows) (row_at rows i)) h ∙ collision_some n ds (take i rows) (row_at rows i) m
          ∙ ap (λ k. Some (Collision (k + 1) (earliest n ds (take i rows) (row_at rows i) + 1))) (length-take-le i rows (omega arith)))

      pub going_on : WithinLimits n ds → 1024 ≤ length marks → (k : ℕ) → LineOf ds (row_at rows i).demand k →
          (w : ℕ) → w ≡ mask n ds (row_at rows i) → (t : Bool) → t ≡ meets w (get_or marks ((row_at rows i).slot - 1) 0) → t ≡ false →
          (marks' : List ℕ) → marks' ≡ marked_at marks (row_at rows i).slot w → Going n ds rows (i + 1) (set firsts k (Some (row_at rows i).side)) marks'
      going_on lim room k at w ew t et tf marks' em =
          record {
            fault = sym (or_pass (row_fault n ds (take i rows) r) _ (or_pass (form_fault ds (take i rows) r) _ h ∙ collision_none n ds (take i rows) r m)) ∙ sym (fault_step (row_fault n ds) rows i none l) ∙ g.fault;
            tied = subst (λ x. Tied n ds (take (i + 1) rows) x) (sym (em ∙ ap (marked_at marks r.slot) ew))
                (subst (λ b. Tied n ds b (marked_at marks r.slot (mask n ds r))) (sym more) (tied_mark n ds (take i rows) marks r g.tied f.on_sheet.0 f.on_sheet.1 room));
            seen = subst (λ b. Seen ds b (set firsts k (Some r.side))) (sym more) (seen_mark ds (take i rows) firsts r k lim.numbered g.seen at (omega (arith, at.inside, lim.few, g.size)) f.alike);
            size = length-set firsts k (Some r.side) ∙ g.size;
            clear = clear_more n ds rows i l g.clear m;
          }
        where
          r : Row
          r = row_at rows i

          f : FormFine ds (take i rows) r
          f = form_fine ds (take i rows) r h

          more : take (i + 1) rows ≡ take i rows ++ r ∷ []
          more = take_more rows i none l

          m : some (clash n ds r) (take i rows) ≡ false
          m = going_met w ew t et ∙ tf
