use Rattle.std.proofs.Common.{rules, tests, ◌≡◌, ◌++◌, length, take, drop, set, sym, subst, arith}
use Rattle.std.proofs.lemmas.List.{length_push}
use Rattle.std.proofs.lemmas.Iterator.{YieldsList-from_slice}
use Rattle.std.proofs.lemmas.Iterator.Consumers.{YieldsList-at, YieldsList-from_filter, YieldsList-from_enumerate, YieldsList-turn, YieldsList-end}
use Rattle.booklaw.specs.Books.{ends_at, node_rows}
use Rattle.handouts.proofs.Kept.{turn_is, written_more, written_all}
use Rattle.handouts.proofs.NodeRows.copy_to.Goals as goal

pub bounds-places-at : goal.bounds-places-at
bounds-places-at c =
    let wanted = node_rows c.args.self.now.demands.now c.args.self.now.rows.now c.args.self.now.node in
    let turn = turn_is wanted _ _ _ (YieldsList-turn (YieldsList-from_enumerate {s = c.into_iter-at-iterator.result} (YieldsList-at {t = c.filter-wanted.result} (search rules) (YieldsList-from_filter _ (ends_at c.args.self.now.demands.now c.args.self.now.node) (YieldsList-from_slice c.args.self.now.rows.now cc) c.filter-wanted.ensures.closure (λ x b q k. search (rules, tests)))) (search rules)) c.loop-at.yielded _ c.loop-at.yielded_by _ _ (c.in-Some.at, c.in-Some.row) c.in-Some.is c.next.ensures.steps) in
    omega (arith, turn.0, turn.2)

pub loop-at-preserved : goal.loop-at-preserved
loop-at-preserved c =
    let wanted = node_rows c.args.self.now.demands.now c.args.self.now.rows.now c.args.self.now.node in
    let old = c.args.places.now in
    let turn = turn_is wanted _ _ _ (YieldsList-turn (YieldsList-from_enumerate {s = c.into_iter-at-iterator.result} (YieldsList-at {t = c.filter-wanted.result} (search rules) (YieldsList-from_filter _ (ends_at c.args.self.now.demands.now c.args.self.now.node) (YieldsList-from_slice c.args.self.now.rows.now cc) c.filter-wanted.ensures.closure (λ x b q k. search (rules, tests)))) (search rules)) c.loop-at.yielded _ c.loop-at.yielded_by _ _ (c.in-Some.at, c.in-Some.row) c.in-Some.is c.next.ensures.steps) in
    subst (λ k. set c.loop-at.places c.in-Some.at c.in-Some.row.now ≡ take k wanted ++ drop k old) (sym (length_push c.loop-at.yielded (c.in-Some.at, c.in-Some.row)))
    (written_more wanted old c.loop-at.places (length c.loop-at.yielded) c.in-Some.at c.in-Some.row.now c.loop-at.invariant c.requires turn)

pub returns : goal.returns
returns c =
    let wanted = node_rows c.args.self.now.demands.now c.args.self.now.rows.now c.args.self.now.node in
    written_all wanted c.args.places.now c.loop-at.places (length c.loop-at.yielded) c.loop-at.invariant c.requires
    (YieldsList-end (YieldsList-from_enumerate {s = c.into_iter-at-iterator.result} (YieldsList-at {t = c.filter-wanted.result} (search rules) (YieldsList-from_filter _ (ends_at c.args.self.now.demands.now c.args.self.now.node) (YieldsList-from_slice c.args.self.now.rows.now cc) c.filter-wanted.ensures.closure (λ x b q k. search (rules, tests)))) (search rules)) c.loop-at.yielded _ c.loop-at.yielded_by _ _ c.in-None.is c.next.ensures.steps).1
