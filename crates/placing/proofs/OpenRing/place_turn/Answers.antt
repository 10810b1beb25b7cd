use Rattle.std.proofs.Common.{ℕ, ◌<◌, Bool, cond, length, ap, ◌∙◌, arith}
use Rattle.std.proofs.lemmas.Grind.{common_steps}
use Rattle.std.proofs.lemmas.List.{length-append, length-drop}
use Rattle.ring.specs.declared.Route.{Route}
use Rattle.ring.specs.declared.Side.TheVariants.{Clockwise}
use Rattle.ring.proofs.Summing.{sum_drop_more}
use Rattle.sheet.specs.Marks.{used}
use Rattle.placing.specs.Drawing.{comes}
use Rattle.placing.proofs.Turns.{used_after, length_after, out_more}
use Rattle.placing.proofs.OpenRing.place_turn.Goals as goal

abbrev no_route : Route
no_route = record { demand = record { number = 0; lower = 0; upper = 0; units = 0 }; side = Clockwise }

pub loop-route-preserved : goal.loop-route-preserved
loop-route-preserved c =
    let n : ℕ = c.args.self.nodes in
    let t : Route → Bool = comes c.args.self.cut c.args.turn in
    let routes = c.args.routes.now in
    let i : ℕ = c.loop-route.route-index in
    let lt : i < length routes = omega arith in
    let units = sum_drop_more (λ d. d.demand.units) routes i no_route lt in (
      omega (arith, units, length-append {A = ℕ}, length-drop {A = ℕ}),
      omega (arith, sum_drop_more (λ d. cond (t d) d.demand.units 0) routes i no_route lt, ap used c.place_route.ensures.marks, used_after, length_after),
      grind (arith, common_steps),
      out_more n t routes i no_route lt c.loop-route.marks c.place_route.new.marks c.loop-route.slots c.place_route.new.part c.loop-route.at _ c.from.ensures (omega arith) c.place_route.ensures.marks c.place_route.ensures.part
          ∙ c.loop-route.invariant.3,
    )
