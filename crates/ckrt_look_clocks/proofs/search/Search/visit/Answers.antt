use Rattle.std.proofs.Common.{◌∙◌, add-one, ap, sym}
use Rattle.ckrt_look_clocks.specs.Cycles.{Reached, found_of, visited, visited_one}
use Rattle.ckrt_look_clocks.proofs.search.Search.visit.Goals as goal

-- one order more
pub loop-place-preserved : goal.loop-place-preserved
loop-place-preserved c =
    let os = c.args.orders.now in let first = c.args.first in let from = c.args.from in let n = c.loop-place.place in
    record {
      found = c.visit_one.ensures.found ∙ ap (λ (r : Reached). visited_one os first from n r) c.loop-place.invariant.found
          ∙ ap (λ k. visited k os first from (found_of c.args.self.now)) (sym (add-one n));
      room = c.visit_one.ensures.room;
    }
