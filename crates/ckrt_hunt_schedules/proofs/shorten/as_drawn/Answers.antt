use Rattle.std.proofs.Common.{arith}
use Rattle.ckrt_hunt_schedules.proofs.shorten.as_drawn.Goals as goal

-- the first seed itself
pub returns-clause-chosen : goal.returns-clause-chosen
returns-clause-chosen c = record {
  same = λ told comes. comes;
  is_found = c.drawn_by-found.ensures.found;
  own = c.drawn_by-found.result;
  is_own = c.drawn_by-found.ensures.found;
  few = omega arith;
}
