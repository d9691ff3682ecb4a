use Rattle.ckrt_gdb_history.specs.Positions.{IsLastOnWay}
use Rattle.ckrt_gdb_history.specs.Stops.{IsStop}
use Rattle.ckrt_gdb_history.proofs.OrderLemmas.{steps_left}
use Rattle.ckrt_gdb_history.proofs.SearchLemmas.{IsOnWay}
use Rattle.ckrt_gdb_history.proofs.history.History.last_on_way.Given as goal

abbrev pub invariant-steps : goal.invariant-steps
invariant-steps l = record {
  way : IsOnWay l.stops l.fn.self l.fn.end l.self l.seen.items;
  found : IsLastOnWay (IsStop l.stops l.fn.self) l.fn.self.position l.self.position l.fn.here l.fn.self l.found;
}

abbrev pub decreases-steps : goal.decreases-steps
decreases-steps l = steps_left l.self.position l.self.events l.self.start
