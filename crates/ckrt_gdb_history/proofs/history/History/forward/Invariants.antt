use Rattle.ckrt_gdb_history.specs.Positions.{NoneBehind}
use Rattle.ckrt_gdb_history.specs.Stops.{IsStop}
use Rattle.ckrt_gdb_history.proofs.OrderLemmas.{steps_left}
use Rattle.ckrt_gdb_history.proofs.SearchLemmas.{IsOnWay}
use Rattle.ckrt_gdb_history.proofs.history.History.forward.Given as goal

abbrev pub invariant-steps : goal.invariant-steps
invariant-steps l = record {
  way : IsOnWay l.stops l.fn.self l.fn.last l.self l.seen.items;
  none : NoneBehind (IsStop l.stops l.fn.self) l.fn.self.position l.self.position l.fn.self;
}

abbrev pub decreases-steps : goal.decreases-steps
decreases-steps l = steps_left l.self.position l.self.events l.self.start
