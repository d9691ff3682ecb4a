use Rattle.std.proofs.Common.{◌≡◌}
use Rattle.ckrt_gdb_history.specs.Positions.{IsPosition, IsUpTo}
use Rattle.ckrt_gdb_history.proofs.SearchLemmas.{NonePast, kept_left}
use Rattle.ckrt_gdb_history.proofs.history.History.search_back.Given as goal

-- none behind `end` has a reason to stop
abbrev pub invariant-kept : goal.invariant-kept
invariant-kept l = record {
  history : l.self ≡ record l.fn.self { position = l.self.position };
  is_one : IsPosition l.end l.fn.self.events l.fn.self.start;
  behind : IsUpTo l.fn.first l.end;
  none : NonePast l.stops l.fn.self l.end l.here;
}

abbrev pub decreases-kept : goal.decreases-kept
decreases-kept l = kept_left l.end
