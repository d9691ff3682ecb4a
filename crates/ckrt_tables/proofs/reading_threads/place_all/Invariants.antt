use Rattle.std.proofs.Common.{◌≡◌}
use Rattle.ckrt_thread.specs.State.{State}
use Rattle.ckrt_tables.specs.DecodingThreads.{HartsLeadTo}
use Rattle.ckrt_tables.proofs.reading_threads.place_all.Given as goal

abbrev pub invariant-loop-hart : goal.invariant-loop-hart
invariant-loop-hart l = (end : State) → HartsLeadTo 0 l.fn.threads end → l.harts ≡ end.harts → HartsLeadTo l.hart l.threads end
