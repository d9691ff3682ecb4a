use Rattle.ckrt_tables.specs.DecodingThreads.{HartsLeadTo}
use Rattle.ckrt_stored.proofs.threads.place_all.Given as goal

abbrev pub invariant-loop-hart : goal.invariant-loop-hart
invariant-loop-hart l = HartsLeadTo l.hart l.threads l.kept
