use Rattle.std.proofs.Common.{drop}
use Rattle.ckrt_tables.specs.DecodingThreads.{WaitsLeadTo}
use Rattle.ckrt_stored.proofs.threads.append_waits.Given as goal

abbrev pub invariant-loop-place : goal.invariant-loop-place
invariant-loop-place l = WaitsLeadTo l.threads (drop l.place l.kept.waits) l.kept
