use Rattle.std.proofs.Common.{drop}
use Rattle.ckrt_thread.specs.Contents.{thread_rows}
use Rattle.ckrt_tables.specs.DecodingThreads.{ThreadsLeadTo}
use Rattle.ckrt_stored.proofs.threads.append_threads.Given as goal

abbrev pub invariant-loop-place : goal.invariant-loop-place
invariant-loop-place l = ThreadsLeadTo l.threads (drop l.place (thread_rows l.kept)) l.kept
