use Rattle.std.proofs.Common.{◌≡◌, ◌++◌, take}
use Rattle.std.specs.List.{flat_map}
use Rattle.ckrt_thread.specs.Contents.{rows_from}
use Rattle.ckrt_inspect.specs.Metrics.{thread_line}
use Rattle.ckrt_inspect.proofs.metrics.push_threads.Given as goal

abbrev pub invariant-loop-id : goal.invariant-loop-id
invariant-loop-id l = l.out.items ≡ l.fn.out.items ++ flat_map (thread_line l.status l.threads) (rows_from 0 (take l.id l.threads.threads))
