use Rattle.std.proofs.Common.{◌∷◌, [], ◌++◌, take, length}
use Rattle.std.specs.List.{flat_map}
use Rattle.ckrt_thread.specs.Contents.{rows_from, thread_rows}
use Rattle.ckrt_tables.specs.Records.{thread_bytes}
use Rattle.ckrt_tables.specs.Writing.{IsPut}
use Rattle.ckrt_tables.proofs.threads.put_threads.Given as goal

abbrev pub invariant-loop-id : goal.invariant-loop-id
invariant-loop-id l = IsPut l.fn.out l.at ((length (thread_rows l.threads) ∷ []) ++ flat_map (thread_bytes l.version) (rows_from 0 (take l.id l.threads.threads))) l.out l.end
