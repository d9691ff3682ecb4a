use Rattle.std.proofs.Common.{◌≡◌, ◌++◌, take}
use Rattle.std.specs.List.{flat_map}
use Rattle.ckrt_thread.specs.Contents.{rows_from}
use Rattle.ckrt_inspect.specs.Listing.{value_lines}
use Rattle.ckrt_inspect.proofs.keys.push_all_values.Given as goal

abbrev pub invariant-loop-id : goal.invariant-loop-id
invariant-loop-id l = l.out.items ≡ l.fn.out.items ++ flat_map value_lines (rows_from 0 (take l.id l.threads.threads))
