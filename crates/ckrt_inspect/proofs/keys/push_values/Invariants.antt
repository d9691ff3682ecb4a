use Rattle.std.proofs.Common.{◌≡◌, ◌++◌, take, map}
use Rattle.std.specs.List.{flat_map}
use Rattle.ckrt_tables.specs.Records.{words_from, if_not_0}
use Rattle.ckrt_inspect.specs.Listing.{value_line}
use Rattle.ckrt_inspect.proofs.keys.push_values.Given as goal

abbrev pub invariant-loop-key : goal.invariant-loop-key
invariant-loop-key l = l.out.items ≡ l.fn.out.items ++ flat_map (value_line l.thread) (words_from 0 (take l.key (map if_not_0 l.values)))
