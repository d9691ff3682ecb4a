use Rattle.std.proofs.Common.{◌≡◌, ◌++◌, take}
use Rattle.std.specs.List.{flat_map}
use Rattle.ckrt_tables.specs.Records.{words_from}
use Rattle.ckrt_inspect.specs.Listing.{key_line}
use Rattle.ckrt_inspect.proofs.keys.push_destructors.Given as goal

abbrev pub invariant-loop-key : goal.invariant-loop-key
invariant-loop-key l = l.out.items ≡ l.fn.out.items ++ flat_map key_line (words_from 0 (take l.key (l.destructors)))
