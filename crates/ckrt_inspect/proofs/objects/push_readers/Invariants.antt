use Rattle.std.proofs.Common.{◌≡◌, ◌++◌, take}
use Rattle.std.specs.List.{flat_map}
use Rattle.ckrt_tables.specs.Records.{readers_from}
use Rattle.ckrt_inspect.specs.Listing.{reader_text}
use Rattle.ckrt_inspect.proofs.objects.push_readers.Given as goal

abbrev pub invariant-loop-id : goal.invariant-loop-id
invariant-loop-id l = l.out.items ≡ l.fn.out.items ++ flat_map reader_text (readers_from 0 (take l.id l.counts))
