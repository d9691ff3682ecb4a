use Rattle.std.proofs.Common.{take}
use Rattle.std.specs.List.{flat_map}
use Rattle.ckrt_tables.specs.Records.{reader_bytes, readers_from}
use Rattle.ckrt_tables.specs.Writing.{IsPut}
use Rattle.ckrt_tables.proofs.objects.put_readers.Given as goal

abbrev pub invariant-loop-id : goal.invariant-loop-id
invariant-loop-id l = IsPut l.fn.out l.at (flat_map reader_bytes (readers_from 0 (take l.id l.counts))) l.out l.end
