use Rattle.std.proofs.Common.{◌≡◌, ◌≤◌, length, take}
use Rattle.ckrt_tables.specs.Records.{readers_from}
use Rattle.ckrt_tables.proofs.objects.reader_count.Given as goal

abbrev pub invariant-loop-id : goal.invariant-loop-id
invariant-loop-id l = record {
  few : l.readers ≤ l.id;
  readers : l.readers ≡ length (readers_from 0 (take l.id l.counts));
}
