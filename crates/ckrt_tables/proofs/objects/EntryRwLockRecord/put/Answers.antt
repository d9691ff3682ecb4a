use Rattle.std.proofs.Common.{rules, ◌∷◌, [], ◌++◌, length, subst}
use Rattle.std.specs.List.{flat_map}
use Rattle.byteorder.specs.Endian.{little_bytes}
use Rattle.ckrt_tables.specs.Records.{id_or_0, readers_of, reader_bytes}
use Rattle.ckrt_tables.specs.Writing.{IsPut}
use Rattle.ckrt_tables.proofs.Puts.{put_next}
use Rattle.ckrt_tables.proofs.objects.EntryRwLockRecord.put.Goals as goal

pub returns : goal.returns
returns c =
    let e = c.args.self.now in
    let head = little_bytes 4 e.address ++ (id_or_0 e.value.writer ∷ length (readers_of e.value) ∷ []) in
    put_next c.args.out.now c.args.at head c.put-end.new.out c.put-end.result (flat_map reader_bytes (readers_of e.value)) c.put_readers.new.out c.put_readers.result
    (subst (λ b. IsPut c.args.out.now c.args.at b c.put-end.new.out c.put-end.result) (search rules) c.put-end.ensures)
    c.put_readers.ensures
