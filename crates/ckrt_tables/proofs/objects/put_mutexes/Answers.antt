use Rattle.std.proofs.Common.{rules, length, subst}
use Rattle.std.specs.List.{flat_map}
use Rattle.byteorder.specs.Endian.{little_bytes}
use Rattle.ckrt_tables.specs.Records.{mutex_bytes}
use Rattle.ckrt_tables.specs.Writing.{IsPut}
use Rattle.ckrt_tables.proofs.Puts.{put_next}
use Rattle.ckrt_tables.proofs.objects.put_mutexes.Goals as goal

pub returns : goal.returns
returns c =
    let xs = c.args.mutexes.now in
    put_next c.args.out.now c.args.at (little_bytes 2 (length xs)) c.put-end.new.out c.put-end.result (flat_map mutex_bytes xs) c.put_all.new.out c.put_all.result
    (subst (λ b. IsPut c.args.out.now c.args.at b c.put-end.new.out c.put-end.result) (search rules) c.put-end.ensures)
    (subst (λ rows. IsPut c.put-end.new.out c.put-end.result (flat_map mutex_bytes rows) c.put_all.new.out c.put_all.result) (search rules) c.put_all.ensures)
