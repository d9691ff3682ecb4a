use Rattle.std.proofs.Common.{◌∷◌, ◌++◌, replicate, subst}
use Rattle.byteorder.specs.Endian.{little_bytes}
use Rattle.ckrt_registers.specs.Registers.{Registers}
use Rattle.ckrt_thread.specs.Keys.{no_data}
use Rattle.ckrt_tables.specs.Records.{registers_bytes, data_bytes}
use Rattle.ckrt_tables.specs.Writing.{IsPut}
use Rattle.ckrt_tables.proofs.Puts.{put_next}
use Rattle.ckrt_tables.proofs.threads.put_ended.Goals as goal

pub returns : goal.returns
returns c =
    let zeros : Registers = record { pc = 0; x = replicate 32 0 } in
    let head = c.args.id ∷ 64 ∷ 0 ∷ 0 ∷ little_bytes 4 c.args.value in
    let kept = data_bytes c.args.version no_data in
    put_next c.args.out.now c.args.at head c.put-end.new.out c.put-end.result (registers_bytes zeros ++ kept) c.put_data.new.out c.put_data.result
    (subst (λ b. IsPut c.args.out.now c.args.at b c.put-end.new.out c.put-end.result) c.thread_head.ensures c.put-end.ensures)
    (put_next c.put-end.new.out c.put-end.result (registers_bytes zeros) c.put_registers-end.new.out c.put_registers-end.result kept c.put_data.new.out c.put_data.result
    (subst (λ r. IsPut c.put-end.new.out c.put-end.result (registers_bytes r) c.put_registers-end.new.out c.put_registers-end.result) c.new.ensures c.put_registers-end.ensures)
    (subst (λ d. IsPut c.put_registers-end.new.out c.put_registers-end.result (data_bytes c.args.version d) c.put_data.new.out c.put_data.result) c.new-2.ensures c.put_data.ensures))
