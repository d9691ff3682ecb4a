use Rattle.std.proofs.Common.{rules, ◌∷◌, ◌++◌, length, subst}
use Rattle.std.specs.Prelude.{unwrap_or}
use Rattle.std.specs.List.{flat_map}
use Rattle.byteorder.specs.Endian.{little_bytes}
use Rattle.ckrt_thread.specs.declared.records.Thread.TheVariants as thread
use Rattle.ckrt_tables.specs.Records.{flags_of, registers_bytes, handler_bytes, data_bytes}
use Rattle.ckrt_tables.specs.Writing.{IsPut}
use Rattle.ckrt_tables.proofs.Puts.{put_next}
use Rattle.ckrt_tables.proofs.threads.put_live.Goals as goal

pub returns : goal.returns
returns c =
    let l = c.args.live.now in
    let value = unwrap_or l.cancellation.unwinding 0 in
    let head = c.args.id ∷ flags_of (thread.Live l) ∷ length l.handlers.items ∷ 0 ∷ little_bytes 4 value in
    let regs = registers_bytes l.regs in
    let handlers = flat_map handler_bytes l.handlers.items in
    let kept = data_bytes c.args.version l.specific in
    let last = c.put_data.new.out in
    let end = c.put_data.result in
    put_next c.args.out.now c.args.at head c.put-end.new.out c.put-end.result (regs ++ (handlers ++ kept)) last end
    (subst (λ b. IsPut c.args.out.now c.args.at b c.put-end.new.out c.put-end.result) (search rules) c.put-end.ensures)
    (put_next c.put-end.new.out c.put-end.result regs c.put_registers-end.new.out c.put_registers-end.result (handlers ++ kept) last end c.put_registers-end.ensures
    (put_next c.put_registers-end.new.out c.put_registers-end.result handlers c.put_all-end.new.out c.put_all-end.result kept last end
    (subst (λ hs. IsPut c.put_registers-end.new.out c.put_registers-end.result (flat_map handler_bytes hs) c.put_all-end.new.out c.put_all-end.result) (search rules) c.put_all-end.ensures)
    c.put_data.ensures))
