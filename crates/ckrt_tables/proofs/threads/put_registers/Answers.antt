use Rattle.std.proofs.Common.{rules, ◌≡◌, ◌-◌, ◌++◌, length, ap, subst, arith}
use Rattle.std.specs.List.{flat_map, range_with_len}
use Rattle.byteorder.specs.Endian.{little_bytes}
use Rattle.ckrt_tables.specs.Records.{register_bytes}
use Rattle.ckrt_tables.specs.Writing.{IsPut}
use Rattle.ckrt_tables.proofs.Puts.{put_next, registers_more, registers_length}
use Rattle.ckrt_tables.proofs.threads.put_registers.Goals as goal

pub put-end-requires-in-loop-register : goal.put-end-requires-in-loop-register
put-end-requires-in-loop-register c =
    let r = c.args.regs.now in
    let k = c.loop-register.register in
    let e : length c.to_le_bytes-in-loop-register.result ≡ 4 = ap length c.to_le_bytes-in-loop-register.ensures in
    omega (arith, e, c.loop-register.invariant.size, registers_length r 1 (k - 1), c.requires, registers_length r 1 31, c.loop-register.auto.out, c.loop-register.auto.register, c.loop-register-test.true)

pub loop-register-preserved : goal.loop-register-preserved
loop-register-preserved c =
    let r = c.args.regs.now in
    let k = c.loop-register.register in
    let pc = little_bytes 4 r.pc in
    let so_far = flat_map (register_bytes r) (range_with_len 1 (k - 1)) in
    rw (registers_more r k c.loop-register.auto.register)
    (put_next c.args.out.now c.args.at (pc ++ so_far) c.loop-register.out c.loop-register.end (register_bytes r k) c.put-end-in-loop-register.new.out c.put-end-in-loop-register.result c.loop-register.invariant
    (subst (λ b. IsPut c.loop-register.out c.loop-register.end b c.put-end-in-loop-register.new.out c.put-end-in-loop-register.result) (search rules) c.put-end-in-loop-register.ensures))

pub returns : goal.returns
returns c =
    let k = c.loop-register.register in
    let e : k ≡ 32 = omega (arith, c.loop-register-test.false, c.loop-register.auto.register-end) in
    subst (λ n. IsPut c.args.out.now c.args.at (little_bytes 4 c.args.regs.now.pc ++ flat_map (register_bytes c.args.regs.now) (range_with_len 1 (n - 1))) c.loop-register.out c.loop-register.end) e c.loop-register.invariant
