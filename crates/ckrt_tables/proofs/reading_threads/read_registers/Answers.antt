use Rattle.std.proofs.Common.{◌≡◌, ◌+◌, subst, sym, arith}
use Rattle.ckrt_tables.proofs.RegistersRead.{HasRead, reads_pc, reads_next, reads_all}
use Rattle.ckrt_tables.proofs.reading_threads.read_registers.Goals as goal

pub loop-register-init : goal.loop-register-init
loop-register-init c =
    subst (λ q. HasRead c.args.cursor.now 1 q c.word.new.self) (sym c.new-regs.ensures) (reads_pc c.args.cursor.now c.word.result c.word.new.self c.word.ensures)

pub loop-register-preserved : goal.loop-register-preserved
loop-register-preserved c =
    let k = c.loop-register.register in
    subst (λ q. HasRead c.args.cursor.now (k + 1) q c.word-in-loop-register.new.self) (sym c.put.ensures)
    (reads_next c.args.cursor.now k c.loop-register.regs c.loop-register.cursor c.word-in-loop-register.result c.word-in-loop-register.new.self c.loop-register.auto.register c.loop-register-test.true c.loop-register.invariant c.word-in-loop-register.ensures)

pub returns : goal.returns
returns c =
    let k = c.loop-register.register in
    let done : k ≡ 32 = omega (arith, c.loop-register-test.false, c.loop-register.auto.register-end) in
    reads_all c.args.cursor.now k c.loop-register.regs c.loop-register.cursor done c.loop-register.invariant
