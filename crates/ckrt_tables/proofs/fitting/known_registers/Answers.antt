use Rattle.std.proofs.Common.{◌≡◌, ◌<◌, ◌^◌, true, get_or, arith}
use Rattle.std.specs.List.{list_all}
use Rattle.std.proofs.lemmas.Bool.Decides.{nat_tests}
use Rattle.ckrt_tables.specs.Savable.{is_word}
use Rattle.ckrt_tables.proofs.AllFit.{all_from}
use Rattle.ckrt_tables.proofs.fitting.known_registers.Goals as goal

pub returns : goal.returns
returns c =
    let r = c.args.regs.now in
    let size = c.known.ensures.size in
    let zero = c.known.ensures.zero in
    let pc : r.pc < 256 ^ 4 = omega (arith, c.pc-pc.ensures) in
    let words : list_all is_word r.x ≡ true =
    all_from is_word r.x 0 (λ i within. let small : get_or r.x i 0 < 2 ^ 32 = c.known.ensures.words i (omega (arith, within, size)) in grind (arith, nat_tests, small)) in
    grind (arith, nat_tests, size, zero, pc, words)
