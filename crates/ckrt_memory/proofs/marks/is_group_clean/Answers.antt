use Rattle.std.proofs.Common.{◌≡◌, ◌∙◌, ◌+◌, ◌-◌, false, sym, arith}
use Rattle.ckrt_memory.specs.Marks.{has_bit}
use Rattle.ckrt_memory.proofs.MarkLemmas.{group_seen, not_so}
use Rattle.ckrt_memory.proofs.marks.is_group_clean.Goals as goal

pub returns : goal.returns
returns c = λ is.
    let first = c.args.first in
    let clear : has_bit c.args.area c.all_bits.result ≡ false = sym c.has_bit.ensures ∙ not_so c.has_bit.result is in
    group_seen c.args.marks.now c.args.area first (first + 32 - first) c.all_bits.result (omega arith) (omega (arith, c.told-marks, c.requires.group)) clear (c.all_bits.ensures c.args.area)
