-- The call that stands in the registers of a thread.
use Rattle.std.proofs.Common.{◌≡◌, ℕ, Option, Some, sym, ap, ◌∙◌}
use Rattle.ckrt_registers.specs.Registers.{Registers}
use Rattle.ckrt_registers.specs.Registers.{get}
use Rattle.ckrt_thread.specs.State.{thread_of, regs_of}
use Rattle.ckrt_calls.specs.declared.table.Tables.{Tables}
use Rattle.ckrt_calls.specs.declared.number.Call.{Call}
use Rattle.ckrt_calls.specs.Table.{row_or_point, row_or_unknown, called_with, called, call_of}

pub called_as : (t : ℕ) (s : Tables) (o : Option Registers) (r : Registers) (n : ℕ) (c : Option Call) (k : Call) → o ≡ regs_of (thread_of s.threads t) → o ≡ Some r → n ≡ get r 17 → c ≡ call_of n → c ≡ Some k → row_or_point k t r s ≡ called t s
called_as t s o r n c k regs some number found known =
    let has : regs_of (thread_of s.threads t) ≡ Some r = sym regs ∙ some in
    let is : call_of (get r 17) ≡ Some k = ap call_of (sym number) ∙ sym found ∙ known in
    sym (ap (λ x. called_with x t s) has ∙ ap (λ x. row_or_unknown x t r s) is)
