-- Addresses of instructions.
use Rattle.std.proofs.Common.{◌≡◌, ℕ, ◌+◌, ◌%◌, ◌^◌, arith}
use Rattle.std.proofs.lemmas.Bool.Decides.{nat_tests}
use Rattle.std.specs.Prelude.{IsTrue}
use Rattle.ckrt_rv32i.specs.Memory.{is_aligned}
use Rattle.ckrt_rv32i.specs.declared.memory_bus.Size.TheVariants as size

-- whole words behind an address that is a multiple of 4 lies another
pub aligned_behind : (pc n : ℕ) → pc % 4 ≡ 0 → n % 4 ≡ 0 → IsTrue (is_aligned ((pc + n) % 2 ^ 32) size.Word)
aligned_behind pc n p q = let e : (pc + n) % 4294967296 % 4 ≡ 0 = omega arith in grind (arith, nat_tests)
