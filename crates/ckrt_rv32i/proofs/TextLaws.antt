-- How long the numbers of a text are.
use Rattle.std.proofs.Common.{ℕ, ◌+◌, ◌^◌, ◌<◌, ◌≤◌, ℤ, pos, negsuc, length, arith}
use Rattle.std.specs.Fmt.{decimal, signed_decimal}
use Rattle.std.specs.Prelude.{unsigned_abs}
use Rattle.std.proofs.lemmas.Int.{ints}
use Rattle.std.proofs.lemmas.Fmt.{length-decimal-le, length_signed_le}
use Rattle.ckrt_rv32i.specs.Table.{FitsBits}
use Rattle.ckrt_rv32i.proofs.TableLaws.{FitsHalf}

pub two_digits : (n : ℕ) → n < 32 → length (decimal n) ≤ 2
two_digits n h = length-decimal-le 2 n (omega arith) (omega arith) (omega arith)

pub upper_length : (n : ℕ) → n < 2 ^ 20 → length (decimal n) ≤ 7
upper_length n h = length-decimal-le 7 n (omega arith) (omega arith) (omega arith)

pub abs-half : (half : ℕ) (z : ℤ) → 0 < half → FitsHalf half z → unsigned_abs z ≤ half
abs-half half (pos n) l h = omega (arith, ints)
abs-half half (negsuc n) l h = omega (arith, ints)

signed_length : (k : ℕ) (z : ℤ) → unsigned_abs z + 1 < 10 ^ k → unsigned_abs z < 2 ^ 63 → length (signed_decimal z) ≤ k + 1
signed_length k (pos n) h l = length_signed_le k (pos n) h l
signed_length k (negsuc n) h l = length_signed_le k (negsuc n) (omega arith) (omega arith)

pub immediate_length : (z : ℤ) → FitsBits 13 z → length (signed_decimal z) ≤ 5
immediate_length z h = let small = abs-half (2 ^ 12) z (omega arith) h in signed_length 4 z (omega arith) (omega arith)

pub jump_length : (z : ℤ) → FitsBits 21 z → length (signed_decimal z) ≤ 8
jump_length z h = let small = abs-half (2 ^ 20) z (omega arith) h in signed_length 7 z (omega arith) (omega arith)
