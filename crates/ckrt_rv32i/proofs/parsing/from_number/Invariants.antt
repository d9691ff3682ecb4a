use Rattle.std.proofs.Common.{◌≡◌, length}
use Rattle.ckrt_rv32i.specs.Reading.{from_number}
use Rattle.ckrt_rv32i.proofs.parsing.from_number.Given as goal

abbrev pub invariant-loop-rest : goal.invariant-loop-rest
invariant-loop-rest l = from_number l.rest ≡ from_number l.text

abbrev pub decreases-loop-rest : goal.decreases-loop-rest
decreases-loop-rest l = length l.rest
