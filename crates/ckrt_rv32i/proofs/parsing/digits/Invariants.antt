use Rattle.std.proofs.Common.{◌≡◌, ◌≤◌, length}
use Rattle.ckrt_rv32i.specs.Reading.{digits_from}
use Rattle.ckrt_rv32i.specs.declared.parsing.TheConstants.{NUMBER_LIMIT}
use Rattle.ckrt_rv32i.proofs.parsing.digits.Given as goal

abbrev pub invariant-loop-rest : goal.invariant-loop-rest
invariant-loop-rest l = record {
  same : digits_from l.value l.rest ≡ digits_from 0 l.text;
  small : l.value ≤ NUMBER_LIMIT;
}

abbrev pub decreases-loop-rest : goal.decreases-loop-rest
decreases-loop-rest l = length l.rest
