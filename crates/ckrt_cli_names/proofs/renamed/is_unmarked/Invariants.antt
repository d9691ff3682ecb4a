use Rattle.std.proofs.Common.{◌≡◌, drop}
use Rattle.ckrt_cli_names.specs.Put.{is_unmarked}
use Rattle.ckrt_cli_names.proofs.renamed.is_unmarked.Given as goal

abbrev pub invariant-loop-byte : goal.invariant-loop-byte
invariant-loop-byte l = is_unmarked (drop l.byte-index l.bytes) ≡ is_unmarked l.bytes
