use Rattle.std.proofs.Common.{◌≡◌}
use Rattle.ckrt_cli_names.specs.Put.{marks}
use Rattle.ckrt_cli_names.proofs.renamed.push_frame.Given as goal

abbrev pub invariant-loop-byte : goal.invariant-loop-byte
invariant-loop-byte l = marks l.out.items ≡ marks l.fn.out.items
