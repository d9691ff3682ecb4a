use Rattle.std.proofs.Common.{◌≡◌}
use Rattle.ckrt_cli_names.proofs.named.NamedWriter.write_waiting.Given as goal

abbrev pub invariant-loop : goal.invariant-loop
invariant-loop g l = record {
  line : l.self.line ≡ l.fn.self.line;
  start : l.self.start ≡ l.fn.self.start;
  put : l.self.put.made ≡ l.fn.self.put.made;
}
