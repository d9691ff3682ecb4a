use Rattle.std.proofs.Common.{◌≡◌, ◌++◌}
use Rattle.ckrt_cli_names.specs.declared.piece.Form.TheVariants.{Frames}
use Rattle.ckrt_cli_names.specs.Put.{marks}
use Rattle.ckrt_cli_names.proofs.names.Names.push_words.Given as goal

abbrev pub invariant-loop : goal.invariant-loop
invariant-loop l = l.form ≡ Frames → marks l.out.items ++ marks l.rest ≡ marks l.line
