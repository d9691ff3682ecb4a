use Rattle.ckrt_cli_names.specs.Rows.{IsInOrder}
use Rattle.ckrt_cli_names.proofs.RowLemmas.{EndBy}
use Rattle.ckrt_cli_names.proofs.rows.read_rows.Given as goal

abbrev pub invariant-loop : goal.invariant-loop
invariant-loop l = record {
  order : IsInOrder l.rows.items;
  ends : EndBy l.last l.rows.items;
}
