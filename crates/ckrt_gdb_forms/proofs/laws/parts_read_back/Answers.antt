use Rattle.ckrt_gdb_forms.proofs.ReadBackLemmas.{bytes_read_back, escaped_reads_back, number_reads_back}
use Rattle.ckrt_gdb_forms.proofs.laws.parts_read_back.Goals as goal

pub returns-clause-numbers : goal.returns-clause-numbers
returns-clause-numbers c = number_reads_back

pub returns-clause-bytes : goal.returns-clause-bytes
returns-clause-bytes c = bytes_read_back

pub returns-clause-escaped : goal.returns-clause-escaped
returns-clause-escaped c = escaped_reads_back
