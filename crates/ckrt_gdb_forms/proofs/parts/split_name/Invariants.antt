use Rattle.ckrt_gdb_forms.specs.Requests.{is_separator}
use Rattle.ckrt_gdb_forms.proofs.PartLemmas.{AllFail}
use Rattle.ckrt_gdb_forms.proofs.parts.split_name.Given as goal

abbrev pub invariant-loop-i : goal.invariant-loop-i
invariant-loop-i l = AllFail is_separator l.packet l.i
