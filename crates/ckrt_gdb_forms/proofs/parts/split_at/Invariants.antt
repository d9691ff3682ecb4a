use Rattle.ckrt_gdb_forms.specs.Requests.{is_byte}
use Rattle.ckrt_gdb_forms.proofs.PartLemmas.{AllFail}
use Rattle.ckrt_gdb_forms.proofs.parts.split_at.Given as goal

abbrev pub invariant-loop-i : goal.invariant-loop-i
invariant-loop-i l = AllFail (is_byte l.value) l.bytes l.i
