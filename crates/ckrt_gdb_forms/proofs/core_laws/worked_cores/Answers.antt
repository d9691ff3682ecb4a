use Rattle.ckrt_gdb_forms.proofs.WorkedLemmas.{worked_cores}
use Rattle.ckrt_gdb_forms.proofs.core_laws.worked_cores.Goals as goal

pub returns : goal.returns
returns c = worked_cores
