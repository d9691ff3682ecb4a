use Rattle.ckrt_gdb_history.proofs.ExtendLemmas.{goes_by_schedule}
use Rattle.ckrt_gdb_history.proofs.laws.histories_go_on_by_schedule.Goals as goal

pub returns : goal.returns
returns c = goes_by_schedule
