use Rattle.ckrt_thread.proofs.Beginnings.{next_wait}
use Rattle.ckrt_thread.proofs.laws.next_wait.Goals as goal

pub returns : goal.returns
returns c = next_wait
