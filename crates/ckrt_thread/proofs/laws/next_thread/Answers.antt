use Rattle.ckrt_thread.proofs.Beginnings.{next_thread}
use Rattle.ckrt_thread.proofs.laws.next_thread.Goals as goal

pub returns : goal.returns
returns c = next_thread
