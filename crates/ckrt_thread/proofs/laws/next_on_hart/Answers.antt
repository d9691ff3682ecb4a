use Rattle.ckrt_thread.proofs.Beginnings.{next_on_hart}
use Rattle.ckrt_thread.proofs.laws.next_on_hart.Goals as goal

pub returns : goal.returns
returns c = next_on_hart
