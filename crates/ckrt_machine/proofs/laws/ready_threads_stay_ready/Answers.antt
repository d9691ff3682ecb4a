use Rattle.ckrt_machine.proofs.StayEvents.{stay_ready}
use Rattle.ckrt_machine.proofs.laws.ready_threads_stay_ready.Goals as goal

pub returns : goal.returns
returns c = record { stay = stay_ready }
