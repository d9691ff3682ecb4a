use Rattle.ckrt_machine.proofs.StayEvents.{stay_on_hart}
use Rattle.ckrt_machine.proofs.laws.threads_stay_on_their_harts.Goals as goal

pub returns : goal.returns
returns c = record { stay = stay_on_hart }
