use Rattle.ckrt_machine.proofs.Clock.{clock_goes_by_ticks}
use Rattle.ckrt_machine.proofs.laws.clock_goes_by_ticks.Goals as goal

pub returns : goal.returns
returns c = record { clock = clock_goes_by_ticks }
