use Rattle.ckrt_schedule.proofs.ClockLemmas as clock
use Rattle.ckrt_schedule.proofs.laws.clock_comes.Goals as goal

pub returns : goal.returns
returns c = clock.clock_comes c.clock_goes_by_ticks.ensures.clock
