use Rattle.ckrt_schedule.proofs.TurnLemmas as turns
use Rattle.ckrt_machine.proofs.StayEvents as stay
use Rattle.ckrt_schedule.proofs.laws.each_ready_is_placed.Goals as goal

pub returns : goal.returns
returns c = turns.each_ready_is_placed stay.stay_ready
