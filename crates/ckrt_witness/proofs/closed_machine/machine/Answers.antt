use Rattle.std.proofs.Common.{subst}
use Rattle.ckrt_machine.specs.Steps.{State}
use Rattle.ckrt_witness.specs.Machine.{MachineWitness}
use Rattle.ckrt_witness.proofs.closed_machine.machine.Goals as goal

pub returns : goal.returns
returns g c = subst (λ (s : State). MachineWitness s c.args.events.now) c.new_machine-machine.ensures c.in-Some.ensures
