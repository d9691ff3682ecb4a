use Rattle.std.proofs.Common.{take}
use Rattle.ckrt_witness.specs.Machine.{WereAccepted}
use Rattle.ckrt_witness.proofs.machine.apply_all.Given as goal

-- the events so far
abbrev pub invariant-loop-event : goal.invariant-loop-event
invariant-loop-event l = WereAccepted (take l.event-index l.events) l.fn.machine.state l.machine.state l.put
