use Rattle.std.proofs.Common.{drop}
use Rattle.ckrt_look_recording.proofs.WayLemmas.{IsOnWay}
use Rattle.ckrt_look_calls.proofs.replay.make_all.Given as goal

-- what is ahead leads to where all lead
abbrev pub invariant-loop-event : goal.invariant-loop-event
invariant-loop-event l = IsOnWay (drop l.event-index l.events) l.events l.fn.machine.state l.machine.state
