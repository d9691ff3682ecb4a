use Rattle.ckrt_witness.specs.Turns.{MakesAll}
use Rattle.ckrt_witness.proofs.turns.make_events.Given as goal

-- the events so far
abbrev pub invariant-loop-behind : goal.invariant-loop-behind
invariant-loop-behind l = MakesAll l.schedule l.behind l.fn.machine.state l.machine.state
