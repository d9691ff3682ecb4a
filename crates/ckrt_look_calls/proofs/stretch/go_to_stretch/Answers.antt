use Rattle.std.proofs.Common.{rules, ◌≡◌, ◌-◌, List, take, sym, subst}
use Rattle.ckrt_events.specs.declared.event.Event.{Event}
use Rattle.ckrt_machine.specs.Events.{AllAccepted}
use Rattle.ckrt_look_recording.proofs.WayLemmas.{accepted_first}
use Rattle.ckrt_look_calls.proofs.stretch.go_to_stretch.Goals as goal

-- the events before the stretch are accepted where all are
pub returns-then-not-make_events-clause-fault : goal.returns-then-not-make_events-clause-fault
returns-then-not-make_events-clause-fault c =
    let es = c.args.events.now in
    let s = c.args.machine.now.state in
    let n = c.in-Some.from - c.args.first in
    let before : c.split_at.result.0.now ≡ take n es = search rules in
    λ all. c.if-not-make_events.ensures.refused (subst (λ (l : List Event). AllAccepted l s) (sym before) (accepted_first n es s all))
