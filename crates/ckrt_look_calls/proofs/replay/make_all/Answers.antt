use Rattle.std.proofs.Common.{◌≡◌, ◌<◌, ◌+◌, ◌∷◌, drop, length, slice_get, Some, refl, ap, subst}
use Rattle.std.proofs.lemmas.Option.{slice_get_read}
use Rattle.ckrt_machine.specs.Events.{AllAccepted}
use Rattle.ckrt_look_recording.proofs.WayLemmas.{IsOnWay, next_ahead, way_next}
use Rattle.ckrt_look_calls.proofs.replay.make_all.Goals as goal

pub step-requires-clause-in_range : goal.step-requires-clause-in_range
step-requires-clause-in_range c =
    let es = c.args.events.now in let i = c.loop-event.event-index in let e = c.event-item.result in
    let less : i < length es = c.loop-event-test.true in
    let is : slice_get es i ≡ Some e = slice_get_read es (length es) i e refl less c.event-item.is in
    let ahead : drop i es ≡ e ∷ drop (i + 1) es = next_ahead i es e is in
    (subst (λ l. AllAccepted l c.loop-event.machine.state) ahead (c.loop-event.invariant.accepted c.requires.accepted)).0.in_range

pub step-requires-clause-accepted : goal.step-requires-clause-accepted
step-requires-clause-accepted c =
    let es = c.args.events.now in let i = c.loop-event.event-index in let e = c.event-item.result in
    let less : i < length es = c.loop-event-test.true in
    let is : slice_get es i ≡ Some e = slice_get_read es (length es) i e refl less c.event-item.is in
    let ahead : drop i es ≡ e ∷ drop (i + 1) es = next_ahead i es e is in
    (subst (λ l. AllAccepted l c.loop-event.machine.state) ahead (c.loop-event.invariant.accepted c.requires.accepted)).0.accepted

pub loop-event-preserved : goal.loop-event-preserved
loop-event-preserved c =
    let es = c.args.events.now in let s = c.args.machine.now.state in let i = c.loop-event.event-index in
    let e = c.event-item.result in let m = c.loop-event.machine in
    let less : i < length es = c.loop-event-test.true in
    let is : slice_get es i ≡ Some e = slice_get_read es (length es) i e refl less c.event-item.is in
    let ahead : drop i es ≡ e ∷ drop (i + 1) es = next_ahead i es e is in
    way_next e (drop (i + 1) es) es s m.state c.step.new.self.state (ap (λ a. a.state) c.step.ensures.step) (subst (λ l. IsOnWay l es s m.state) ahead c.loop-event.invariant)
