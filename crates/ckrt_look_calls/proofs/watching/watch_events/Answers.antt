use Rattle.std.proofs.Common.{◌≡◌, ◌<◌, ◌+◌, ℕ, ◌∷◌, List, drop, length, slice_get, Some, None, refl, sym, ap, ◌∙◌, subst, arith, rules}
use Rattle.std.proofs.lemmas.Option.{slice_get_read}
use Rattle.ckrt_events.specs.declared.event.Event.{Event}
use Rattle.ckrt_events.specs.Bytes.{IsInRange}
use Rattle.ckrt_machine.specs.Steps.{State}
use Rattle.ckrt_machine.specs.Events.{step}
use Rattle.ckrt_machine.specs.Refusals.{refusal_of}
use Rattle.ckrt_look_recording.proofs.WayLemmas.{HasComeTo, come_next, next_ahead}
use Rattle.ckrt_look_calls.specs.declared.lines.Place.{Place}
use Rattle.ckrt_look_calls.specs.Walks.{after_event, after_events}
use Rattle.ckrt_look_calls.proofs.FullLemmas.{full_stays}
use Rattle.ckrt_look_calls.proofs.watching.watch_events.Goals as goal

-- the events ahead are the next one, and those after it
events_ahead : {A : Type 0} (f : Place → ℕ → State → A → A) (k i : ℕ) (es : List Event) (e : Event) (m new : State) (w v : A) → drop i es ≡ e ∷ drop (i + 1) es → new ≡ (step e m).state
    → v ≡ after_event f k e m w → after_events f (k + 1) (drop (i + 1) es) new v ≡ after_events f k (drop i es) m w
events_ahead f k i es e m new w v ahead state watched =
    ap (λ (z : State). after_events f (k + 1) (drop (i + 1) es) z v) state
    ∙ ap (λ u. after_events f (k + 1) (drop (i + 1) es) (step e m).state u) watched
    ∙ sym (ap (λ l. after_events f k l m w) ahead)

pub loop-event-preserved : goal.loop-event-preserved
loop-event-preserved g c =
    let es = c.args.events.now in let s = c.args.machine.now.state in let i = c.loop-event.event-index in
    let e = c.event-item.result in let m = c.loop-event.machine in let new = c.watch_event.new.machine in
    let so_far = c.loop-event.invariant in
    let less : i < length es = c.loop-event-test.true in
    let is : slice_get es i ≡ Some e = slice_get_read es (length es) i e refl less c.event-item.is in
    let ahead : drop i es ≡ e ∷ drop (i + 1) es = next_ahead i es e is in
    let state : new.state ≡ (step e m.state).state = c.watch_event.ensures.state in
    let in_range : IsInRange e = search rules in
    let accepted : refusal_of 0 e m.state ≡ None = search rules in
    record {
      done = omega (arith, so_far.done);
      come = come_next e (drop (i + 1) es) es s m.state new.state (record { in_range = in_range; accepted = accepted }) state (subst (λ l. HasComeTo l es s m.state) ahead so_far.come);
      watched = events_ahead g.W.StepWatcher.after c.loop-event.done i es e m.state new.state c.loop-event.watcher c.watch_event.new.watcher ahead state c.watch_event.ensures.watched ∙ so_far.watched;
      left = sym c.is_used_up.ensures ∙ c.if-is_used_up.false;
    }

-- what the events so far make of the watcher uses its room up, so all do
pub returns-then-is_used_up-clause-fault : goal.returns-then-is_used_up-clause-fault
returns-then-is_used_up-clause-fault g c =
    let es = c.args.events.now in let i = c.loop-event.event-index in
    let e = c.event-item.result in let m = c.loop-event.machine in let new = c.watch_event.new.machine in
    let f = g.W.StepWatcher.after in let full = g.W.StepWatcher.used_up in
    let less : i < length es = c.loop-event-test.true in
    let is : slice_get es i ≡ Some e = slice_get_read es (length es) i e refl less c.event-item.is in
    let ahead : drop i es ≡ e ∷ drop (i + 1) es = next_ahead i es e is in
    let all = events_ahead f c.loop-event.done i es e m.state new.state c.loop-event.watcher c.watch_event.new.watcher ahead c.watch_event.ensures.state c.watch_event.ensures.watched ∙ c.loop-event.invariant.watched in
    sym (ap full all) ∙ full_stays f full g.W.StepWatcher.stays (c.loop-event.done + 1) (drop (i + 1) es) new.state c.watch_event.new.watcher (sym c.is_used_up.ensures ∙ c.if-is_used_up.true)
