use Rattle.std.proofs.Common.{◌≡◌, ◌<◌, ◌+◌, ℕ, ◌∷◌, List, drop, length, slice_get, Some, None, refl, sym, ap, ◌∙◌, subst, arith, rules}
use Rattle.std.proofs.lemmas.Option.{slice_get_read}
use Rattle.ckrt_events.specs.declared.event.Event.{Event}
use Rattle.ckrt_machine.specs.Steps.{State}
use Rattle.ckrt_machine.specs.Events.{step}
use Rattle.ckrt_machine.specs.Refusals.{refusal_of}
use Rattle.ckrt_events.specs.Bytes.{IsInRange}
use Rattle.ckrt_look_recording.proofs.WayLemmas.{HasComeTo, come_next, next_ahead}
use Rattle.ckrt_look_clocks.specs.Within.{Detected, is_full, noted_all}
use Rattle.ckrt_look_races.specs.Steps.{of_event, of_events}
use Rattle.ckrt_look_races.proofs.BehindLemmas.{behind_both, full_stays}
use Rattle.ckrt_look_races.proofs.recorded.watch_events.Goals as goal

-- the operations ahead are those of the next event, and those behind it
noted_ahead : (k i : ℕ) (es : List Event) (e : Event) (m new : State) (w : Detected) → drop i es ≡ e ∷ drop (i + 1) es → new ≡ (step e m).state
    → noted_all (of_events k (drop i es) m) w ≡ noted_all (of_events (k + 1) (drop (i + 1) es) new) (noted_all (of_event k e m) w)
noted_ahead k i es e m new w ahead state =
    ap (λ l. noted_all (of_events k l m) w) ahead ∙ behind_both (of_event k e m) (of_events (k + 1) (drop (i + 1) es) (step e m).state) w
    ∙ ap (λ (z : State). noted_all (of_events (k + 1) (drop (i + 1) es) z) (noted_all (of_event k e m) w)) (sym state)

pub loop-event-preserved : goal.loop-event-preserved
loop-event-preserved c =
    let es = c.args.events.now in let s = c.args.machine.now.state in let i = c.loop-event.event-index in
    let e = c.event-item.result in let m = c.loop-event.machine in let new = c.watch_event.new.machine in
    let k = c.loop-event.done in let w = c.loop-event.detector in
    let so_far = c.loop-event.invariant in
    let less : i < length es = c.loop-event-test.true in
    let is : slice_get es i ≡ Some e = slice_get_read es (length es) i e refl less c.event-item.is in
    let ahead : drop i es ≡ e ∷ drop (i + 1) es = next_ahead i es e is in
    let state : new.state ≡ (step e m.state).state = c.watch_event.ensures.state in
    let in_range : IsInRange e = search rules in
    let accepted : refusal_of 0 e m.state ≡ None = search rules in
    let rest : List Event = drop (i + 1) es in
    record {
      done = omega (arith, so_far.done);
      come = come_next e (drop (i + 1) es) es s m.state new.state (record { in_range = in_range; accepted = accepted }) state (subst (λ l. HasComeTo l es s m.state) ahead so_far.come);
      watched = ap (λ (v : Detected). noted_all (of_events (k + 1) rest new.state) v) c.watch_event.ensures.watched ∙ sym (noted_ahead k i es e m.state new.state w ahead state) ∙ so_far.watched;
      left = sym c.is_full.ensures ∙ c.if-is_full.false;
    }

-- the operations of the events so far use the room up, so those of all do
pub returns-then-is_full-clause-fault : goal.returns-then-is_full-clause-fault
returns-then-is_full-clause-fault c =
    let es = c.args.events.now in let i = c.loop-event.event-index in
    let e = c.event-item.result in let m = c.loop-event.machine in let new = c.watch_event.new.machine in
    let k = c.loop-event.done in let w = c.loop-event.detector in
    let less : i < length es = c.loop-event-test.true in
    let is : slice_get es i ≡ Some e = slice_get_read es (length es) i e refl less c.event-item.is in
    let ahead : drop i es ≡ e ∷ drop (i + 1) es = next_ahead i es e is in
    let rest = of_events (k + 1) (drop (i + 1) es) new.state in
    let all = ap (λ (v : Detected). noted_all rest v) c.watch_event.ensures.watched ∙ sym (noted_ahead k i es e m.state new.state w ahead c.watch_event.ensures.state) ∙ c.loop-event.invariant.watched in
    sym (ap is_full all) ∙ full_stays rest c.watch_event.new.detector (sym c.is_full.ensures ∙ c.if-is_full.true)
