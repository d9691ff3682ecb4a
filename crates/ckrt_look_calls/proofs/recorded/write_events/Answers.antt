use Rattle.std.proofs.Common.{◌≡◌, ◌<◌, ◌+◌, ◌∷◌, ◌++◌, ℕ, List, drop, length, slice_get, Some, None, refl, sym, ap, ◌∙◌, subst, arith, rules}
use Rattle.std.proofs.lemmas.Option.{slice_get_read}
use Rattle.ckrt_machine.specs.Steps.{State}
use Rattle.ckrt_machine.specs.Events.{step}
use Rattle.ckrt_machine.specs.Refusals.{refusal_of}
use Rattle.ckrt_events.specs.Bytes.{IsInRange}
use Rattle.ckrt_look_calls.specs.Recorded.{lines_from}
use Rattle.ckrt_look_calls.specs.Events.{event_lines}
use Rattle.ckrt_look_calls.proofs.AppendLemmas.{Completes, completes_more}
use Rattle.ckrt_look_recording.proofs.WayLemmas.{HasComeTo, come_next, next_ahead}
use Rattle.ckrt_look_calls.proofs.recorded.write_events.Goals as goal

pub loop-event-preserved : goal.loop-event-preserved
loop-event-preserved g c =
    let has = g.W.Write.contents in
    let es = c.args.events.now in let s = c.args.machine.now.state in let i = c.loop-event.event-index in
    let e = c.event-item.result in let m = c.loop-event.machine in let new = c.write_event.new.machine in
    let k = c.loop-event.done in
    let so_far = c.loop-event.invariant in
    let less : i < length es = c.loop-event-test.true in
    let is : slice_get es i ≡ Some e = slice_get_read es (length es) i e refl less c.event-item.is in
    let ahead : drop i es ≡ e ∷ drop (i + 1) es = next_ahead i es e is in
    let state : new.state ≡ (step e m.state).state = c.in_ok-write_event.ensures.state in
    let in_range : IsInRange e = search rules in
    let accepted : refusal_of 0 e m.state ≡ None = search rules in
    let rest : List ℕ = lines_from (k + 1) (drop (i + 1) es) new.state in
    let all : List ℕ = lines_from c.args.count es s in
    let parts : lines_from k (drop i es) m.state ≡ event_lines k e m.state ++ rest =
    ap (λ l. lines_from k l m.state) ahead ∙ ap (λ (z : State). event_lines k e m.state ++ lines_from (k + 1) (drop (i + 1) es) z) (sym state) in
    record {
      done = omega (arith, so_far.done);
      come = come_next e (drop (i + 1) es) es s m.state new.state (record { in_range = in_range; accepted = accepted }) state (subst (λ l. HasComeTo l es s m.state) ahead so_far.come);
      lines = completes_more (has c.args.out.now) (has c.loop-event.out) (has c.write_event.new.out) (event_lines k e m.state) rest all
          (subst (λ (l : List ℕ). Completes (has c.args.out.now) (has c.loop-event.out) l all) parts so_far.lines) c.in_ok-write_event.ensures.lines;
    }
