use Rattle.std.proofs.Common.{◌≡◌, ◌∙◌, ◌<◌, ◌+◌, ◌∷◌, drop, length, slice_get, Some, None, refl, subst, arith, rules}
use Rattle.std.proofs.lemmas.Option.{slice_get_read}
use Rattle.ckrt_events.specs.Bytes.{IsInRange}
use Rattle.ckrt_machine.specs.Refusals.{refusal_of}
use Rattle.ckrt_look_recording.proofs.WayLemmas.{HasComeTo, come_next, next_ahead}
use Rattle.ckrt_look_timeline.proofs.EventLemmas.{begins_next, tracks_next}
use Rattle.ckrt_look_timeline.proofs.recorded.watch_events.Goals as goal

pub loop-event-preserved : goal.loop-event-preserved
loop-event-preserved c =
    let es = c.args.events.now in let s = c.args.machine.now.state in let i = c.loop-event.event-index in
    let e = c.event-item.result in let m = c.loop-event.machine in let new = c.watch_next.new.machine in
    let old = c.loop-event.timeline in let behind = c.watch_next.new.timeline in
    let so_far = c.loop-event.invariant in
    let noted = c.in-Ok.ensures in
    let less : i < length es = c.loop-event-test.true in
    let is : slice_get es i ≡ Some e = slice_get_read es (length es) i e refl less c.event-item.is in
    let ahead : drop i es ≡ e ∷ drop (i + 1) es = next_ahead i es e is in
    let in_range : IsInRange e = search rules in
    let accepted : refusal_of 0 e m.state ≡ None = search rules in
    record {
      come = come_next e (drop (i + 1) es) es s m.state new.state (record { in_range = in_range; accepted = accepted }) noted.state (subst (λ l. HasComeTo l es s m.state) ahead so_far.come);
      whole = noted.goes_on.whole;
      steps = omega (arith, noted.steps, so_far.steps);
      tracks = λ j small. tracks_next e (drop (i + 1) es) (drop i es) m.state new.state old behind ahead noted.state so_far.whole noted.goes_on j small ∙ so_far.tracks j small;
      begins =
          begins_next e (drop (i + 1) es) (drop i es) m.state new.state old behind ahead noted.state so_far.whole noted.goes_on c.loop-event.begins.items c.watch_next.new.begins.items noted.begins
          ∙ so_far.begins;
    }
