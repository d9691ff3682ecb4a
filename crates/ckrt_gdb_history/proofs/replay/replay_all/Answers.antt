use Rattle.std.proofs.Common.{◌≡◌, ◌+◌, ◌<◌, ◌∷◌, drop, take, length, slice_get, Err, Some, refl, ap, sym, subst, ◌∙◌, arith, add-one, rules}
use Rattle.std.specs.Prelude.{IfErr}
use Rattle.ckrt_machine.specs.Steps.{State}
use Rattle.ckrt_machine.specs.Events.{AllAccepted}
use Rattle.ckrt_machine.proofs.Fixed.{same_harts_after}
use Rattle.std.proofs.lemmas.List.{length_push}
use Rattle.std.proofs.lemmas.Option.{slice_get_read}
use Rattle.ckrt_gdb_history.specs.Positions.{state_before, steps_of}
use Rattle.ckrt_gdb_history.specs.Engine.{AreSnapshots, IsAlike, IsBeforeEvent}
use Rattle.ckrt_gdb_history.proofs.PlaceLemmas.{next_ahead}
use Rattle.ckrt_gdb_history.proofs.SnapshotLemmas.{next_before}
use Rattle.ckrt_gdb_history.proofs.WayLemmas.{IsOnWay, way_next}
use Rattle.ckrt_gdb_history.proofs.replay.replay_all.Goals as goal

pub keep_at-requires-clause-alike : goal.keep_at-requires-clause-alike
keep_at-requires-clause-alike c =
    let es = c.args.events.now in let s = c.args.machine.now.state in let i = c.loop-event.event-index in
    let before = c.loop-event.invariant in
    subst (IsAlike c.loop-event.machine.state) (sym (before.start ∙ c.requires.start)) (record {
      size = before.size;
      harts = ap (λ (z : State). z.tables.threads.hart_count) before.state ∙ same_harts_after (take i es) s;
    })

pub loop-event-preserved : goal.loop-event-preserved
loop-event-preserved c =
    let es = c.args.events.now in let s = c.args.machine.now.state in let i = c.loop-event.event-index in
    let e = c.event-item.result in let m = c.loop-event.machine in let new = c.replay_one.new.machine in
    let before = c.loop-event.invariant in let made = c.in_ok-replay_one.ensures in
    let steps = c.loop-event.steps.items in
    let less : i < length es = c.loop-event-test.true in
    let is : slice_get es i ≡ Some e = slice_get_read es (length es) i e refl less c.event-item.is in
    let ahead : drop i es ≡ e ∷ drop (i + 1) es = next_ahead i es e is ∙ ap (λ j. e ∷ drop j es) (sym (add-one i)) in
    let noted = before.count in
    let count : c.len.result ≡ i = omega (arith, c.len.ensures, noted, c.loop-event.steps.ok.0) in
    let here : IsBeforeEvent c.len.result m es s = record {
      events = omega (arith, count, less);
      state = before.state ∙ ap (λ k. state_before k es s) (sym count);
      size = before.size;
    } in
    let first : c.loop-event.snapshots.start ≡ s = before.start ∙ c.requires.start in
    record {
      way = way_next e (drop (i + 1) es) es s m.state new.state steps c.replay_one.new.steps.items made.accepted made.state made.steps (subst (λ l. IsOnWay l es s m.state steps) ahead before.way);
      size = made.size ∙ before.size;
      count = ap length made.steps ∙ length_push steps (steps_of e m.state) ∙ ap (λ n. n + 1) before.count;
      state = next_before i e m new es s less is before.state made.state;
      room = omega (arith, before.room, made.room);
      same = made.room ∙ before.same;
      start = c.keep_at.ensures.start ∙ before.start;
      kept = subst (AreSnapshots c.keep_at.new.self.kept es) first
          (c.keep_at.ensures.kept es (subst (AreSnapshots c.loop-event.snapshots.kept es) (sym first) before.kept) (subst (IsBeforeEvent c.len.result m es) (sym first) here));
    }

pub returns-in_err-replay_one-clause-refused : goal.returns-in_err-replay_one-clause-refused
returns-in_err-replay_one-clause-refused c =
    let es = c.args.events.now in let s = c.args.machine.now.state in let i = c.loop-event.event-index in
    let e = c.event-item.result in let m = c.loop-event.machine in
    let less : i < length es = c.loop-event-test.true in
    let is : slice_get es i ≡ Some e = slice_get_read es (length es) i e refl less c.event-item.is in
    let ahead : drop i es ≡ e ∷ drop (i + 1) es = next_ahead i es e is ∙ ap (λ j. e ∷ drop j es) (sym (add-one i)) in
    let err : c.from_residual.result ≡ Err c.in_err-replay_one.field-0.0 = search rules in
    subst (λ r. IfErr r (λ _. AllAccepted es s → ⊥)) (sym err)
    (λ all. c.in_err-replay_one.ensures.refused (subst (λ l. AllAccepted l m.state) ahead (c.loop-event.invariant.way.there all)).0)
