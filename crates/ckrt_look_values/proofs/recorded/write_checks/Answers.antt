use Rattle.std.proofs.Common.{◌≡◌, ◌∙◌, ◌++◌, ℕ, List, true, Err, ap, subst, sym, rules}
use Rattle.ckrt_events.specs.declared.event.Event.{Event}
use Rattle.ckrt_look_recording.specs.declared.rule.Rule.{Rule}
use Rattle.std.specs.Prelude.{IfErr}
use Rattle.std.proofs.lemmas.Result.{on_ok_weaker}
use Rattle.std.specs.Io.KnownBytes.{Appends}
use Rattle.ckrt_machine.specs.Steps.{State}
use Rattle.ckrt_look_calls.specs.Stretches.{IsEventsFault}
use Rattle.ckrt_look_calls.specs.Walks.{after_events}
use Rattle.ckrt_look_calls.specs.Rooms.{words_of}
use Rattle.ckrt_look_heap.specs.Recorded.{FillsRoom, errors_text, heap_behind, replay, text_by}
use Rattle.ckrt_look_heap.specs.Shadow.{Heap}
use Rattle.ckrt_look_heap.specs.Within.{is_full}
use Rattle.ckrt_look_heap.proofs.WalkLemmas.{all_told, fills, fills_not}
use Rattle.ckrt_look_values.specs.Checks.{after_step, fresh_checks, is_used_up}
use Rattle.ckrt_look_values.specs.Instructions as values
use Rattle.ckrt_look_values.specs.Recorded.{both_text, checks_text, found_text}
use Rattle.ckrt_look_values.specs.Values.{Shadow, fresh}
use Rattle.ckrt_look_values.specs.declared.checking.Checking.{Checking}
use Rattle.ckrt_look_values.proofs.CheckLemmas.{faults_on, heap_alone, values_alone}
use Rattle.ckrt_look_values.proofs.recorded.write_checks.Goals as goal

-- by what was found of these events
told_by : (rules : List Rule) (k : ℕ) (es : List Event) (s t : State) (c : Checking) → t ≡ s → c.heap.heap ≡ heap_behind k es s → c.values ≡ after_events values.after_step k es s (fresh (words_of s))
    → both_text (replay rules k es t) c ≡ checks_text rules k es s
told_by rules k es s t c same heap known =
    ap (λ (z : State). both_text (replay rules k es z) c) same
    ∙ ap (λ (h : Heap). text_by (replay rules k es s) k h ++ found_text (replay rules k es s) c.values) heap
    ∙ ap (λ (w : Shadow). errors_text rules k es s ++ found_text (replay rules k es s) w) known

pub returns-clause-checks : goal.returns-clause-checks
returns-clause-checks g c =
    let s = c.args.machine.now.state in let k = c.args.count in let es = c.args.events.now in let room = c.args.room in
    let begun : c.in-Ok.checking ≡ fresh_checks room k s = c.in-Ok.ensures in
    let now = c.watch_events.new.watcher in
    let watched : now ≡ after_events after_step k es s (fresh_checks room k s) =
    c.in_ok-watch_events.ensures.watched ∙ ap (λ (d : Checking). after_events after_step k es s d) begun in
    let heap = heap_alone k es s now (fresh_checks room k s) watched in
    let known = values_alone k es s now (fresh_checks room k s) watched in
    let end = c.in_ok-watch_events.ensures.state in
    let told = all_told room k es s c.watch_events.new.machine.state now.heap c.watch_end.new.shadow heap end c.in_ok-watch_events.ensures.left c.watch_end.ensures in
    let a = g.W.Write.contents c.args.out.now in let z = g.W.Write.contents c.write_both.new.out in
    on_ok_weaker c.write_both.result (λ written.
    subst (λ l. Appends a z l) (told_by c.args.rules.now k es s c.in-Ok-copy_of.start.state (record { heap = c.watch_end.new.shadow; values = now.values }) c.in-Ok-copy_of.ensures told known) written) c.write_both.ensures.written

-- the room isn't used up
pub returns-clause-left : goal.returns-clause-left
returns-clause-left g c =
    let s = c.args.machine.now.state in let k = c.args.count in let es = c.args.events.now in let room = c.args.room in
    let begun : c.in-Ok.checking ≡ fresh_checks room k s = c.in-Ok.ensures in
    let now = c.watch_events.new.watcher in
    let watched : now ≡ after_events after_step k es s (fresh_checks room k s) =
    c.in_ok-watch_events.ensures.watched ∙ ap (λ (d : Checking). after_events after_step k es s d) begun in
    let heap = heap_alone k es s now (fresh_checks room k s) watched in
    on_ok_weaker c.write_both.result (λ _. fills_not room k es s c.watch_events.new.machine.state now.heap c.watch_end.new.shadow heap c.in_ok-watch_events.ensures.state c.in_ok-watch_events.ensures.left c.watch_end.ensures) c.write_both.ensures.written

-- it is, by what these events note
pub returns-in_err-watch_events-clause-fault : goal.returns-in_err-watch_events-clause-fault
returns-in_err-watch_events-clause-fault g c =
    let s = c.args.machine.now.state in let es = c.args.events.now in let k = c.args.count in let room = c.args.room in
    let f = c.in_err-watch_events.field-0.0 in
    let told : c.from_residual.result ≡ Err f = search rules in
    let begun : c.in-Ok.checking ≡ fresh_checks room k s = c.in-Ok.ensures in
    let all : Checking = after_events after_step k es s c.in-Ok.checking in
    let heap = heap_alone k es s all (fresh_checks room k s) (ap (λ (d : Checking). after_events after_step k es s d) begun) in
    subst (λ r. IfErr r (IsEventsFault (FillsRoom room k es s) es s)) (sym told)
    (faults_on (is_used_up all ≡ true) (FillsRoom room k es s) es s f (λ full. fills room k es s (ap is_full (sym heap) ∙ full)) c.in_err-watch_events.ensures.fault)
