use Rattle.std.proofs.Common.{rules, ◌≡◌, ◌+◌, ◌++◌, ◌∙◌, true, Err, ap, length, subst, sym, true≢false}
use Rattle.std.specs.Prelude.{IfErr}
use Rattle.std.proofs.lemmas.Result.{on_ok_weaker}
use Rattle.std.specs.Io.KnownBytes.{Appends}
use Rattle.ckrt_machine.specs.Steps.{State}
use Rattle.ckrt_look_calls.specs.Stretches.{IsEventsFault}
use Rattle.ckrt_look_clocks.specs.Detection.{Watched, behind_all, fresh}
use Rattle.ckrt_look_clocks.specs.Within.{Detected, noted_all, fresh_within, is_full}
use Rattle.ckrt_look_clocks.proofs.WithinLemmas.{nothing_left_out}
use Rattle.ckrt_look_races.specs.Again.{race_text}
use Rattle.ckrt_look_races.specs.Holders.{HOLDERS}
use Rattle.ckrt_look_races.specs.Inversions.{inversion_text, orders_text}
use Rattle.ckrt_look_calls.specs.Rooms.{slots_in, words_of}
use Rattle.ckrt_look_races.specs.Recorded.{FillsRoom, found_by, fresh_for, orders_by, replay}
use Rattle.ckrt_look_races.specs.Steps.{of_events}
use Rattle.ckrt_look_races.specs.Texts.{found_text}
use Rattle.ckrt_look_races.proofs.recorded.write_races.Goals as goal

pub returns-clause-races : goal.returns-clause-races
returns-clause-races g c =
    let s = c.args.machine.now.state in let k = c.args.count in let es = c.args.events.now in let by = c.args.rules.now in
    let os = of_events k es s in
    let slots = slots_in c.args.room 286720 (words_of s) in
    let begun : c.in-Ok.detector ≡ fresh_within HOLDERS (words_of s) slots = c.in-Ok.ensures in
    let noted : c.watch_events.new.detector ≡ noted_all os (fresh_within HOLDERS (words_of s) slots) =
    c.in_ok-watch_events.ensures.watched ∙ ap (λ (d : Detected). noted_all os d) begun in
    let all : c.watch_events.new.detector.watched ≡ behind_all os (fresh HOLDERS (words_of s)) =
    ap (λ (d : Detected). d.watched) noted ∙ nothing_left_out HOLDERS (words_of s) slots os (sym (ap is_full noted) ∙ c.in_ok-watch_events.ensures.left) in
    let start = c.in-Ok-copy_of.start in
    let copied : start.state ≡ s = c.in-Ok-copy_of.ensures in
    let end = k + length es in
    let a = g.W.Write.contents c.args.out.now in let z = g.W.Write.contents c.write_all_found.new.out in
    on_ok_weaker c.write_all_found.result (λ written.
    subst (λ (t : State). Appends a z (found_text (race_text (replay by k es t)) k end (found_by k es s) ++ orders_text (inversion_text (replay by k es t)) k end (orders_by k es s))) copied
    (subst (λ (w : Watched). Appends a z (found_text (race_text (replay by k es start.state)) k end w.found ++ orders_text (inversion_text (replay by k es start.state)) k end w.orders)) all written)) c.write_all_found.ensures.found

-- the room isn't used up
pub returns-clause-left : goal.returns-clause-left
returns-clause-left g c =
    let s = c.args.machine.now.state in
    let os = of_events c.args.count c.args.events.now s in
    let noted : c.watch_events.new.detector ≡ noted_all os (fresh_for c.args.room s) =
    c.in_ok-watch_events.ensures.watched ∙ ap (λ (d : Detected). noted_all os d) c.in-Ok.ensures in
    on_ok_weaker c.write_all_found.result (λ _ full. true≢false (sym full ∙ (sym (ap is_full noted) ∙ c.in_ok-watch_events.ensures.left))) c.write_all_found.ensures.found

-- it is, by the operations of these events
pub returns-in_err-watch_events-clause-fault : goal.returns-in_err-watch_events-clause-fault
returns-in_err-watch_events-clause-fault g c =
    let s = c.args.machine.now.state in let es = c.args.events.now in
    let f = c.in_err-watch_events.field-0.0 in
    let told : c.from_residual.result ≡ Err f = search rules in
    subst (λ r. IfErr r (IsEventsFault (FillsRoom c.args.room c.args.count es s) es s)) (sym told)
    (subst (λ (d : Detected). IsEventsFault (is_full (noted_all (of_events c.args.count es s) d) ≡ true) es s f) c.in-Ok.ensures c.in_err-watch_events.ensures.fault)
