use Rattle.std.proofs.Common.{rules, ◌≡◌, List, Ok, Err, subst, sym}
use Rattle.ckrt_events.specs.declared.event.Event.{Event}
use Rattle.ckrt_look_recording.specs.Recording.{recorded_of}
use Rattle.ckrt_look_calls.specs.Stretches.{IsReachFault, IsReached, TellsRecording}
use Rattle.ckrt_look_calls.proofs.StretchLemmas.{fault_of_reaching, told_of_recording}
use Rattle.ckrt_look_calls.proofs.stretch.tell_recording.Goals as goal

-- the stretch isn't there
pub returns-in_err-from-clause-tells : goal.returns-in_err-from-clause-tells
returns-in_err-from-clause-tells g c =
    let out = g.W.Write.contents c.args.out.now in
    let r = c.args.recording in
    let same : c.as_slice.result.now ≡ r.events.items = search rules in
    let f = c.in_err-from.field-0.0 in
    let fault = subst (λ (l : List Event). IsReachFault c.args.stretch (record { first = r.first; start = r.machine.state; events = l }) f) same c.in_err-from.ensures.fault in
    let result : c.from_residual.result ≡ Err f = search rules in
    subst (λ q. TellsRecording (g.T.Telling.Tells c.args.telling.now) c.args.stretch (recorded_of r) out out q) (sym result) (fault_of_reaching (g.T.Telling.Tells c.args.telling.now) c.args.stretch (recorded_of r) f fault)

-- it was told of
pub returns-clause-tells : goal.returns-clause-tells
returns-clause-tells g c =
    let r = c.args.recording in
    let same : c.as_slice.result.now ≡ r.events.items = search rules in
    let told = c.in_ok-from.told.now in
    let z = c.go_to_stretch.new.machine.state in
    let is = subst (λ (l : List Event). IsReached c.args.stretch (record { first = r.first; start = r.machine.state; events = l }) c.in_ok-from.from told z) same c.in_ok-from.ensures.reached in
    told_of_recording (g.T.Telling.Tells c.args.telling.now) c.args.stretch (g.W.Write.contents c.args.out.now) (g.W.Write.contents c.tell_flushed.new.out) (recorded_of r) c.in_ok-from.from told z c.tell_flushed.result is
    c.tell_flushed.ensures.told c.tell_flushed.ensures.accepted c.tell_flushed.ensures.fault
