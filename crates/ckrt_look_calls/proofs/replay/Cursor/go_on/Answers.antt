use Rattle.std.proofs.Common.{◌-◌, List, ◌∙◌, ap, drop, subst, sym, take}
use Rattle.ckrt_events.specs.declared.event.Event.{Event}
use Rattle.ckrt_machine.specs.Events.{AllAccepted, fold}
use Rattle.ckrt_machine.specs.Steps.{State}
use Rattle.ckrt_look_recording.proofs.WayLemmas.{accepted_behind, accepted_first}
use Rattle.ckrt_look_calls.proofs.ReplayLemmas.{folded_on}
use Rattle.ckrt_look_calls.proofs.replay.Cursor.go_on.Goals as goal

-- what comes next of accepted events is accepted there
pub make_all-requires : goal.make_all-requires
make_all-requires c =
    let es = c.args.source.now.events.now in let s = c.args.source.now.start.now.state in let m = c.args.self.now.made in let n = c.args.made in
    let old = c.args.self.now.machine.state in
    record {
      accepted = subst (λ (l : List Event). AllAccepted l old) (sym c.events_between.ensures)
          (subst (λ (z : State). AllAccepted (take (n - m) (drop m es)) z) (sym c.requires.behind)
          (accepted_first (n - m) (drop m es) (fold (take m es) s).state (accepted_behind m es s c.requires.sound)));
    }

pub returns-clause-behind : goal.returns-clause-behind
returns-clause-behind c =
    let es = c.args.source.now.events.now in let s = c.args.source.now.start.now.state in let m = c.args.self.now.made in let n = c.args.made in
    let old = c.args.self.now.machine.state in
    c.make_all.ensures.state ∙ ap (λ (l : List Event). (fold l old).state) c.events_between.ensures
    ∙ ap (λ (z : State). (fold (take (n - m) (drop m es)) z).state) c.requires.behind ∙ folded_on m n es s c.requires.order
