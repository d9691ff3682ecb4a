use Rattle.std.proofs.Common.{rules, ◌≡◌, ◌∙◌, false, [], Ok, sym, ap}
use Rattle.std.specs.Prelude.{◌==◌, ◌≢◌}
use Rattle.std.specs.List.{list_any}
use Rattle.ckrt_events.specs.Line.{command_of}
use Rattle.ckrt_events.specs.declared.command.Command.TheVariants.{Submit}
use Rattle.ckrt_recovery.specs.View.{confirmed_to, view_of}
use Rattle.ckrt_witness.proofs.AlikeLemmas.{none_refused, takes_line}
use Rattle.ckrt_witness.proofs.alike.takes_event.Goals as goal

pub returns : goal.returns
returns g c = λ is.
    let line = c.args.line.now in
    let event = c.in-Ok-Submit.event in
    let no_feed : list_any (λ b. b == 10) line ≡ false = sym c.has_line_feed.ensures ∙ c.if-has_line_feed.false in
    let some : line ≢ [] = search rules in
    let command : command_of line ≡ Ok (Submit event) = search rules in
    let behind = c.confirm.ensures.view ∙ ap (confirmed_to (view_of c.args.session)) c.released-released.ensures in
    takes_line (view_of c.args.session) (view_of c.confirm.new.self) line event no_feed some command behind (none_refused _ _ c.submit.result (sym c.is_ok.ensures.value ∙ is) c.submit.ensures.answer)
