use Rattle.std.proofs.Common.{ap, ◌≡◌, ◌∙◌}
use Rattle.std.proofs.lemmas.Result.{IfOk-weaker}
use Rattle.clap.specs.Words.{App, app_of, with_subcommand}
use Rattle.ckrt_cli_words.specs.Commands.{ckrt_app, history_app}
use Rattle.ckrt_cli_words.proofs.command.command.Goals as goal

-- the last command behind the others
pub returns : goal.returns
returns c =
    IfOk-weaker c.with_command.result _ (λ whole. app_of whole ≡ ckrt_app)
    (λ _ is. is history_app c.history_command.ensures.app ∙ ap (λ (a : App). with_subcommand a history_app.top) c.in_ok-with_check.ensures) c.with_command.ensures
