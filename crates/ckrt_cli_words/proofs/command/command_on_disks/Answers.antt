use Rattle.std.proofs.Common.{ap, [], ◌∷◌, ◌≡◌, ◌∙◌}
use Rattle.std.proofs.lemmas.Result.{IfOk-weaker}
use Rattle.clap.specs.Words.{App, app_of, with_subcommand}
use Rattle.ckrt_cli_words.specs.Commands.{app_with, format_app, run_app}
use Rattle.ckrt_cli_words.proofs.command.command_on_disks.Goals as goal

-- command by command
pub returns : goal.returns
returns c =
    let format : app_of c.in_ok-with_format.with_format ≡ app_with (format_app ∷ []) =
    c.in_ok-with_format.ensures format_app c.format_command.ensures.app ∙ ap (λ (a : App). with_subcommand a format_app.top) c.in_ok-bare.ensures.app in
    IfOk-weaker c.with_command-2.result _ (λ whole. app_of whole ≡ app_with (format_app ∷ run_app ∷ []))
    (λ _ is. is run_app c.run_command.ensures.app ∙ ap (λ (a : App). with_subcommand a run_app.top) format) c.with_command-2.ensures
