use Rattle.std.proofs.Common.{ap, [], ◌∷◌, ◌≡◌, ◌∙◌}
use Rattle.std.proofs.lemmas.Result.{IfOk-weaker}
use Rattle.clap.specs.Words.{App, app_of, with_subcommand}
use Rattle.ckrt_cli_words.specs.Commands.{app_with, drive_app, format_app, inspect_app, run_app}
use Rattle.ckrt_cli_words.proofs.command.command_with_drive.Goals as goal

-- command by command
pub returns : goal.returns
returns c =
    let inspect : app_of c.in_ok-with_inspect.with_inspect ≡ app_with (format_app ∷ run_app ∷ inspect_app ∷ []) =
    c.in_ok-with_inspect.ensures inspect_app c.inspect_command.ensures.app ∙ ap (λ (a : App). with_subcommand a inspect_app.top) c.in_ok-with_run.ensures in
    IfOk-weaker c.with_command-2.result _ (λ whole. app_of whole ≡ app_with (format_app ∷ run_app ∷ inspect_app ∷ drive_app ∷ []))
    (λ _ is. is drive_app c.drive_command.ensures.app ∙ ap (λ (a : App). with_subcommand a drive_app.top) inspect) c.with_command-2.ensures
