use Rattle.std.proofs.Common.{ap, [], ◌∷◌, ◌≡◌, ◌∙◌}
use Rattle.std.proofs.lemmas.Result.{IfOk-weaker}
use Rattle.clap.specs.Words.{App, app_of, with_subcommand}
use Rattle.ckrt_cli_words.specs.Commands.{app_with, calls_app, core_app, drive_app, format_app, inspect_app, run_app}
use Rattle.ckrt_cli_words.proofs.command.command_with_calls.Goals as goal

-- command by command
pub returns : goal.returns
returns c =
    let core : app_of c.in_ok-with_core.with_core ≡ app_with (format_app ∷ run_app ∷ inspect_app ∷ drive_app ∷ core_app ∷ []) =
    c.in_ok-with_core.ensures core_app c.core_command.ensures.app ∙ ap (λ (a : App). with_subcommand a core_app.top) c.in_ok-with_drive.ensures in
    IfOk-weaker c.with_command-2.result _ (λ whole. app_of whole ≡ app_with (format_app ∷ run_app ∷ inspect_app ∷ drive_app ∷ core_app ∷ calls_app ∷ []))
    (λ _ is. is calls_app c.calls_command.ensures.app ∙ ap (λ (a : App). with_subcommand a calls_app.top) core) c.with_command-2.ensures
