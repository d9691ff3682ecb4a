use Rattle.std.proofs.Common.{ap, [], ◌∷◌, ◌≡◌, ◌∙◌}
use Rattle.std.proofs.lemmas.Result.{IfOk-weaker}
use Rattle.clap.specs.Words.{App, app_of, with_subcommand}
use Rattle.ckrt_cli_words.specs.Commands.{app_with, calls_app, core_app, debug_app, drive_app, format_app, inspect_app, races_app, run_app}
use Rattle.ckrt_cli_words.proofs.command.command_with_races.Goals as goal

-- command by command
pub returns : goal.returns
returns c =
    let debug : app_of c.in_ok-with_debug.with_debug ≡ app_with (format_app ∷ run_app ∷ inspect_app ∷ drive_app ∷ core_app ∷ calls_app ∷ debug_app ∷ []) =
    c.in_ok-with_debug.ensures debug_app c.debug_command.ensures.app ∙ ap (λ (a : App). with_subcommand a debug_app.top) c.in_ok-with_calls.ensures in
    IfOk-weaker c.with_command-2.result _ (λ whole. app_of whole ≡ app_with (format_app ∷ run_app ∷ inspect_app ∷ drive_app ∷ core_app ∷ calls_app ∷ debug_app ∷ races_app ∷ []))
    (λ _ is. is races_app c.races_command.ensures.app ∙ ap (λ (a : App). with_subcommand a races_app.top) debug) c.with_command-2.ensures
