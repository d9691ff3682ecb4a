use Rattle.std.proofs.Common.{ap, [], ◌∷◌, ◌≡◌, ◌∙◌}
use Rattle.std.proofs.lemmas.Result.{IfOk-weaker}
use Rattle.clap.specs.Words.{App, app_of, with_subcommand}
use Rattle.ckrt_cli_words.specs.Commands.{app_with, calls_app, check_app, core_app, debug_app, drive_app, format_app, hunt_app, inspect_app, profile_app, races_app, run_app, timeline_app}
use Rattle.ckrt_cli_words.proofs.command.command_with_check.Goals as goal

-- command by command
pub returns : goal.returns
returns c =
    let hunt : app_of c.in_ok-with_hunt.with_hunt ≡ app_with (format_app ∷ run_app ∷ inspect_app ∷ drive_app ∷ core_app ∷ calls_app ∷ debug_app ∷ races_app ∷ timeline_app ∷ profile_app ∷ hunt_app ∷ []) =
    c.in_ok-with_hunt.ensures hunt_app c.hunt_command.ensures.app ∙ ap (λ (a : App). with_subcommand a hunt_app.top) c.in_ok-with_profile.ensures in
    IfOk-weaker c.with_command-2.result _ (λ whole. app_of whole ≡ app_with (format_app ∷ run_app ∷ inspect_app ∷ drive_app ∷ core_app ∷ calls_app ∷ debug_app ∷ races_app ∷ timeline_app ∷ profile_app ∷ hunt_app ∷ check_app ∷ []))
    (λ _ is. is check_app c.check_command.ensures.app ∙ ap (λ (a : App). with_subcommand a check_app.top) hunt) c.with_command-2.ensures
