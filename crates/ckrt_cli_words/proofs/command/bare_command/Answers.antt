use Rattle.std.proofs.Common.{ap, true, false, ◌≡◌, ◌∙◌}
use Rattle.std.proofs.lemmas.Result.{IfOk-weaker}
use Rattle.clap.specs.Words.{App, app_of}
use Rattle.clap.specs.Simple.{app_of_fields}
use Rattle.clap.specs.declared.builder.command.Command.{Command}
use Rattle.clap.specs.declared.builder.command.Command.TheOpen.{Command-F}
use Rattle.clap.specs.declared.builder.command.Command.TheViews.{out-Command}
use Rattle.ckrt_cli_words.specs.Commands.{bare_app}
use Rattle.ckrt_cli_words.proofs.command.bare_command.Goals as goal

-- setting by setting
pub returns-clause-app : goal.returns-clause-app
returns-clause-app c = IfOk-weaker c.bin_name.result _ (λ bare. app_of bare ≡ bare_app) (λ _ is.
    ap app_of_fields is.0
    ∙ ap app_of_fields c.subcommand_required.ensures
    ∙ ap (λ (f : Command-F Command). app_of_fields (record f { subcommand_required = true })) c.disable_help_subcommand.ensures
    ∙ ap (λ (f : Command-F Command). app_of_fields (record f { subcommand_required = true; disable_help_subcommand = true })) c.no_binary_name.ensures
    ∙ ap (λ (f : Command-F Command). app_of_fields (record f { subcommand_required = true; disable_help_subcommand = true; no_binary_name = true })) c.about.ensures
    ∙ ap (λ (a : App). record a { top = record a.top { subcommand_required = true; disable_help_subcommand = true; no_binary_name = true } }) c.new.ensures.app) c.bin_name.ensures

pub returns-clause-local : goal.returns-clause-local
returns-clause-local c = IfOk-weaker c.bin_name.result _ (λ bare. (out-Command bare).has_globals ≡ false) (λ _ is.
    ap (λ (f : Command-F Command). f.has_globals) is.0
    ∙ ap (λ (f : Command-F Command). f.has_globals) c.subcommand_required.ensures
    ∙ ap (λ (f : Command-F Command). f.has_globals) c.disable_help_subcommand.ensures
    ∙ ap (λ (f : Command-F Command). f.has_globals) c.no_binary_name.ensures
    ∙ ap (λ (f : Command-F Command). f.has_globals) c.about.ensures
    ∙ c.new.ensures.local) c.bin_name.ensures
