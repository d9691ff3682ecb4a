use Rattle.std.proofs.Common.{ap, ap₂, codes, false, ◌≡◌, ◌∙◌, ◌||◌}
use Rattle.std.proofs.lemmas.Result.{IfOk-weaker}
use Rattle.clap.specs.Words.{app_of, new_app, with_rule}
use Rattle.clap.specs.Simple.{app_of_fields}
use Rattle.clap.specs.declared.builder.command.Command.{Command}
use Rattle.clap.specs.declared.builder.command.Command.TheOpen.{Command-F}
use Rattle.clap.specs.declared.builder.command.Command.TheViews.{out-Command}
use Rattle.ckrt_cli_words.specs.Commands.{run_app}
use Rattle.ckrt_cli_words.proofs.command.run_command.Goals as goal

pub returns-clause-app : goal.returns-clause-app
returns-clause-app c =
    let bare : app_of c.about.result ≡ new_app (codes "run") = ap app_of_fields c.about.ensures ∙ c.new.ensures.app in
    IfOk-weaker c.arg.result _ (λ whole. app_of whole ≡ run_app)
    (λ _ adds. adds.shape c.needed-disk.ensures.local ∙ ap₂ with_rule bare c.needed-disk.ensures.rule) c.arg.ensures

pub returns-clause-local : goal.returns-clause-local
returns-clause-local c = IfOk-weaker c.arg.result _ (λ whole. (out-Command whole).has_globals ≡ false)
    (λ _ adds. adds.globals ∙ ap₂ ◌||◌ (ap (λ (f : Command-F Command). f.has_globals) c.about.ensures ∙ c.new.ensures.local) c.needed-disk.ensures.local) c.arg.ensures
