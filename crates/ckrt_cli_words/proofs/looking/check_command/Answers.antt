use Rattle.std.proofs.Common.{ap, codes, map, false, ◌≡◌, ◌∙◌}
use Rattle.std.specs.Prelude.{fold}
use Rattle.std.proofs.lemmas.Result.{IfOk-weaker}
use Rattle.clap.specs.Words.{App, app_of, new_app, rule_of, with_rule}
use Rattle.clap.specs.Simple.{app_of_fields}
use Rattle.clap.specs.declared.builder.command.Command.{Command}
use Rattle.clap.specs.declared.builder.command.Command.TheOpen.{Command-F}
use Rattle.clap.specs.declared.builder.command.Command.TheViews.{out-Command}
use Rattle.ckrt_cli_words.specs.Commands.{check_app}
use Rattle.ckrt_cli_words.proofs.AddLemmas.{none_global, rules_added}
use Rattle.ckrt_cli_words.proofs.looking.check_command.Goals as goal

pub returns-clause-app : goal.returns-clause-app
returns-clause-app c =
    let bare : app_of c.about.result ≡ new_app (codes "check") = ap app_of_fields c.about.ensures ∙ c.new.ensures.app in
    let given = c.in_ok-arguments in
    IfOk-weaker c.args-2.result _ (λ whole. app_of whole ≡ check_app) (λ whole added.
    rules_added c.about.result whole given.arguments.items added given.ensures.local
    ∙ (ap (λ (a : App). fold with_rule a (map rule_of given.arguments.items)) bare ∙ given.ensures.app (new_app (codes "check")))) c.args-2.ensures

pub returns-clause-local : goal.returns-clause-local
returns-clause-local c =
    let given = c.in_ok-arguments in
    IfOk-weaker c.args-2.result _ (λ whole. (out-Command whole).has_globals ≡ false) (λ whole added.
    none_global c.about.result whole given.arguments.items added given.ensures.local (ap (λ (f : Command-F Command). f.has_globals) c.about.ensures ∙ c.new.ensures.local)) c.args-2.ensures
