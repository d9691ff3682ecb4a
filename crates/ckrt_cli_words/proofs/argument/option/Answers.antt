use Rattle.std.proofs.Common.{Some, ap, ◌∙◌}
use Rattle.clap.specs.Words.{Rule}
use Rattle.clap.specs.declared.builder.arg.Arg.{Arg}
use Rattle.ckrt_cli_words.proofs.SettingLemmas.{helped, long, named}
use Rattle.ckrt_cli_words.proofs.argument.option.Goals as goal

-- setting by setting
pub returns-clause-rule : goal.returns-clause-rule
returns-clause-rule c =
    helped c.value_name.result _ _ c.help.ensures
    ∙ named c.long.result _ _ c.value_name.ensures
    ∙ ap (λ (r : Rule). record r { value_names = 1 }) (long c.new.result _ _ c.long.ensures)
    ∙ ap (λ (r : Rule). record r { long = Some c.args.id.now; value_names = 1 }) c.new.ensures.rule

pub returns-clause-local : goal.returns-clause-local
returns-clause-local c =
    ap (λ (a : Arg). a.global) c.help.ensures
    ∙ ap (λ (a : Arg). a.global) c.value_name.ensures
    ∙ ap (λ (a : Arg). a.global) c.long.ensures
    ∙ c.new.ensures.optional.1
