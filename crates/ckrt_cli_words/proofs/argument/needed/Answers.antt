use Rattle.std.proofs.Common.{ap, true, ◌∙◌}
use Rattle.clap.specs.Words.{Rule}
use Rattle.clap.specs.declared.builder.arg.Arg.{Arg}
use Rattle.ckrt_cli_words.proofs.SettingLemmas.{helped, named, required}
use Rattle.ckrt_cli_words.proofs.argument.needed.Goals as goal

-- setting by setting
pub returns-clause-rule : goal.returns-clause-rule
returns-clause-rule c =
    required c.help.result _ c.required.ensures
    ∙ ap (λ (r : Rule). record r { required = true }) (helped c.value_name.result _ _ c.help.ensures)
    ∙ ap (λ (r : Rule). record r { required = true }) (named c.new.result _ _ c.value_name.ensures)
    ∙ ap (λ (r : Rule). record r { required = true; value_names = 1 }) c.new.ensures.rule

pub returns-clause-local : goal.returns-clause-local
returns-clause-local c =
    ap (λ (a : Arg). a.global) c.required.ensures ∙ ap (λ (a : Arg). a.global) c.help.ensures ∙ ap (λ (a : Arg). a.global) c.value_name.ensures ∙ c.new.ensures.optional.1
