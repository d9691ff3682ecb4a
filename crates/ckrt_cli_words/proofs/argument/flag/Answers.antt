use Rattle.std.proofs.Common.{Some, ap, ◌∙◌}
use Rattle.clap.specs.Words.{Rule}
use Rattle.clap.specs.declared.builder.action.ArgAction.TheVariants.{SetTrue}
use Rattle.clap.specs.declared.builder.arg.Arg.{Arg}
use Rattle.ckrt_cli_words.proofs.SettingLemmas.{acting, helped, long}
use Rattle.ckrt_cli_words.proofs.argument.flag.Goals as goal

-- setting by setting
pub returns-clause-rule : goal.returns-clause-rule
returns-clause-rule c =
    helped c.action.result _ _ c.help.ensures
    ∙ acting c.long.result _ _ c.action.ensures
    ∙ ap (λ (r : Rule). record r { action = Some SetTrue }) (long c.new.result _ _ c.long.ensures)
    ∙ ap (λ (r : Rule). record r { long = Some c.args.id.now; action = Some SetTrue }) c.new.ensures.rule

pub returns-clause-local : goal.returns-clause-local
returns-clause-local c =
    ap (λ (a : Arg). a.global) c.help.ensures ∙ ap (λ (a : Arg). a.global) c.action.ensures ∙ ap (λ (a : Arg). a.global) c.long.ensures ∙ c.new.ensures.optional.1
