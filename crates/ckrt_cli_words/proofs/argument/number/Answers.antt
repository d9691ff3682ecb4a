use Rattle.std.proofs.Common.{ap, ◌∙◌, [], ◌∷◌}
use Rattle.clap.specs.Words.{Rule}
use Rattle.clap.specs.declared.builder.arg.Arg.{Arg}
use Rattle.ckrt_cli_words.proofs.SettingLemmas.{default}
use Rattle.ckrt_cli_words.proofs.argument.number.Goals as goal

-- an option that may be left out, and then its default
pub returns-clause-rule : goal.returns-clause-rule
returns-clause-rule c =
    default c.size.result _ _ c.default_value.ensures
    ∙ ap (λ (r : Rule). record r { defaults = c.args.default.now ∷ [] }) c.size.ensures.rule

pub returns-clause-local : goal.returns-clause-local
returns-clause-local c =
    ap (λ (a : Arg). a.global) c.default_value.ensures ∙ c.size.ensures.local
