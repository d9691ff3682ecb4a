use Rattle.std.proofs.Common.{Some, ap, ◌∙◌}
use Rattle.std.specs.Prelude.{Option}
use Rattle.clap.specs.Words.{Rule, rule_of}
use Rattle.clap.specs.declared.builder.arg.Arg.{Arg}
use Rattle.clap.specs.declared.builder.value_parser.ValueParser.{ValueParser}
use Rattle.clap.specs.declared.builder.value_parser.ValueParser.TheVariants.{Unsigned}
use Rattle.ckrt_cli_words.proofs.SettingLemmas.{read_by}
use Rattle.ckrt_cli_words.proofs.argument.place.Goals as goal

-- an option that may be left out, and then how its value is read
pub returns-clause-rule : goal.returns-clause-rule
returns-clause-rule c =
    read_by c.option.result _ _ c.value_parser-2.ensures.others
    ∙ ap (λ (o : Option ValueParser). record (rule_of c.option.result) { parser = o }) (c.value_parser-2.ensures.given.1 ∙ ap Some (c.value_parser-2.ensures.given.2 ∙ c.value_parser.ensures))
    ∙ ap (λ (r : Rule). record r { parser = Some (Unsigned 0 18446744073709551615) }) c.option.ensures.rule

pub returns-clause-local : goal.returns-clause-local
returns-clause-local c =
    ap (λ (a : Arg). a.global) c.value_parser-2.ensures.others ∙ c.option.ensures.local
