use Rattle.std.proofs.Common.{◌&&◌, ◌∙◌, ◌∷◌, [], List, ap, ap₂, map, not, refl, true}
use Rattle.std.specs.Prelude.{fold}
use Rattle.std.specs.List.{list_all}
use Rattle.clap.specs.Words.{Rule, rule_of, with_rule}
use Rattle.clap.specs.declared.builder.arg.Arg.{Arg}
use Rattle.ckrt_cli_words.proofs.looking.stretch_arguments.Goals as goal

abbrev no_rules : List Rule
no_rules = []

-- rule by rule
pub returns-clause-app : goal.returns-clause-app
returns-clause-app c = λ named.
    ap (λ (l : List Arg). fold with_rule named (map rule_of l)) c.in_ok-arguments.ensures.items
    ∙ ap (λ (l : List Rule). fold with_rule named l)
    (ap₂ ◌∷◌ c.needed.ensures.rule (ap₂ ◌∷◌ c.of_history.ensures.rule (ap₂ ◌∷◌ c.beginning.ensures.rule (ap₂ ◌∷◌ c.end.ensures.rule (ap₂ ◌∷◌ c.latest.ensures.rule (ap₂ ◌∷◌ c.names.ensures.rule (refl {a = no_rules})))))))

pub returns-clause-local : goal.returns-clause-local
returns-clause-local c =
    ap (λ (l : List Arg). list_all (λ a. not a.global) l) c.in_ok-arguments.ensures.items
    ∙ (ap₂ ◌&&◌ (ap not c.needed.ensures.local) (ap₂ ◌&&◌ (ap not c.of_history.ensures.local) (ap₂ ◌&&◌ (ap not c.beginning.ensures.local) (ap₂ ◌&&◌ (ap not c.end.ensures.local) (ap₂ ◌&&◌ (ap not c.latest.ensures.local) (ap₂ ◌&&◌ (ap not c.names.ensures.local) (refl {a = true})))))))
