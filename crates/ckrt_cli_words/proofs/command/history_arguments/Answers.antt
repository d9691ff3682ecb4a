use Rattle.std.proofs.Common.{◌&&◌, ◌∙◌, ◌∷◌, [], List, ap, ap₂, codes, map, not, refl, true}
use Rattle.std.specs.Prelude.{fold}
use Rattle.std.specs.List.{list_all}
use Rattle.clap.specs.Words.{Rule, new_app, rule_of, with_rule}
use Rattle.clap.specs.declared.builder.arg.Arg.{Arg}
use Rattle.ckrt_cli_words.proofs.command.history_arguments.Goals as goal

abbrev no_rules : List Rule
no_rules = []

-- rule by rule
pub returns-clause-app : goal.returns-clause-app
returns-clause-app c =
    ap (λ (l : List Arg). fold with_rule (new_app (codes "history")) (map rule_of l)) c.in_ok-arguments.ensures.items
    ∙ ap (λ (l : List Rule). fold with_rule (new_app (codes "history")) l)
    (ap₂ ◌∷◌ c.needed.ensures.rule (ap₂ ◌∷◌ c.option.ensures.rule (ap₂ ◌∷◌ c.option-2.ensures.rule (ap₂ ◌∷◌ c.place.ensures.rule (ap₂ ◌∷◌ c.place-2.ensures.rule (refl {a = no_rules}))))))

pub returns-clause-local : goal.returns-clause-local
returns-clause-local c =
    ap (λ (l : List Arg). list_all (λ a. not a.global) l) c.in_ok-arguments.ensures.items
    ∙ (ap₂ ◌&&◌ (ap not c.needed.ensures.local) (ap₂ ◌&&◌ (ap not c.option.ensures.local) (ap₂ ◌&&◌ (ap not c.option-2.ensures.local) (ap₂ ◌&&◌ (ap not c.place.ensures.local) (ap₂ ◌&&◌ (ap not c.place-2.ensures.local) (refl {a = true}))))))
