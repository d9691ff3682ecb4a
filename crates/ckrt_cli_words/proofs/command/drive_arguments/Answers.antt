use Rattle.std.proofs.Common.{◌&&◌, ◌∙◌, ◌∷◌, [], List, ap, ap₂, codes, map, not, refl, true}
use Rattle.std.specs.Prelude.{fold}
use Rattle.std.specs.List.{list_all}
use Rattle.clap.specs.Words.{Rule, new_app, rule_of, with_rule}
use Rattle.clap.specs.declared.builder.arg.Arg.{Arg}
use Rattle.ckrt_cli_words.proofs.command.drive_arguments.Goals as goal

abbrev no_rules : List Rule
no_rules = []

-- rule by rule
pub returns-clause-app : goal.returns-clause-app
returns-clause-app c =
    ap (λ (l : List Arg). fold with_rule (new_app (codes "drive")) (map rule_of l)) c.in_ok-arguments.ensures.items
    ∙ ap (λ (l : List Rule). fold with_rule (new_app (codes "drive")) l)
    (ap₂ ◌∷◌ c.needed.ensures.rule (ap₂ ◌∷◌ c.option.ensures.rule (ap₂ ◌∷◌ c.size.ensures.rule (ap₂ ◌∷◌ c.size-2.ensures.rule (ap₂ ◌∷◌ c.size-3.ensures.rule (ap₂ ◌∷◌ c.option-2.ensures.rule (ap₂ ◌∷◌ c.place.ensures.rule (ap₂ ◌∷◌ c.option-3.ensures.rule (ap₂ ◌∷◌ c.option-4.ensures.rule (ap₂ ◌∷◌ c.place-2.ensures.rule (ap₂ ◌∷◌ c.flag.ensures.rule (ap₂ ◌∷◌ c.number.ensures.rule (ap₂ ◌∷◌ c.number-2.ensures.rule (ap₂ ◌∷◌ c.place-3.ensures.rule (ap₂ ◌∷◌ c.place-4.ensures.rule (ap₂ ◌∷◌ c.flag-2.ensures.rule (ap₂ ◌∷◌ c.place-5.ensures.rule (ap₂ ◌∷◌ c.option-5.ensures.rule (ap₂ ◌∷◌ c.place-6.ensures.rule (ap₂ ◌∷◌ c.names.ensures.rule (ap₂ ◌∷◌ c.variable.ensures.rule (refl {a = no_rules}))))))))))))))))))))))

pub returns-clause-local : goal.returns-clause-local
returns-clause-local c =
    ap (λ (l : List Arg). list_all (λ a. not a.global) l) c.in_ok-arguments.ensures.items
    ∙ (ap₂ ◌&&◌ (ap not c.needed.ensures.local) (ap₂ ◌&&◌ (ap not c.option.ensures.local) (ap₂ ◌&&◌ (ap not c.size.ensures.local) (ap₂ ◌&&◌ (ap not c.size-2.ensures.local) (ap₂ ◌&&◌ (ap not c.size-3.ensures.local) (ap₂ ◌&&◌ (ap not c.option-2.ensures.local) (ap₂ ◌&&◌ (ap not c.place.ensures.local) (ap₂ ◌&&◌ (ap not c.option-3.ensures.local) (ap₂ ◌&&◌ (ap not c.option-4.ensures.local) (ap₂ ◌&&◌ (ap not c.place-2.ensures.local) (ap₂ ◌&&◌ (ap not c.flag.ensures.local) (ap₂ ◌&&◌ (ap not c.number.ensures.local) (ap₂ ◌&&◌ (ap not c.number-2.ensures.local) (ap₂ ◌&&◌ (ap not c.place-3.ensures.local) (ap₂ ◌&&◌ (ap not c.place-4.ensures.local) (ap₂ ◌&&◌ (ap not c.flag-2.ensures.local) (ap₂ ◌&&◌ (ap not c.place-5.ensures.local) (ap₂ ◌&&◌ (ap not c.option-5.ensures.local) (ap₂ ◌&&◌ (ap not c.place-6.ensures.local) (ap₂ ◌&&◌ (ap not c.names.ensures.local) (ap₂ ◌&&◌ (ap not c.variable.ensures.local) (refl {a = true}))))))))))))))))))))))
