-- What a command has after arguments were added in turn.
use Rattle.std.proofs.Common.{◌≡◌, ◌∙◌, ◌||◌, Bool, true, false, not, List, [], ◌∷◌, map, refl, sym, ap, ap₂, true≢false}
use Rattle.std.specs.Prelude.{fold}
use Rattle.std.specs.List.{list_all}
use Rattle.clap.specs.Words.{AddsArg, AddsInTurn, app_of, rule_of, with_rule}
use Rattle.clap.specs.declared.builder.arg.Arg.{Arg}
use Rattle.clap.specs.declared.builder.command.Command.{Command}
use Rattle.clap.specs.declared.builder.command.Command.TheViews.{out-Command}
use Rattle.clap.proofs.WalkLemmas.{both}

is_local : (b : Bool) → not b ≡ true → b ≡ false
is_local true e = absurd (true≢false (sym e))
is_local false e = refl

pub rules_added : (old new : Command) (xs : List Arg) → AddsInTurn AddsArg old xs new → list_all (λ a. not a.global) xs ≡ true
    → app_of new ≡ fold with_rule (app_of old) (map rule_of xs)
rules_added old new [] same local = ap app_of (sym same)
rules_added old new (x ∷ xs) added local =
    let parts = both _ _ local in
    rules_added added.0 new xs added.2 parts.1 ∙ ap (λ a. fold with_rule a (map rule_of xs)) (added.1.shape (is_local x.global parts.0))

pub none_global : (old new : Command) (xs : List Arg) → AddsInTurn AddsArg old xs new → list_all (λ a. not a.global) xs ≡ true
    → (out-Command old).has_globals ≡ false → (out-Command new).has_globals ≡ false
none_global old new [] same local none = ap (λ c. (out-Command c).has_globals) (sym same) ∙ none
none_global old new (x ∷ xs) added local none =
    let parts = both _ _ local in
    none_global added.0 new xs added.2 parts.1 (added.1.globals ∙ ap₂ ◌||◌ none (is_local x.global parts.0))
