-- What a setting of an argument does to its rule.
use Rattle.std.proofs.Common.{◌≡◌, List, [], ◌∷◌, Some, true, ap, Bor}
use Rattle.std.specs.Prelude.{ℕ, Option}
use Rattle.clap.specs.Words.{rule_of}
use Rattle.clap.specs.declared.builder.action.ArgAction.{ArgAction}
use Rattle.clap.specs.declared.builder.arg.Arg.{Arg}
use Rattle.clap.specs.declared.builder.texts.Texts.TheVariants.{One}
use Rattle.clap.specs.declared.builder.value_parser.ValueParser.{ValueParser}

module _ (before after : Arg) where
  pub helped : (text : Bor (List ℕ)) → after ≡ record before { help = Some text } → rule_of after ≡ rule_of before
  helped text is = ap rule_of is

  pub named : (name : Bor (List ℕ)) → after ≡ record before { val_names = One name } → rule_of after ≡ record (rule_of before) { value_names = 1 }
  named name is = ap rule_of is

  pub long : (name : Bor (List ℕ)) → after ≡ record before { long = Some name } → rule_of after ≡ record (rule_of before) { long = Some name.now }
  long name is = ap rule_of is

  pub default : (value : Bor (List ℕ)) → after ≡ record before { default_vals = One value } → rule_of after ≡ record (rule_of before) { defaults = value.now ∷ [] }
  default value is = ap rule_of is

  pub acting : (action : ArgAction) → after ≡ record before { action = Some action } → rule_of after ≡ record (rule_of before) { action = Some action }
  acting action is = ap rule_of is

  pub required : after ≡ record before { required = true } → rule_of after ≡ record (rule_of before) { required = true }
  required is = ap rule_of is

  pub read_by : (parser : Option ValueParser) → after ≡ record before { value_parser = parser } → rule_of after ≡ record (rule_of before) { parser = parser }
  read_by parser is = ap rule_of is
