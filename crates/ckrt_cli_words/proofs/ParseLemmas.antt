-- What a parse says of a command line that the command stands for.
use Rattle.std.proofs.Common.{[], Err, IfErr, IfOk, List, Ok, Result, ap, sym, true, ◌∙◌, ◌≡◌}
use Rattle.std.proofs.lemmas.Result.{IfErr-weaker, IfOk-weaker}
use Rattle.clap.specs.Kinds.{Kinds}
use Rattle.clap.specs.Words.{App, FailsBy, HasMatchesOf, Text, fault_of, is_simple, is_simple_and_free, kind_of, subcommand_of, subcommand_rows_of, takes}
use Rattle.clap.specs.declared.error.Error.{Error}
use Rattle.clap.specs.declared.error.kind.ErrorKind.TheVariants.{OutOfMemory}
use Rattle.clap.specs.declared.parser.matches.ArgMatches.{ArgMatches}

free_at_ok : {T : Type 0} (r : Result T Error) (kinds : Kinds) → FailsBy kinds r → IfOk r (λ _. kinds ≡ [])
free_at_ok (Ok m) kinds free = free
free_at_ok (Err e) kinds is = tt

module _ (a b : App) (words : List Text) (r : Result ArgMatches Error) (is : a ≡ b) where
  pub entered : is_simple b ≡ true → IfOk r (HasMatchesOf a words) → IfOk r (λ m. subcommand_rows_of m ≡ subcommand_of b words)
  entered simple parse = IfOk-weaker r (HasMatchesOf a words) (λ m. subcommand_rows_of m ≡ subcommand_of b words)
      (λ m h. (h (ap is_simple is ∙ simple)).1 ∙ ap (λ (x : App). subcommand_of x words) is) parse

  pub faultless : is_simple_and_free b ≡ true → (is_simple_and_free a ≡ true → FailsBy (fault_of a words) r) → IfOk r (λ _. fault_of b words ≡ [])
  faultless simple parse = IfOk-weaker r (λ _. fault_of a words ≡ []) (λ _. fault_of b words ≡ [])
      (λ m h. ap (λ (x : App). fault_of x words) (sym is) ∙ h) (free_at_ok r (fault_of a words) (parse (ap is_simple_and_free is ∙ simple)))

  pub taken : IfErr r (λ e. takes a words ≡ true → kind_of e ≡ OutOfMemory) → IfErr r (λ e. takes b words ≡ true → kind_of e ≡ OutOfMemory)
  taken parse = IfErr-weaker r (λ e. takes a words ≡ true → kind_of e ≡ OutOfMemory) (λ e. takes b words ≡ true → kind_of e ≡ OutOfMemory)
      (λ e h t. h (ap (λ (x : App). takes x words) is ∙ t)) parse
