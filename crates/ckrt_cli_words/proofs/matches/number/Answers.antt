use Rattle.std.proofs.Common.{◌≡◌, ◌∙◌, ℕ, List, Option, Some, None, refl, ap}
use Rattle.std.specs.Prelude.{option_and_then}
use Rattle.std.specs.Str.Parse.{ParsesUnsigned, ExplainsUnsignedError, HasUnsignedDigitsIfOk}
use Rattle.clap.specs.Words.{found_of, one_text}
use Rattle.clap.proofs.WalkLemmas.{one_text-rows}
use Rattle.ckrt_cli_words.specs.Jobs.{number_of}
use Rattle.ckrt_cli_words.proofs.NumberLemmas.{number_read}
use Rattle.ckrt_cli_words.proofs.matches.number.Goals as goal

pub returns : goal.returns
returns c = go (one_text (found_of c.args.matches.now) c.args.id.now) refl ∙ ap (option_and_then (number_of 32)) (one_text-rows (found_of c.args.matches.now) c.args.id.now)
  where
    -- by the text that the getter reads, if there is one
    go : (o : Option (List ℕ)) → one_text (found_of c.args.matches.now) c.args.id.now ≡ o
        → c.get_one.result ≡ option_and_then (number_of 32) (one_text (found_of c.args.matches.now) c.args.id.now)
    go None e = rw e (c.get_one.ensures.none e)
    go (Some t) e =
        rw e (number_read 32 _ (λ bs r. ParsesUnsigned 32 10 bs r × ExplainsUnsignedError 10 bs r × HasUnsignedDigitsIfOk bs r) (λ u x g. g.0) t c.get_one.result (c.get_one.ensures.value t e))
