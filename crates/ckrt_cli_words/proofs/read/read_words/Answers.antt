use Rattle.std.proofs.Common.{◌∙◌, ap, map, option_map, refl, sym}
use Rattle.ckrt_cli_words.specs.Jobs.{request_of}
use Rattle.ckrt_cli_words.proofs.TakenLemmas.{untaken}
use Rattle.ckrt_cli_words.proofs.read.read_words.Goals as goal

-- words that are taken name a job, but for both forms of a profile
pub returns-in-Ok-None-clause-taken : goal.returns-in-Ok-None-clause-taken
returns-in-Ok-None-clause-taken c t one =
    absurd (untaken (map (λ s. s.now) c.args.words.now) _ refl (sym (ap (option_map request_of) c.in-Ok-None.field-0-is) ∙ c.in-Ok-None.ensures.named) t one)
