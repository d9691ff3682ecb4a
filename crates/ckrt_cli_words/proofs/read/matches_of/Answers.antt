use Rattle.std.proofs.Common.{refl}
use Rattle.clap.specs.Words.{app_of}
use Rattle.ckrt_cli_words.specs.Commands.{ckrt_app}
use Rattle.ckrt_cli_words.proofs.ParseLemmas.{entered, faultless, taken}
use Rattle.ckrt_cli_words.proofs.read.matches_of.Goals as goal

pub returns-clause-entered : goal.returns-clause-entered
returns-clause-entered c = entered (app_of c.in_ok-command.command) ckrt_app _ c.try_get_matches_from.result c.in_ok-command.ensures refl c.try_get_matches_from.ensures.matches

pub returns-clause-faultless : goal.returns-clause-faultless
returns-clause-faultless c = faultless (app_of c.in_ok-command.command) ckrt_app _ c.try_get_matches_from.result c.in_ok-command.ensures refl c.try_get_matches_from.ensures.kinds

pub returns-clause-taken : goal.returns-clause-taken
returns-clause-taken c = taken (app_of c.in_ok-command.command) ckrt_app _ c.try_get_matches_from.result c.in_ok-command.ensures c.try_get_matches_from.ensures.passes
