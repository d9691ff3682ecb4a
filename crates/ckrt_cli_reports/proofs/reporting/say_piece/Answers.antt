use Rattle.ckrt_cli_reports.proofs.SayLemmas.{on_ok}
use Rattle.ckrt_cli_reports.proofs.reporting.say_piece.Goals as goal

-- this text
pub returns-in-Text-clause-said : goal.returns-in-Text-clause-said
returns-in-Text-clause-said g c = on_ok c.say.result _ _ (λ said. (_, said)) c.say.ensures.said

-- a number's digits
pub returns-in-Number-clause-said : goal.returns-in-Number-clause-said
returns-in-Number-clause-said g c = on_ok c.say_number.result _ _ (λ said. (_, said)) c.say_number.ensures.said
