use Rattle.ckrt_cli_reports.proofs.SayLemmas.{on_ok, says_more}
use Rattle.ckrt_cli_reports.proofs.reporting.say_subject.Goals as goal

-- the numbers behind the file
pub returns-clause-said : goal.returns-clause-said
returns-clause-said g c = on_ok c.say_pieces.result _ _ (says_more _ _ _ c.in_ok-say_file.ensures.said) c.say_pieces.ensures.said
