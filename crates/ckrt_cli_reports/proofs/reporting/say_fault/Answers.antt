use Rattle.ckrt_cli_reports.proofs.SayLemmas.{ends_with, on_ok, says_more}
use Rattle.ckrt_cli_reports.proofs.reporting.say_fault.Goals as goal

-- the line with the name stands at the end
pub returns-clause-said : goal.returns-clause-said
returns-clause-said g c =
    on_ok c.say_name.result _ _
    (ends_with _ _ _ _ (says_more _ _ _ c.in_ok-say_subject.ensures.said (_, c.in_ok-say_line.ensures.said)))
    c.say_name.ensures.said
