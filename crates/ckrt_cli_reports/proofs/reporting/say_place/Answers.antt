use Rattle.std.proofs.KnownBytes.{Appends-trans}
use Rattle.ckrt_cli_reports.proofs.SayLemmas.{on_ok}
use Rattle.ckrt_cli_reports.proofs.reporting.say_place.Goals as goal

-- one piece behind another
pub returns-clause-said : goal.returns-clause-said
returns-clause-said g c =
    on_ok c.say_hex_between-2.result _ _
    (λ last. Appends-trans _ _ _ _ _ c.in_ok-say_hex_between.ensures.said (Appends-trans _ _ _ _ _ c.in_ok-say_address.ensures.said last))
    c.say_hex_between-2.ensures.said
