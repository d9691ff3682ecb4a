use Rattle.ckrt_cli_reports.proofs.SayLemmas.{says_more}
use Rattle.ckrt_cli_reports.proofs.reporting.say_pieces.Goals as goal

-- one piece more
pub loop-piece-preserved : goal.loop-piece-preserved
loop-piece-preserved g c = record { said = says_more _ _ _ c.loop-piece.invariant.said c.in_ok-say_piece.ensures.said }
