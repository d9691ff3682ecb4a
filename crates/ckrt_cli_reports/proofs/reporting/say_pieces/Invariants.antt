use Rattle.ckrt_cli_reports.specs.Lines.{Says}
use Rattle.ckrt_cli_reports.proofs.reporting.say_pieces.Given as goal

-- the pieces before it were said
abbrev pub invariant-loop-piece : goal.invariant-loop-piece
invariant-loop-piece g l = record {
  said : Says (g.E.Reporter.said l.fn.reporter) (g.E.Reporter.said l.reporter);
}
