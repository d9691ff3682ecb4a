use Rattle.std.proofs.Common.{◌≡◌, true, false}
use Rattle.ckrt_main.specs.Service.{is_open, ProcessedSoFar}
use Rattle.ckrt_main.proofs.service.serve_lines.Given as goal

abbrev pub invariant-loop : goal.invariant-loop
invariant-loop g l = record {
  open_line : is_open l.line.items ≡ true;
  processed : ProcessedSoFar (g.W.Write.contents l.fn.writer) (g.W.Write.contents l.writer) (g.R.Read.remaining l.fn.reader) (g.R.Read.remaining l.reader) l.fn.session l.session l.line.items false;
}
