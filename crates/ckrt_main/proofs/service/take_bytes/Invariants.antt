use Rattle.std.proofs.Common.{◌≡◌, true, false, take}
use Rattle.ckrt_main.specs.Service.{is_open, Processed}
use Rattle.ckrt_main.proofs.service.take_bytes.Given as goal

abbrev pub invariant-loop-byte : goal.invariant-loop-byte
invariant-loop-byte g l = record {
  open_line : is_open l.line.items ≡ true;
  processed : Processed (g.W.Write.contents l.fn.writer) (g.W.Write.contents l.writer) l.fn.line.items (take l.byte-index l.bytes) l.fn.session l.session l.line.items false;
}
