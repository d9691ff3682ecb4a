use Rattle.std.proofs.Common.{◌≡◌, length}
use Rattle.ckrt_look_clocks.specs.Detection.{renewed}
use Rattle.ckrt_look_clocks.proofs.parts.Shadow.renew_words.Given as goal

-- the words so far
abbrev pub invariant-loop-done : goal.invariant-loop-done
invariant-loop-done l = record {
  cells : l.self.cells ≡ renewed l.done l.block l.fn.self.cells;
  size : length l.self.cells ≡ length l.fn.self.cells;
  slots : l.self.slots ≡ l.fn.self.slots;
}
