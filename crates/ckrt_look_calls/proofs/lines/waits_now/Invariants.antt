use Rattle.std.proofs.Common.{◌≡◌, ◌≤◌, length, take}
use Rattle.std.specs.Prelude.{map}
use Rattle.ckrt_look_calls.specs.Lines.{waiting_in}
use Rattle.ckrt_look_calls.proofs.lines.waits_now.Given as goal

abbrev pub invariant-loop-wait : goal.invariant-loop-wait
invariant-loop-wait l = record {
  so_far : l.waiting.items ≡ map (waiting_in l.threads) (take l.wait-index l.wait-items);
  all : l.wait-items ≡ l.threads.waits;
  few : length l.wait-items ≤ 64;
}
