use Rattle.std.proofs.Common.{◌≡◌, length}
use Rattle.ckrt_look_values.specs.Values.{filled}
use Rattle.ckrt_look_values.proofs.words.fill_words.Given as goal

-- the words so far
abbrev pub invariant-loop-done : goal.invariant-loop-done
invariant-loop-done l = record {
  values : l.values.items ≡ filled l.done l.first l.value l.fn.values.items;
  size : length l.values.items ≡ length l.fn.values.items;
}
