use Rattle.std.proofs.Common.{◌≡◌, ◌≤◌, length, take}
use Rattle.ckrt_tables.specs.Records.{words_from}
use Rattle.ckrt_tables.proofs.keys.word_count.Given as goal

abbrev pub invariant-loop-key : goal.invariant-loop-key
invariant-loop-key l = record {
  few : l.count ≤ l.key;
  words : l.count ≡ length (words_from 0 (take l.key l.words));
}
