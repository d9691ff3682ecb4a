use Rattle.std.proofs.Common.{◌≡◌, ◌≤◌, ◌+◌, ◌++◌, drop, length, map}
use Rattle.ckrt_cli_files.specs.ImageWords.{texts}
use Rattle.ckrt_cli_files.proofs.image_words.push_texts.Given as goal

abbrev pub invariant-loop-word : goal.invariant-loop-word
invariant-loop-word l = record {
  pushed : l.image.items ++ texts (map (λ s. s.now) (drop l.word-index l.words))
      ≡ l.fn.image.items ++ texts (map (λ s. s.now) l.words);
  counted : length l.fn.image.items + l.word-index ≤ length l.image.items;
}
