use Rattle.std.proofs.Common.{◌≡◌, map}
use Rattle.ckrt_tables.specs.Records.{word_or_0}
use Rattle.ckrt_tables.proofs.Filled.{filled}
use Rattle.ckrt_tables.proofs.reading_keys.values_of.Given as goal

-- the first keys are done
abbrev pub invariant-loop-key : goal.invariant-loop-key
invariant-loop-key l = l.values ≡ filled 0 32 l.key (map word_or_0 l.words)
