use Rattle.std.proofs.Common.{◌≡◌, None, map}
use Rattle.ckrt_tables.specs.Records.{if_not_0}
use Rattle.ckrt_tables.proofs.Filled.{filled}
use Rattle.ckrt_tables.proofs.keys.words_of.Given as goal

-- the first keys are done
abbrev pub invariant-loop-key : goal.invariant-loop-key
invariant-loop-key l = l.words ≡ filled None 32 l.key (map if_not_0 l.values)
