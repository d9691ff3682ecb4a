use Rattle.std.proofs.Common.{◌≡◌, None}
use Rattle.ckrt_tables.proofs.Filled.{filled}
use Rattle.ckrt_stored.proofs.threads.copied_keys.Given as goal

-- the first keys are done
abbrev pub invariant-loop-key : goal.invariant-loop-key
invariant-loop-key l = l.destructors ≡ filled None 32 l.key l.keys.destructors
