use Rattle.ckrt_stored.proofs.EmptyingLemmas.{IsEmptyBelow}
use Rattle.ckrt_stored.proofs.emptying.empty.Given as goal

abbrev pub invariant-loop-id : goal.invariant-loop-id
invariant-loop-id l = IsEmptyBelow l.id l.fn.threads l.threads
