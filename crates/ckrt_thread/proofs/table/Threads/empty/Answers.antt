use Rattle.ckrt_thread.proofs.Changes.{well_formed_empty}
use Rattle.ckrt_thread.proofs.table.Threads.empty.Goals as goal

pub invariant_of-result : goal.invariant_of-result
invariant_of-result c = rw (c.in_ok-new.ensures, c.new-2.ensures) (well_formed_empty c.args.keys c.args.harts c.known.ensures c.requires)
