use Rattle.ckrt_thread.proofs.Kept.{kept_none}
use Rattle.ckrt_thread.proofs.wait_list.WaitList.new.Goals as goal

pub invariant_of-result : goal.invariant_of-result
invariant_of-result c = kept_none c.new.result c.new.ensures
