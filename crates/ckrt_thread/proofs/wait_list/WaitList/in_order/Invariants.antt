use Rattle.std.specs.Prelude.{map}
use Rattle.ckrt_thread.specs.Links.{walk}
use Rattle.ckrt_thread.specs.WaitList.{entry_at}
use Rattle.ckrt_thread.proofs.wait_list.WaitList.in_order.Given as goal

abbrev pub ghost-waits_from : goal.ghost-waits_from
ghost-waits_from a = map (entry_at a.entries.now) (walk 65 a.next.now a.first)
