use Rattle.ckrt_thread.specs.Links.{row}
use Rattle.ckrt_thread.proofs.wait_list.WaitList.take_out.Given as goal

abbrev pub ghost-unlink : goal.ghost-unlink
ghost-unlink a = row a.links.now a.ends.now
