use Rattle.ckrt_thread.specs.Links.{row}
use Rattle.ckrt_thread.proofs.queues.Queues.take_out.Given as goal

abbrev pub ghost-unlink : goal.ghost-unlink
ghost-unlink a = row a.links.now a.ends.now
