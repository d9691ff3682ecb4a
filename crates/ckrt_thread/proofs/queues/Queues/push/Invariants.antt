use Rattle.ckrt_thread.specs.Links.{row}
use Rattle.ckrt_thread.proofs.queues.Queues.push.Given as goal

abbrev pub ghost-link : goal.ghost-link
ghost-link a = row a.links.now a.ends.now
