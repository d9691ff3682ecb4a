use Rattle.std.specs.Prelude.{◌≡◌, take, drop}
use Rattle.ckrt_thread.specs.Links.{IsPath}
use Rattle.ckrt_thread.specs.Queues.{ids}
use Rattle.ckrt_thread.proofs.wait_list.waits_from.Given as goal

abbrev pub invariant-loop-place : goal.invariant-loop-place
invariant-loop-place g l = record {
  shown : l.waits.items ≡ take l.place g.ws;
  ahead : IsPath l.next l.thread (ids (drop l.place g.ws));
}
