use Rattle.ckrt_thread.proofs.Known.{live_range, waits_room}
use Rattle.ckrt_thread.proofs.Changes.{well_formed_blocked}
use Rattle.ckrt_thread.proofs.table.Threads.block.Goals as goal

pub push-requires : goal.push-requires
push-requires c =
    let live = rw (← c.self.view_is) at c.requires.live in
    let free = rw (← c.self.view_is) at c.requires.free in
    record {
      number = live_range _ c.args.thread c.self.invariant live;
      free = free;
      room = waits_room _ c.args.thread c.self.invariant live free;
    }

pub invariant_of-self : goal.invariant_of-self
invariant_of-self c =
    rw (c.push.ensures.items, c.take_off.ensures)
    (well_formed_blocked _ c.args.thread c.args.reason c.args.deadline c.self.invariant (rw (← c.self.view_is) at c.requires.live) (rw (← c.self.view_is) at c.requires.free) (rw (← c.self.view_is) at c.requires.allowed))
