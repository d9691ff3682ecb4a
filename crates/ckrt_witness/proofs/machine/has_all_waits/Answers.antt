use Rattle.std.proofs.Common.{◌∙◌, ap, sym, subst}
use Rattle.std.specs.Prelude.{is_some}
use Rattle.ckrt_machine.specs.Plans.{planned}
use Rattle.ckrt_calls.specs.declared.table.Tables.{Tables}
use Rattle.ckrt_witness.specs.Machine.{HasAllWaits}
use Rattle.ckrt_witness.proofs.machine.has_all_waits.Goals as goal

pub returns : goal.returns
returns c = λ _.
    let same = c.tables.ensures.tables in
    subst HasAllWaits same (record {
      mutex = c.args.at.now.mutex;
      locker = c.in-Some._locker;
      locks = sym c.in-Some.ensures.first;
      waiting = c.in-Some.ensures.waiting;
      lock = c.args.at.now.lock;
      writer = c.in-Some-first_waiter._writer;
      writes = sym c.in-Some-first_waiter.ensures.first;
      target = c.args.at.now.joined;
      joined = ap is_some (sym c.in-Some-first_waiter-2.ensures.first);
      hart = c.args.at.now.hart;
      running = c.in-Some-on_hart._running;
      on = sym c.in-Some-on_hart.ensures.on;
      next = c.in-Some-planned._next;
      plan = ap (λ (t : Tables). planned c.args.at.now.hart t) same ∙ sym c.in-Some-planned.ensures;
    })
