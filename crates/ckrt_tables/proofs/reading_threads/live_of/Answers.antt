use Rattle.ckrt_tables.proofs.ThreadsRead.{live_found}
use Rattle.ckrt_tables.proofs.reading_threads.live_of.Goals as goal

pub returns : goal.returns
returns c =
    live_found c.args.flags c.args.value c.args.regs c.args.handlers.items c.next_mark-initial.result c.next_mark-detached.result c.next_mark-is_disabled.result c.next_mark-is_asynchronous.result c.next_mark-is_requested.result c.next_mark-is_unwinding.result
    c.next_mark-initial.new.flags c.next_mark-detached.new.flags c.next_mark-is_disabled.new.flags c.next_mark-is_asynchronous.new.flags c.next_mark-is_requested.new.flags c.next_mark-is_unwinding.new.flags c.number_if.result c.args.specific
    c.next_mark-initial.ensures c.next_mark-detached.ensures c.next_mark-is_disabled.ensures c.next_mark-is_asynchronous.ensures c.next_mark-is_requested.ensures c.next_mark-is_unwinding.ensures c.number_if.ensures
