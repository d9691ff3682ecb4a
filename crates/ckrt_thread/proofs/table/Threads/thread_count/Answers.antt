use Rattle.ckrt_thread.proofs.ThreadRows.{length_rows, few_threads}
use Rattle.ckrt_thread.proofs.table.Threads.thread_count.Goals as goal

pub returns-clause-few : goal.returns-clause-few
returns-clause-few c = rw (c.count_of.ensures, c.slots.ensures.slots, ← length_rows 0 c.args.self.now.threads) (few_threads c.args.self.now c.known.ensures)
