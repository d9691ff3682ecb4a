use Rattle.ckrt_tables.proofs.ThreadsRead.{wait_leads}
use Rattle.ckrt_tables.proofs.reading_threads.WaitRow.append.Goals as goal

pub returns : goal.returns
returns c = wait_leads c.args.table.now c.append_wait.new.self c.args.self c.append_wait.result c.known.ensures c.append_wait.ensures.exact c.append_wait.ensures.appended
