use Rattle.ckrt_tables.proofs.ThreadsRead.{wait_leads}
use Rattle.ckrt_stored.proofs.threads.append_wait.Goals as goal

pub returns : goal.returns
returns c =
    wait_leads c.args.threads.now c.append_wait.new.self c.args.wait c.append_wait.result c.known.ensures c.append_wait.ensures.exact c.append_wait.ensures.appended
