use Rattle.std.proofs.Common.{subst}
use Rattle.ckrt_tables.specs.Decoding.{GoesOn}
use Rattle.ckrt_tables.specs.DecodingThreads.{ThreadsLeadTo}
use Rattle.ckrt_tables.proofs.ThreadsRead.{thread_leads}
use Rattle.ckrt_tables.proofs.reading_threads.FirstRecordRow.append.Goals as goal

pub returns : goal.returns
returns c =
    subst (λ r. GoesOn ThreadsLeadTo c.args.table.now r c.append_thread.new.self) c.self.view_is
    (thread_leads c.args.table.now c.append_thread.new.self (record { id = c.self.inside.id; thread = c.self.inside.thread }) c.append_thread.result c.known.ensures c.append_thread.ensures.exact c.append_thread.ensures.appended)
