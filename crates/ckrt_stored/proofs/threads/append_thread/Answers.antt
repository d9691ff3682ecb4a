use Rattle.std.proofs.Common.{subst}
use Rattle.ckrt_thread.specs.Contents.{row}
use Rattle.ckrt_tables.specs.Decoding.{GoesOn}
use Rattle.ckrt_tables.specs.DecodingThreads.{ThreadsLeadTo}
use Rattle.ckrt_tables.proofs.ThreadsRead.{thread_leads}
use Rattle.ckrt_stored.proofs.threads.append_thread.Goals as goal

pub returns : goal.returns
returns c =
    subst (λ t. GoesOn ThreadsLeadTo c.args.threads.now (row c.args.id t) c.append_thread.new.self) c.copied.ensures
    (thread_leads c.args.threads.now c.append_thread.new.self (row c.args.id c.copied.result) c.append_thread.result c.known.ensures c.append_thread.ensures.exact c.append_thread.ensures.appended)
