use Rattle.std.proofs.Common.{◌∙◌, ap, sym, subst}
use Rattle.ckrt_thread.specs.Contents.{empty, thread_rows}
use Rattle.ckrt_tables.specs.DecodingThreads.{ThreadsLeadTo}
use Rattle.ckrt_tables.proofs.ThreadsRead.{threads_begin, waits_begin, harts_begin}
use Rattle.ckrt_stored.proofs.threads.restore_threads.Goals as goal

pub set_keys-requires : goal.set_keys-requires
set_keys-requires c = (c.args.threads.now.keys, c.empty.ensures ∙ ap (λ n. empty c.args.threads.now.keys n) c.requires)

pub append_threads-requires : goal.append_threads-requires
append_threads-requires c =
    subst (λ b. ThreadsLeadTo b (thread_rows c.args.kept.now) c.args.kept.now) (sym c.set_keys.ensures) (threads_begin c.args.kept.now c.known.ensures)

pub append_waits-requires : goal.append_waits-requires
append_waits-requires c = waits_begin c.append_threads.new.threads c.args.kept.now c.append_threads.ensures

pub place_all-requires : goal.place_all-requires
place_all-requires c = harts_begin c.append_waits.new.threads c.args.kept.now c.append_waits.ensures
