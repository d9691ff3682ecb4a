use Rattle.std.proofs.Common.{◌≡◌, [], ◌∷◌, ◌++◌, refl, sym, ap, ◌∙◌, append_assoc}
use Rattle.std.specs.List.{flat_map}
use Rattle.ckrt_thread.specs.Keys.{all_keys}
use Rattle.ckrt_thread.specs.Contents.{thread_rows, empty}
use Rattle.ckrt_tables.specs.Records.{flag, counted, one_byte, two_bytes, hart_bytes, thread_bytes, wait_bytes, mutex_bytes, barrier_bytes, rwlock_bytes, keys_bytes}
use Rattle.ckrt_tables.specs.Encoding.{status_bytes, queue_bytes}
use Rattle.ckrt_tables.specs.DecodingThreads.{threads_bytes}
use Rattle.ckrt_tables.proofs.Few.{few}
use Rattle.ckrt_tables.proofs.ThreadsRead.{set_whole}
use Rattle.ckrt_tables.proofs.Distinct.{same_tables, threads_without_data, keys_off_in}
use Rattle.ckrt_tables.proofs.decoding.read_tables.Goals as goal

pub returns-clause-found : goal.returns-clause-found
returns-clause-found c = λ s is.
    let t = s.tables in
    let can = is.savable in
    let well = can.well_formed in
    let fit = can.fit in
    let at_most = few t well in
    let p5 = queue_bytes s.held ++ [] in
    let p4 = queue_bytes t.input ++ p5 in
    let pk = keys_bytes c.args.version t.threads.keys ++ p4 in
    let p3 = counted one_byte rwlock_bytes t.rwlocks ++ pk in
    let p2 = counted one_byte barrier_bytes t.barriers ++ p3 in
    let p1 = counted two_bytes mutex_bytes t.mutexes ++ p2 in
    let hs = flat_map hart_bytes t.threads.harts in
    let ts = counted one_byte (thread_bytes c.args.version) (thread_rows t.threads) in
    let ws = counted one_byte wait_bytes t.threads.waits in
    let joined : hs ++ (ts ++ (ws ++ p1)) ≡ threads_bytes c.args.version t.threads ++ p1 = sym (append_assoc hs (ts ++ ws) p1 ∙ ap (λ l. hs ++ l) (append_assoc ts ws p1)) in
    let clock = c.long-tables.ensures t.clock (flag 1 t.closed ∷ (status_bytes t.status ++ (hs ++ (ts ++ (ws ++ p1))))) fit.clock (c.new-cursor.ensures ∙ is.encoded) in
    let closed = c.read_mark-tables.ensures t.closed (status_bytes t.status ++ (hs ++ (ts ++ (ws ++ p1)))) refl clock.1 in
    let status = c.read_status-tables.ensures t.status (hs ++ (ts ++ (ws ++ p1))) fit.status closed.1 in
    let begun : c.args.tables.now.threads ≡ empty all_keys t.threads.hart_count = c.requires.begun.threads ∙ ap (empty all_keys) (sym can.hart_count) in
    let threads = c.read_threads.ensures t.threads p1 (record { well_formed = well.threads; harts_fit = fit.harts; slots_fit = fit.threads; waits_fit = fit.waits; said = λ v. threads_without_data t (can.said v) }) begun (status.1 ∙ joined) in
    let mutexes = c.read_mutexes.ensures t.mutexes p2 (record { table = record { table = well.mutexes.table; size = at_most.mutexes }; fit = fit.mutexes }) threads.1 in
    let barriers = c.read_barriers.ensures t.barriers p3 (record { table = well.barriers.table; fit = fit.barriers }) mutexes.1 in
    let rwlocks = c.read_rwlocks.ensures t.rwlocks pk (record { table = record { table = well.rwlocks.table; size = at_most.rwlocks }; fit = fit.rwlocks }) barriers.1 in
    let keys = c.read_keys-keys.ensures t.threads.keys p4 (record { proper = well.threads.proper_keys; fit = fit.keys; said = λ v. keys_off_in t (can.said v) }) rwlocks.1 in
    let input = c.read_input.ensures t.input p5 at_most.input keys.1 in
    let whole = set_whole t.threads c.read_keys-keys.result c.read_threads.new.threads c.set_keys.result c.set_keys.new.self well.threads keys.0 threads.0 c.set_keys.ensures.exact c.set_keys.ensures.set in
    let held = c.read_held.ensures.found s.held [] can.is_held input.1 in (
      same_tables (record {
        threads = c.set_keys.new.self;
        mutexes = c.read_mutexes.new.mutexes;
        barriers = c.read_barriers.new.barriers;
        rwlocks = c.read_rwlocks.new.rwlocks;
        clock = c.long-tables.result;
        input = c.read_input.new.input;
        closed = c.read_mark-tables.result;
        status = c.read_status-tables.result;
      }) t whole mutexes.0 barriers.0 rwlocks.0 clock.0 input.0 closed.0 status.0,
      held.0,
    )
