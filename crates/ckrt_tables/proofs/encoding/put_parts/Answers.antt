use Rattle.std.proofs.Common.{◌∷◌, [], drop, subst, sym, ap, length, arith}
use Rattle.std.specs.List.{flat_map, concat}
use Rattle.std.proofs.lemmas.List.{append-nil}
use Rattle.byteorder.specs.Endian.{little_bytes}
use Rattle.ckrt_thread.specs.Contents.{thread_rows}
use Rattle.ckrt_tables.specs.Records.{flag, counted, one_byte, two_bytes, hart_bytes, thread_bytes, wait_bytes, mutex_bytes, barrier_bytes, rwlock_bytes, keys_bytes}
use Rattle.ckrt_tables.specs.Encoding.{status_bytes, queue_bytes, parts_of}
use Rattle.ckrt_tables.specs.Writing.{IsPut}
use Rattle.ckrt_tables.proofs.Puts.{put_next}
use Rattle.ckrt_tables.proofs.Lengths.{encoding_length}
use Rattle.ckrt_tables.proofs.encoding.put_parts.Goals as goal

pub put_clock-clock-requires : goal.put_clock-clock-requires
put_clock-clock-requires c = omega (arith, encoding_length c.args.version c.args.tables.now c.args.held.now.items, c.requires.room)

pub put_closed-closed-requires : goal.put_closed-closed-requires
put_closed-closed-requires c = omega (arith, encoding_length c.args.version c.args.tables.now c.args.held.now.items, c.requires.room, c.put_clock-clock.ensures.size, c.put_clock-clock.auto.out)

pub put_status-status-requires : goal.put_status-status-requires
put_status-status-requires c = omega (arith, encoding_length c.args.version c.args.tables.now c.args.held.now.items, c.requires.room, c.put_clock-clock.ensures.size, c.put_clock-clock.auto.out, c.put_closed-closed.ensures.size, c.put_closed-closed.auto.out)

pub put_harts-harts-requires : goal.put_harts-harts-requires
put_harts-harts-requires c = omega (arith, encoding_length c.args.version c.args.tables.now c.args.held.now.items, c.requires.room, c.put_clock-clock.ensures.size, c.put_clock-clock.auto.out, c.put_closed-closed.ensures.size, c.put_closed-closed.auto.out, c.put_status-status.ensures.size, c.put_status-status.auto.out)

pub put_threads-threads-requires : goal.put_threads-threads-requires
put_threads-threads-requires c = omega (arith, encoding_length c.args.version c.args.tables.now c.args.held.now.items, c.requires.room, c.put_clock-clock.ensures.size, c.put_clock-clock.auto.out, c.put_closed-closed.ensures.size, c.put_closed-closed.auto.out, c.put_status-status.ensures.size, c.put_status-status.auto.out, c.put_harts-harts.ensures.size, c.put_harts-harts.auto.out)

pub put_waits-waits-requires : goal.put_waits-waits-requires
put_waits-waits-requires c = omega (arith, encoding_length c.args.version c.args.tables.now c.args.held.now.items, c.requires.room, c.put_clock-clock.ensures.size, c.put_clock-clock.auto.out, c.put_closed-closed.ensures.size, c.put_closed-closed.auto.out, c.put_status-status.ensures.size, c.put_status-status.auto.out, c.put_harts-harts.ensures.size, c.put_harts-harts.auto.out, c.put_threads-threads.ensures.size, c.put_threads-threads.auto.out)

pub put_mutexes-mutexes-requires-clause-room : goal.put_mutexes-mutexes-requires-clause-room
put_mutexes-mutexes-requires-clause-room c = omega (arith, encoding_length c.args.version c.args.tables.now c.args.held.now.items, c.requires.room, c.put_clock-clock.ensures.size, c.put_clock-clock.auto.out, c.put_closed-closed.ensures.size, c.put_closed-closed.auto.out, c.put_status-status.ensures.size, c.put_status-status.auto.out, c.put_harts-harts.ensures.size, c.put_harts-harts.auto.out, c.put_threads-threads.ensures.size, c.put_threads-threads.auto.out, c.put_waits-waits.ensures.size, c.put_waits-waits.auto.out)

pub put_barriers-barriers-requires-clause-room : goal.put_barriers-barriers-requires-clause-room
put_barriers-barriers-requires-clause-room c = omega (arith, encoding_length c.args.version c.args.tables.now c.args.held.now.items, c.requires.room, c.put_clock-clock.ensures.size, c.put_clock-clock.auto.out, c.put_closed-closed.ensures.size, c.put_closed-closed.auto.out, c.put_status-status.ensures.size, c.put_status-status.auto.out, c.put_harts-harts.ensures.size, c.put_harts-harts.auto.out, c.put_threads-threads.ensures.size, c.put_threads-threads.auto.out, c.put_waits-waits.ensures.size, c.put_waits-waits.auto.out, c.put_mutexes-mutexes.ensures.size, c.put_mutexes-mutexes.auto.out)

pub put_rwlocks-rwlocks-requires-clause-room : goal.put_rwlocks-rwlocks-requires-clause-room
put_rwlocks-rwlocks-requires-clause-room c = omega (arith, encoding_length c.args.version c.args.tables.now c.args.held.now.items, c.requires.room, c.put_clock-clock.ensures.size, c.put_clock-clock.auto.out, c.put_closed-closed.ensures.size, c.put_closed-closed.auto.out, c.put_status-status.ensures.size, c.put_status-status.auto.out, c.put_harts-harts.ensures.size, c.put_harts-harts.auto.out, c.put_threads-threads.ensures.size, c.put_threads-threads.auto.out, c.put_waits-waits.ensures.size, c.put_waits-waits.auto.out, c.put_mutexes-mutexes.ensures.size, c.put_mutexes-mutexes.auto.out, c.put_barriers-barriers.ensures.size, c.put_barriers-barriers.auto.out)

pub put_keys-keys-requires : goal.put_keys-keys-requires
put_keys-keys-requires c = (let same = ap (λ k. length (keys_bytes c.args.version k)) c.keys.ensures in omega (arith, encoding_length c.args.version c.args.tables.now c.args.held.now.items, c.requires.room, c.put_clock-clock.ensures.size, c.put_clock-clock.auto.out, c.put_closed-closed.ensures.size, c.put_closed-closed.auto.out, c.put_status-status.ensures.size, c.put_status-status.auto.out, c.put_harts-harts.ensures.size, c.put_harts-harts.auto.out, c.put_threads-threads.ensures.size, c.put_threads-threads.auto.out, c.put_waits-waits.ensures.size, c.put_waits-waits.auto.out, c.put_mutexes-mutexes.ensures.size, c.put_mutexes-mutexes.auto.out, c.put_barriers-barriers.ensures.size, c.put_barriers-barriers.auto.out, c.put_rwlocks-rwlocks.ensures.size, c.put_rwlocks-rwlocks.auto.out, same))

pub put_input-input-requires : goal.put_input-input-requires
put_input-input-requires c = omega (arith, encoding_length c.args.version c.args.tables.now c.args.held.now.items, c.requires.room, c.put_clock-clock.ensures.size, c.put_clock-clock.auto.out, c.put_closed-closed.ensures.size, c.put_closed-closed.auto.out, c.put_status-status.ensures.size, c.put_status-status.auto.out, c.put_harts-harts.ensures.size, c.put_harts-harts.auto.out, c.put_threads-threads.ensures.size, c.put_threads-threads.auto.out, c.put_waits-waits.ensures.size, c.put_waits-waits.auto.out, c.put_mutexes-mutexes.ensures.size, c.put_mutexes-mutexes.auto.out, c.put_barriers-barriers.ensures.size, c.put_barriers-barriers.auto.out, c.put_rwlocks-rwlocks.ensures.size, c.put_rwlocks-rwlocks.auto.out, ap (λ k. length (keys_bytes c.args.version k)) c.keys.ensures, c.put_keys-keys.ensures.size, c.put_keys-keys.auto.out)

pub put_held-requires-clause-room : goal.put_held-requires-clause-room
put_held-requires-clause-room c = omega (arith, encoding_length c.args.version c.args.tables.now c.args.held.now.items, c.requires.room, c.put_clock-clock.ensures.size, c.put_clock-clock.auto.out, c.put_closed-closed.ensures.size, c.put_closed-closed.auto.out, c.put_status-status.ensures.size, c.put_status-status.auto.out, c.put_harts-harts.ensures.size, c.put_harts-harts.auto.out, c.put_threads-threads.ensures.size, c.put_threads-threads.auto.out, c.put_waits-waits.ensures.size, c.put_waits-waits.auto.out, c.put_mutexes-mutexes.ensures.size, c.put_mutexes-mutexes.auto.out, c.put_barriers-barriers.ensures.size, c.put_barriers-barriers.auto.out, c.put_rwlocks-rwlocks.ensures.size, c.put_rwlocks-rwlocks.auto.out, c.put_input-input.ensures.size, c.put_input-input.auto.out, ap (λ k. length (keys_bytes c.args.version k)) c.keys.ensures, c.put_keys-keys.ensures.size, c.put_keys-keys.auto.out)

pub returns : goal.returns
returns c =
    let s = c.args.tables.now in
    let held = c.args.held.now.items in
    let parts = parts_of c.args.version s held in
    let last = c.put_held.new.out in
    let end = c.put_held.result in
    put_next c.args.out.now 0 (little_bytes 8 s.clock) c.put_clock-clock.new.out c.put_clock-clock.result (concat (drop 1 parts)) last end c.put_clock-clock.ensures (
    put_next c.put_clock-clock.new.out c.put_clock-clock.result ((flag 1 s.closed ∷ [])) c.put_closed-closed.new.out c.put_closed-closed.result (concat (drop 2 parts)) last end c.put_closed-closed.ensures (
    put_next c.put_closed-closed.new.out c.put_closed-closed.result (status_bytes s.status) c.put_status-status.new.out c.put_status-status.result (concat (drop 3 parts)) last end c.put_status-status.ensures (
    put_next c.put_status-status.new.out c.put_status-status.result (flat_map hart_bytes s.threads.harts) c.put_harts-harts.new.out c.put_harts-harts.result (concat (drop 4 parts)) last end c.put_harts-harts.ensures (
    put_next c.put_harts-harts.new.out c.put_harts-harts.result (counted one_byte (thread_bytes c.args.version) (thread_rows s.threads)) c.put_threads-threads.new.out c.put_threads-threads.result (concat (drop 5 parts)) last end c.put_threads-threads.ensures (
    put_next c.put_threads-threads.new.out c.put_threads-threads.result (counted one_byte wait_bytes s.threads.waits) c.put_waits-waits.new.out c.put_waits-waits.result (concat (drop 6 parts)) last end c.put_waits-waits.ensures (
    put_next c.put_waits-waits.new.out c.put_waits-waits.result (counted two_bytes mutex_bytes s.mutexes) c.put_mutexes-mutexes.new.out c.put_mutexes-mutexes.result (concat (drop 7 parts)) last end c.put_mutexes-mutexes.ensures (
    put_next c.put_mutexes-mutexes.new.out c.put_mutexes-mutexes.result (counted one_byte barrier_bytes s.barriers) c.put_barriers-barriers.new.out c.put_barriers-barriers.result (concat (drop 8 parts)) last end c.put_barriers-barriers.ensures (
    put_next c.put_barriers-barriers.new.out c.put_barriers-barriers.result (counted one_byte rwlock_bytes s.rwlocks) c.put_rwlocks-rwlocks.new.out c.put_rwlocks-rwlocks.result (concat (drop 9 parts)) last end c.put_rwlocks-rwlocks.ensures (
    put_next c.put_rwlocks-rwlocks.new.out c.put_rwlocks-rwlocks.result (keys_bytes c.args.version s.threads.keys) c.put_keys-keys.new.out c.put_keys-keys.result (concat (drop 10 parts)) last end (subst (λ k. IsPut c.put_rwlocks-rwlocks.new.out c.put_rwlocks-rwlocks.result (keys_bytes c.args.version k) c.put_keys-keys.new.out c.put_keys-keys.result) c.keys.ensures c.put_keys-keys.ensures) (
    put_next c.put_keys-keys.new.out c.put_keys-keys.result (queue_bytes s.input) c.put_input-input.new.out c.put_input-input.result (concat (drop 11 parts)) last end c.put_input-input.ensures (
    subst (λ b. IsPut c.put_input-input.new.out c.put_input-input.result b last end) (sym (append-nil (queue_bytes held))) c.put_held.ensures)))))))))))
