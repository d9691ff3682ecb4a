use Rattle.std.proofs.Common.{◌<◌, ◌∷◌, [], ◌++◌, length, subst, ap, arith}
use Rattle.std.specs.List.{flat_map}
use Rattle.std.proofs.lemmas.List.{take_all}
use Rattle.ckrt_thread.specs.Contents.{thread_rows, rows_of, rows_from}
use Rattle.ckrt_tables.specs.Records.{thread_bytes}
use Rattle.ckrt_tables.specs.Writing.{IsPut}
use Rattle.ckrt_tables.proofs.Rows.{at_place}
use Rattle.ckrt_tables.proofs.Slots.{put_thread_next, room_thread_next}
use Rattle.ckrt_tables.proofs.threads.put_threads.Goals as goal

pub put_slot-end-requires : goal.put_slot-end-requires
put_slot-end-requires c =
    let ts = c.args.threads.now.threads in
    let head = length (thread_rows c.args.threads.now) ∷ [] in
    let within : c.loop-id.id < length ts = omega (arith, c.known.ensures.size, c.loop-id-test.true) in
    let room = room_thread_next c.args.version c.args.out.now c.args.at head ts c.loop-id.id c.loop-id.out c.loop-id.end within c.loop-id.invariant c.requires in
    let same = ap (λ t. length (flat_map (thread_bytes c.args.version) (rows_of c.loop-id.id t))) (at_place ts c.loop-id.id within) in
    omega (arith, room, same, c.loop-id.auto.out)

pub loop-id-preserved : goal.loop-id-preserved
loop-id-preserved c =
    let ts = c.args.threads.now.threads in
    let head = length (thread_rows c.args.threads.now) ∷ [] in
    let within : c.loop-id.id < length ts = omega (arith, c.known.ensures.size, c.loop-id-test.true) in
    put_thread_next c.args.version c.args.out.now c.args.at head ts c.loop-id.id c.loop-id.out c.loop-id.end c.put_slot-end.new.out c.put_slot-end.result within c.loop-id.invariant
    (subst (λ t. IsPut c.loop-id.out c.loop-id.end (flat_map (thread_bytes c.args.version) (rows_of c.loop-id.id t)) c.put_slot-end.new.out c.put_slot-end.result) (at_place ts c.loop-id.id within) c.put_slot-end.ensures)

pub returns : goal.returns
returns c =
    let head = length (thread_rows c.args.threads.now) ∷ [] in
    let whole = take_all c.loop-id.id c.args.threads.now.threads (omega (arith, c.known.ensures.size, c.loop-id-test.false)) in
    subst (λ l. IsPut c.args.out.now c.args.at (head ++ flat_map (thread_bytes c.args.version) (rows_from 0 l)) c.loop-id.out c.loop-id.end) whole c.loop-id.invariant
