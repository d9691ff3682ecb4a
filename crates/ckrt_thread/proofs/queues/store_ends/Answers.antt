use Rattle.std.proofs.Common.{◌≡◌, sym, rules, Some, None}
use Rattle.std.specs.List.{position}
use Rattle.ckrt_thread.specs.Queues.{is_queue_of}
use Rattle.ckrt_thread.proofs.Directory.{set_through, push_stored, stored_directory, stored_ends, stored_total, no_place_ends}
use Rattle.ckrt_thread.proofs.queues.store_ends.Goals as goal

pub push-requires : goal.push-requires
push-requires c =
    let n : position (is_queue_of c.args.object) c.args.directory.now.items ≡ None = rw (← c.as_slice.ensures.value) (sym c.in-None.ensures) in
    let z = no_place_ends c.args.object c.args.directory.now.items n in
    (search rules, c.requires.room z)

pub returns-in-Some-clause-directory : goal.returns-in-Some-clause-directory
returns-in-Some-clause-directory c =
    let n : position (is_queue_of c.args.object) c.args.directory.now.items ≡ Some c.in-Some.place = rw (← c.as_slice.ensures.value) (sym c.in-Some.ensures) in
    rw (c.deref_mut.ensures.value, set_through c.args.object c.args.ends c.args.directory.now.items c.in-Some.place n) (stored_directory c.args.object c.args.ends c.args.directory.now.items c.requires.filled c.requires.directory)

pub returns-in-Some-clause-ends : goal.returns-in-Some-clause-ends
returns-in-Some-clause-ends c =
    let n : position (is_queue_of c.args.object) c.args.directory.now.items ≡ Some c.in-Some.place = rw (← c.as_slice.ensures.value) (sym c.in-Some.ensures) in
    rw (c.deref_mut.ensures.value, set_through c.args.object c.args.ends c.args.directory.now.items c.in-Some.place n) (stored_ends c.args.object c.args.ends c.args.directory.now.items)

pub returns-in-Some-clause-total : goal.returns-in-Some-clause-total
returns-in-Some-clause-total c =
    let n : position (is_queue_of c.args.object) c.args.directory.now.items ≡ Some c.in-Some.place = rw (← c.as_slice.ensures.value) (sym c.in-Some.ensures) in
    rw (c.deref_mut.ensures.value, set_through c.args.object c.args.ends c.args.directory.now.items c.in-Some.place n) (stored_total c.args.object c.args.ends c.args.directory.now.items)

pub returns-in-None-clause-directory : goal.returns-in-None-clause-directory
returns-in-None-clause-directory c =
    let n : position (is_queue_of c.args.object) c.args.directory.now.items ≡ None = rw (← c.as_slice.ensures.value) (sym c.in-None.ensures) in
    rw (c.push.ensures.items, push_stored c.args.object c.args.ends c.args.directory.now.items n) (stored_directory c.args.object c.args.ends c.args.directory.now.items c.requires.filled c.requires.directory)

pub returns-in-None-clause-ends : goal.returns-in-None-clause-ends
returns-in-None-clause-ends c =
    let n : position (is_queue_of c.args.object) c.args.directory.now.items ≡ None = rw (← c.as_slice.ensures.value) (sym c.in-None.ensures) in
    rw (c.push.ensures.items, push_stored c.args.object c.args.ends c.args.directory.now.items n) (stored_ends c.args.object c.args.ends c.args.directory.now.items)

pub returns-in-None-clause-total : goal.returns-in-None-clause-total
returns-in-None-clause-total c =
    let n : position (is_queue_of c.args.object) c.args.directory.now.items ≡ None = rw (← c.as_slice.ensures.value) (sym c.in-None.ensures) in
    rw (c.push.ensures.items, push_stored c.args.object c.args.ends c.args.directory.now.items n) (stored_total c.args.object c.args.ends c.args.directory.now.items)
