use Rattle.std.proofs.Common.{◌≡◌, ◌+◌, sym, Some, None, subst}
use Rattle.std.specs.List.{position}
use Rattle.ckrt_thread.specs.Queues.{is_queue_of, ends_of, total, no_ends, IsWithEnds}
use Rattle.ckrt_thread.proofs.Directory.{remove_removed, kept_removed, removed_directory, removed_ends, removed_total}
use Rattle.ckrt_thread.proofs.queues.forget_ends.Goals as goal

pub returns-in_default-clause-ends : goal.returns-in_default-clause-ends
returns-in_default-clause-ends c =
    let o = c.args.object in let qs = c.args.directory.now.items in
    let n : position (is_queue_of c.args.object) c.args.directory.now.items ≡ None = rw (← c.as_slice.ensures.value) (sym c.in_default.ensures) in
    subst (λ q. IsWithEnds c.args.object no_ends c.args.directory.now.items q) (sym (kept_removed o qs n)) (removed_ends o qs c.requires.directory)

pub returns-in_default-clause-total : goal.returns-in_default-clause-total
returns-in_default-clause-total c =
    let o = c.args.object in let qs = c.args.directory.now.items in
    let n : position (is_queue_of c.args.object) c.args.directory.now.items ≡ None = rw (← c.as_slice.ensures.value) (sym c.in_default.ensures) in
    subst (λ q. total q + (ends_of c.args.object c.args.directory.now.items).count ≡ total c.args.directory.now.items) (sym (kept_removed o qs n)) (removed_total o qs)

pub returns-clause-directory : goal.returns-clause-directory
returns-clause-directory c =
    let o = c.args.object in let qs = c.args.directory.now.items in
    let n : position (is_queue_of c.args.object) c.args.directory.now.items ≡ Some c.in-Some.place = rw (← c.as_slice.ensures.value) (sym c.in-Some.ensures) in
    rw (c.remove.ensures.items, remove_removed o qs c.in-Some.place n) (removed_directory o qs c.requires.directory)

pub returns-clause-ends : goal.returns-clause-ends
returns-clause-ends c =
    let o = c.args.object in let qs = c.args.directory.now.items in
    let n : position (is_queue_of c.args.object) c.args.directory.now.items ≡ Some c.in-Some.place = rw (← c.as_slice.ensures.value) (sym c.in-Some.ensures) in
    rw (c.remove.ensures.items, remove_removed o qs c.in-Some.place n) (removed_ends o qs c.requires.directory)

pub returns-clause-total : goal.returns-clause-total
returns-clause-total c =
    let o = c.args.object in let qs = c.args.directory.now.items in
    let n : position (is_queue_of c.args.object) c.args.directory.now.items ≡ Some c.in-Some.place = rw (← c.as_slice.ensures.value) (sym c.in-Some.ensures) in
    rw (c.remove.ensures.items, remove_removed o qs c.in-Some.place n) (removed_total o qs)
