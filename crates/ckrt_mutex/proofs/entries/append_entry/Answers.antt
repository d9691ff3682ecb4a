use Rattle.std.proofs.Common.{◌≡◌, rules, true, false}
use Rattle.ckrt_mutex.specs.Mutex.{is_plain, is_proper, kept}
use Rattle.ckrt_mutex.proofs.Kept.{entries_kept}
use Rattle.ckrt_mutex.proofs.Appended.{entries_last, appends_first, appends_second}
use Rattle.ckrt_mutex.proofs.entries.append_entry.Goals as goal

pub returns-then-append-clause-appends : goal.returns-then-append-clause-appends
returns-then-append-clause-appends c =
    let plain : is_plain c.args.entry.value ≡ false = cc in
    let proper : is_proper c.args.entry.value ≡ true = cc in
    let taken = c.append.ensures.exact.0 c.if-append.true in
    appends_first c.args.entry c.args.entries.now.items c.append.new.entries.items c.requires.entries plain proper taken (c.append.ensures.appended c.if-append.true)

pub append-requires-2 : goal.append-requires-2
append-requires-2 c =
    let left : c.kept_of-left.result.items ≡ kept c.args.entries.now.items = cc (c.append.ensures.refused c.if-append.false) in
    (search rules, rw left (entries_kept _ c.requires.entries).rising)

pub returns-clause-entries : goal.returns-clause-entries
returns-clause-entries c =
    let left : c.kept_of-left.result.items ≡ kept c.args.entries.now.items = cc (c.append.ensures.refused c.if-append.false) in
    let proper : is_proper c.args.entry.value ≡ true = cc in
    let taken = c.append-2.ensures.exact.0 c.if-not-append.false in
    rw (c.append-2.ensures.appended c.if-not-append.false)
    (entries_last c.args.entry c.kept_of-left.result.items (rw left (entries_kept _ c.requires.entries)) proper taken.table)

pub returns-clause-appends : goal.returns-clause-appends
returns-clause-appends c =
    let left : c.kept_of-left.result.items ≡ kept c.args.entries.now.items = cc (c.append.ensures.refused c.if-append.false) in
    let plain : is_plain c.args.entry.value ≡ false = cc in
    let proper : is_proper c.args.entry.value ≡ true = cc in
    let taken = c.append-2.ensures.exact.0 c.if-not-append.false in
    appends_second c.args.entry c.args.entries.now.items c.kept_of-left.result.items c.append-2.new.entries.items c.requires.entries left plain proper taken
    (c.append-2.ensures.appended c.if-not-append.false)
