use Rattle.std.proofs.Common.{rules, sym, ◌∙◌}
use Rattle.ckrt_objects.proofs.AddressMap.{entry_within, removed_there, removed_nowhere}
use Rattle.ckrt_objects.proofs.address_map.remove.Goals as goal

pub place_of-place-requires : goal.place_of-place-requires
place_of-place-requires g c = rw c.as_slice.ensures.value c.requires

pub remove-requires : goal.remove-requires
remove-requires g c =
    let e = rw c.as_slice-2.ensures.value at (sym c.is_entry_at.ensures ∙ c.if-is_entry_at.true) in
    (search rules, entry_within c.args.address c.args.entries.now.items c.place_of-place.result e)

pub returns-then-is_entry_at : goal.returns-then-is_entry_at
returns-then-is_entry_at g c =
    let p = rw c.as_slice.ensures.value at c.place_of-place.ensures.place in
    let e = rw c.as_slice-2.ensures.value at (sym c.is_entry_at.ensures ∙ c.if-is_entry_at.true) in
    cc (removed_there c.args.address c.args.entries.now.items c.place_of-place.result p e)

pub returns-else-is_entry_at : goal.returns-else-is_entry_at
returns-else-is_entry_at g c =
    let p = rw c.as_slice.ensures.value at c.place_of-place.ensures.place in
    let e = rw c.as_slice-2.ensures.value at (sym c.is_entry_at.ensures ∙ c.if-is_entry_at.false) in
    sym (removed_nowhere c.args.address c.args.entries.now.items c.place_of-place.result c.requires p e)
