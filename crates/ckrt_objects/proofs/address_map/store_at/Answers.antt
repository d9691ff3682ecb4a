use Rattle.std.proofs.Common.{rules, refl, sym, ◌∙◌}
use Rattle.ckrt_objects.proofs.AddressMap.{entry_within, room_for_new, stored_new, stored_through}
use Rattle.ckrt_objects.proofs.address_map.store_at.Goals as goal

pub bounds-deref_mut-place : goal.bounds-deref_mut-place
bounds-deref_mut-place g c =
    let e = rw c.as_slice.ensures.value at (sym c.is_entry_at.ensures ∙ c.if-is_entry_at.true) in
    rw c.deref_mut.ensures.value (entry_within c.args.address c.args.entries.now.items c.args.place e)

pub insert-requires : goal.insert-requires
insert-requires g c =
    let e = rw c.as_slice.ensures.value at (sym c.is_entry_at.ensures ∙ c.if-is_entry_at.false) in (
      search rules,
      (c.requires.within, room_for_new g.row.N c.args.address c.args.entries.now.items c.args.place c.requires.rising c.requires.place e c.requires.room),
    )

pub returns-then-is_entry_at : goal.returns-then-is_entry_at
returns-then-is_entry_at g c =
    stored_through c.args.address c.args.value c.args.entries.now.items c.args.entries.now.items c.as_slice.result.now c.deref_mut.result.now _ refl c.as_slice.ensures.value c.deref_mut.ensures.value c.requires.place (sym c.is_entry_at.ensures ∙ c.if-is_entry_at.true)

pub returns-else-is_entry_at : goal.returns-else-is_entry_at
returns-else-is_entry_at g c =
    let e = rw c.as_slice.ensures.value at (sym c.is_entry_at.ensures ∙ c.if-is_entry_at.false) in
    cc (stored_new c.args.address c.args.value c.args.entries.now.items c.args.place c.requires.place e)
