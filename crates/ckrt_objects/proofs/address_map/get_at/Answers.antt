use Rattle.std.proofs.Common.{arith, sym, ◌∙◌}
use Rattle.ckrt_objects.proofs.AddressMap.{entry_within, lookup_there, lookup_nowhere}
use Rattle.ckrt_objects.proofs.address_map.get_at.Goals as goal

pub bounds-entries-place : goal.bounds-entries-place
bounds-entries-place g c =
    let within = entry_within c.args.address c.args.entries.now _ (sym c.is_entry_at.ensures ∙ c.if-is_entry_at.true) in
    omega arith

pub bounds-entries-place-then-is_entry_at : goal.bounds-entries-place-then-is_entry_at
bounds-entries-place-then-is_entry_at g c =
    let within = entry_within c.args.address c.args.entries.now _ (sym c.is_entry_at.ensures ∙ c.if-is_entry_at.true) in
    omega arith

pub returns-then-is_entry_at : goal.returns-then-is_entry_at
returns-then-is_entry_at g c =
    sym (lookup_there c.args.address c.args.entries.now c.args.place c.index-entries-place.result c.requires.place (sym c.is_entry_at.ensures ∙ c.if-is_entry_at.true))

pub returns-else-is_entry_at : goal.returns-else-is_entry_at
returns-else-is_entry_at g c =
    sym (lookup_nowhere c.args.address c.args.entries.now c.args.place c.requires.rising c.requires.place (sym c.is_entry_at.ensures ∙ c.if-is_entry_at.false))
