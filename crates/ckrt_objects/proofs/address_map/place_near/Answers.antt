use Rattle.std.proofs.Common.{arith, sym, ◌∙◌}
use Rattle.ckrt_objects.proofs.AddressMap.{entry_within, entry_is_placed}
use Rattle.ckrt_objects.proofs.address_map.place_near.Goals as goal

pub returns-then-is_entry_at-clause-place : goal.returns-then-is_entry_at-clause-place
returns-then-is_entry_at-clause-place g c =
    entry_is_placed c.args.address c.args.entries.now c.args.near c.requires (sym c.is_entry_at.ensures ∙ c.if-is_entry_at.true)

pub returns-then-is_entry_at-clause-within : goal.returns-then-is_entry_at-clause-within
returns-then-is_entry_at-clause-within g c =
    let within = entry_within c.args.address c.args.entries.now c.args.near (sym c.is_entry_at.ensures ∙ c.if-is_entry_at.true) in
    omega arith
