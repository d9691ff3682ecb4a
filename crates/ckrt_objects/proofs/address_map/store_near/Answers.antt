use Rattle.std.proofs.Common.{sym, ◌∙◌}
use Rattle.ckrt_objects.proofs.AddressMap.{place_stored}
use Rattle.ckrt_objects.proofs.address_map.store_near.Goals as goal

pub returns-clause-place : goal.returns-clause-place
returns-clause-place g c =
    let p = rw c.as_slice.ensures.value at c.place_near-place.ensures.place in
    rw c.store_at.ensures (p ∙ sym (place_stored c.args.address c.args.value c.args.entries.now.items))
