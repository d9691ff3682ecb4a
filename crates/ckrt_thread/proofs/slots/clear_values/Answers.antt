use Rattle.std.proofs.Common.{◌<◌, length, arith}
use Rattle.std.proofs.lemmas.List.{get_or_default}
use Rattle.std.proofs.lemmas.List.Edits.{map_over_more}
use Rattle.ckrt_thread.specs.State.{change_live}
use Rattle.ckrt_thread.specs.Keys.{setting}
use Rattle.ckrt_thread.proofs.slots.clear_values.Goals as goal

pub loop-slot-preserved : goal.loop-slot-preserved
loop-slot-preserved c =
    let within : c.loop-slot.slot-index < length c.loop-slot.slots = omega arith in
    let here : c.loop-slot.slot-index < length c.args.slots.now = omega arith in
    rw c.clear_value.ensures (map_over_more (change_live (setting c.args.key 0)) c.args.slots.now c.loop-slot.slots c.loop-slot.slot-index _ here c.loop-slot.invariant (get_or_default c.loop-slot.slots c.loop-slot.slot-index c.slot-item.result _ within))
