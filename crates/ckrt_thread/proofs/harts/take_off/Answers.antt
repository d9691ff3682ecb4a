use Rattle.std.proofs.Common.{◌<◌, length, None, arith}
use Rattle.std.proofs.lemmas.List.{get_or_default}
use Rattle.std.proofs.lemmas.List.Edits.{map_over_more}
use Rattle.ckrt_thread.specs.State.{off}
use Rattle.ckrt_thread.proofs.harts.take_off.Goals as goal

pub loop-hart-preserved : goal.loop-hart-preserved
loop-hart-preserved c =
    let within : c.loop-hart.hart-index < length c.loop-hart.harts = omega arith in
    let here : c.loop-hart.hart-index < length c.args.harts.now = omega arith in
    rw c.hart_without.ensures (map_over_more (off c.args.thread) c.args.harts.now c.loop-hart.harts c.loop-hart.hart-index _ here c.loop-hart.invariant (get_or_default c.loop-hart.harts c.loop-hart.hart-index None _ within))
