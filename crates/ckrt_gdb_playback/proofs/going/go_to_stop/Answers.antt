use Rattle.ckrt_gdb_playback.proofs.MotionLemmas.{moved_on}
use Rattle.ckrt_gdb_playback.proofs.going.go_to_stop.Goals as goal

pub returns : goal.returns
returns c =
    let end = c.end_on-end in let told = c.told_on in
    moved_on c.args.bounds c.args.stops.now end.result c.args.history.now c.go_on-found.new.history told.new.history c.go_on-found.result c.args.thread c.has_moved-has_moved.result told.result
    end.ensures.end told.ensures.history (cc) told.ensures.told c.go_on-found.ensures
