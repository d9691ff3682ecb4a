use Rattle.ckrt_gdb_playback.proofs.MotionLemmas.{moved_back}
use Rattle.ckrt_gdb_playback.proofs.going.go_back_to_stop.Goals as goal

pub returns : goal.returns
returns c =
    let end = c.end_back-end in let told = c.told_back in
    moved_back c.args.bounds c.args.stops.now end.result c.args.history.now c.go_back-found.new.history told.new.history c.go_back-found.result c.args.thread told.result
    end.ensures.end told.ensures.history told.ensures.told c.go_back-found.ensures
