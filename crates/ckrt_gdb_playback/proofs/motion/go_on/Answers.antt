use Rattle.ckrt_gdb_playback.proofs.MotionLemmas.{went}
use Rattle.ckrt_gdb_playback.proofs.motion.go_on.Goals as goal

pub returns : goal.returns
returns c =
    let x = c.forward.new.self in
    went c.args.stops.now c.args.last c.args.history.now x c.halt.new.history c.halt.result c.forward.ensures.history
    (c.forward.ensures.found c.if-not-forward.false) c.halt.ensures
