use Rattle.ckrt_gdb_playback.proofs.MotionLemmas.{stepped_on}
use Rattle.ckrt_gdb_playback.proofs.going.go_step.Goals as goal

pub returns-clause-moved : goal.returns-clause-moved
returns-clause-moved c =
    let end = c.end_on-end in let told = c.told_on in
    stepped_on c.args.bounds c.args.stops.now end.result c.args.history.now c.step_on-found.new.history told.new.history c.step_on-found.result c.args.thread c.has_moved-has_moved.result told.result
    end.ensures.end told.ensures.history (cc) told.ensures.told c.args.thread c.step_on-found.ensures.stepped
