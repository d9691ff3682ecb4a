use Rattle.ckrt_gdb_playback.proofs.MotionLemmas.{stepped_back}
use Rattle.ckrt_gdb_playback.proofs.going.go_back_step.Goals as goal

pub returns-clause-moved : goal.returns-clause-moved
returns-clause-moved c =
    let end = c.end_back-end in let told = c.told_back in
    stepped_back c.args.bounds c.args.stops.now end.result c.args.history.now c.step_back-found.new.history told.new.history c.step_back-found.result c.args.thread told.result
    end.ensures.end told.ensures.history c.args.thread told.ensures.told c.step_back-found.ensures.went
