use Rattle.std.proofs.Common.{sym, ◌∙◌}
use Rattle.std.proofs.lemmas.Bool.{false≢true}
use Rattle.ckrt_gdb_playback.specs.Motions.{IsStepping}
use Rattle.ckrt_gdb_playback.proofs.MotionLemmas.{stepped, stopped}
use Rattle.ckrt_gdb_playback.proofs.motion.step_on.Goals as goal

pub returns-clause-stepped : goal.returns-clause-stepped
returns-clause-stepped c =
    let there = c.go_to_step-found in
    stepped c.args.thread c.args.stops.now c.args.last c.args.history.now there.new.history there.result there.ensures.went
    there.new.stops c.step_forward.new.self c.halt_behind.new.history c.halt_behind.result there.ensures.stops c.step_forward.ensures
    (c.is_stepping.ensures.0 c.if-not-is_stepping.false) c.halt_behind.ensures

pub returns-then-not-is_stepping-clause-stepped : goal.returns-then-not-is_stepping-clause-stepped
returns-then-not-is_stepping-clause-stepped c =
    let there = c.go_to_step-found in
    let never = λ (on : IsStepping c.args.thread c.go_to_step-found.new.history c.go_to_step-found.result). false≢true (sym c.if-not-is_stepping.true ∙ c.is_stepping.ensures.1 on) in
    stopped c.args.thread c.args.stops.now c.args.last c.args.history.now there.new.history there.result there.ensures.went never
