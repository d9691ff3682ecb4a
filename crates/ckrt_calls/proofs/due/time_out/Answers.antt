use Rattle.ckrt_calls.proofs.Ticks.{found_waiting, found_resumes}
use Rattle.ckrt_calls.proofs.due.time_out.Goals as goal

pub wake-requires : goal.wake-requires
wake-requires c = found_waiting c.args.tables.now.threads c.args.wait.now c.requires.found

pub wake-requires-in_default : goal.wake-requires-in_default
wake-requires-in_default c = found_waiting c.args.tables.now.threads c.args.wait.now c.requires.found

pub resume-requires-clause-waiting : goal.resume-requires-clause-waiting
resume-requires-clause-waiting c = found_resumes c.args.wait.now c.in-Condition.field-0 c.in-Condition.mutex c.args.tables.now.threads c.requires.found c.in-Condition.is
