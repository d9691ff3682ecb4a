use Rattle.std.proofs.Common.{sym}
use Rattle.ckrt_cancel.proofs.Kept.{found_may_resume, mutexes_interrupted, conditions_interrupted}
use Rattle.ckrt_cancel.proofs.requests.request_enabled.Goals as goal

pub interrupt_at_condition-requires-clause-waiting : goal.interrupt_at_condition-requires-clause-waiting
interrupt_at_condition-requires-clause-waiting c =
    found_may_resume c.args.thread c.in-Condition.field-0 c.in-Condition.mutex c.in-Some.wait c.args.threads.now (sym c.in-Some.ensures) c.in-Condition.is

pub returns-in-Input-clause-well_formed : goal.returns-in-Input-clause-well_formed
returns-in-Input-clause-well_formed c = rw c.interrupt.ensures (mutexes_interrupted c.args.mutexes.now c.args.thread c.args.threads.now c.requires.well_formed)

pub returns-in-Input-clause-conditions : goal.returns-in-Input-clause-conditions
returns-in-Input-clause-conditions c = rw c.interrupt.ensures (conditions_interrupted c.args.thread c.args.threads.now c.requires.conditions)
