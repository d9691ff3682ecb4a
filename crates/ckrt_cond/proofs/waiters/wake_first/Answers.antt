use Rattle.std.proofs.Common.{refl, sym, ap, ◌∙◌}
use Rattle.ckrt_thread.specs.declared.records.RetakeResult.TheVariants as retake
use Rattle.ckrt_mutex.proofs.WellFormed.{well_formed_unwaited}
use Rattle.ckrt_cond.proofs.Rows.{resume_room, resume_count, conditions_resume}
use Rattle.ckrt_cond.proofs.Woken.{taken_unwaited, taken_may_resume, taken_condition, taken_queue, taken_signal, untaken, untaken_queue, untaken_signal}
use Rattle.ckrt_cond.proofs.waiters.wake_first.Goals as goal

pub returns-in_default-clause-queue : goal.returns-in_default-clause-queue
returns-in_default-clause-queue c = rw c.wake_first.ensures.threads (untaken_queue c.args.condition c.args.threads.now c.in_default.ensures.first)

pub returns-in_default-clause-threads : goal.returns-in_default-clause-threads
returns-in_default-clause-threads c =
    c.wake_first.ensures.threads ∙ untaken c.args.condition c.args.threads.now c.in_default.ensures.first
    ∙ sym (ap (λ r. r.threads) (untaken_signal c.args.condition c.args.threads.now c.in_default.ensures.first c.args.mutexes.now))

pub returns-in_default-clause-mutexes : goal.returns-in_default-clause-mutexes
returns-in_default-clause-mutexes c =
    sym (ap (λ r. r.mutexes) (untaken_signal c.args.condition c.args.threads.now c.in_default.ensures.first c.args.mutexes.now))

pub retake-requires-clause-well_formed : goal.retake-requires-clause-well_formed
retake-requires-clause-well_formed c =
    rw (c.wake_first.ensures.threads, taken_unwaited c.args.condition c.args.threads.now c.in-Some.first c.in-Some.ensures.first)
    (well_formed_unwaited c.in-Some.first.thread c.args.threads.now _ c.args.mutexes.now refl c.requires.well_formed)

pub retake-requires-clause-room : goal.retake-requires-clause-room
retake-requires-clause-room c =
    let may = taken_may_resume c.args.condition c.args.threads.now c.in-Some.first c.in-Some.ensures.first c.in-Condition.field-0 c.in-Condition.mutex c.in-Condition.is in
    rw (c.wake_first.ensures.threads, taken_unwaited c.args.condition c.args.threads.now c.in-Some.first c.in-Some.ensures.first)
    (resume_room c.in-Some.first.thread c.in-Condition.mutex c.args.threads.now may c.args.mutexes.now c.requires.well_formed)

pub retake-requires-clause-count : goal.retake-requires-clause-count
retake-requires-clause-count c =
    let may = taken_may_resume c.args.condition c.args.threads.now c.in-Some.first c.in-Some.ensures.first c.in-Condition.field-0 c.in-Condition.mutex c.in-Condition.is in
    resume_count c.in-Some.first.thread c.in-Condition.mutex c.args.threads.now may c.args.mutexes.now c.requires.well_formed

pub returns-in-Condition-clause-conditions : goal.returns-in-Condition-clause-conditions
returns-in-Condition-clause-conditions c =
    rw (c.retake.ensures.threads, c.wake_first.ensures.threads, taken_unwaited c.args.condition c.args.threads.now c.in-Some.first c.in-Some.ensures.first)
    (conditions_resume c.in-Some.first.thread c.in-Condition.mutex retake.Done c.args.threads.now c.args.mutexes.now c.requires.conditions)

pub returns-in-Condition-clause-queue : goal.returns-in-Condition-clause-queue
returns-in-Condition-clause-queue c =
    rw (c.retake.ensures.threads, c.wake_first.ensures.threads, taken_unwaited c.args.condition c.args.threads.now c.in-Some.first c.in-Some.ensures.first)
    (taken_queue c.args.condition c.args.threads.now c.in-Some.first c.in-Some.ensures.first c.in-Condition.mutex c.args.mutexes.now c.known.ensures)

pub returns-in-Condition-clause-threads : goal.returns-in-Condition-clause-threads
returns-in-Condition-clause-threads c =
    rw (c.retake.ensures.threads, c.wake_first.ensures.threads, taken_unwaited c.args.condition c.args.threads.now c.in-Some.first c.in-Some.ensures.first)
    (sym (ap (λ r. r.threads) (taken_signal c.args.condition c.args.threads.now c.in-Some.first c.in-Some.ensures.first c.in-Condition.field-0 c.in-Condition.mutex c.args.mutexes.now c.known.ensures c.in-Condition.is)))

pub returns-in-Condition-clause-mutexes : goal.returns-in-Condition-clause-mutexes
returns-in-Condition-clause-mutexes c =
    rw (c.retake.ensures.mutexes, c.wake_first.ensures.threads, taken_unwaited c.args.condition c.args.threads.now c.in-Some.first c.in-Some.ensures.first)
    (sym (ap (λ r. r.mutexes) (taken_signal c.args.condition c.args.threads.now c.in-Some.first c.in-Some.ensures.first c.in-Condition.field-0 c.in-Condition.mutex c.args.mutexes.now c.known.ensures c.in-Condition.is)))

pub returns-in_default-reason : goal.returns-in_default-reason
returns-in_default-reason c =
    let r = taken_condition c.args.condition c.args.threads.now c.in-Some.first c.in-Some.ensures.first in
    absurd (c.in_default-reason.not-Condition c.args.condition r.0 r.1)
