use Rattle.std.proofs.Common.{refl}
use Rattle.ckrt_mutex.proofs.WellFormed.{well_formed_unwaited}
use Rattle.ckrt_cond.proofs.Rows.{resume_live, resume_free, resume_room, resume_count, conditions_resume}
use Rattle.ckrt_cond.proofs.waiters.resume.Goals as goal

pub retake-requires-clause-live : goal.retake-requires-clause-live
retake-requires-clause-live c = rw c.take_wait.ensures (resume_live c.args.thread c.args.mutex c.args.threads.now c.requires.waiting c.known.ensures)

pub retake-requires-clause-free : goal.retake-requires-clause-free
retake-requires-clause-free c = rw c.take_wait.ensures (resume_free c.args.thread c.args.threads.now c.known.ensures)

pub retake-requires-clause-well_formed : goal.retake-requires-clause-well_formed
retake-requires-clause-well_formed c = rw c.take_wait.ensures (well_formed_unwaited c.args.thread c.args.threads.now _ c.args.mutexes.now refl c.requires.well_formed)

pub retake-requires-clause-room : goal.retake-requires-clause-room
retake-requires-clause-room c = rw c.take_wait.ensures (resume_room c.args.thread c.args.mutex c.args.threads.now c.requires.waiting c.args.mutexes.now c.requires.well_formed)

pub retake-requires-clause-count : goal.retake-requires-clause-count
retake-requires-clause-count c = resume_count c.args.thread c.args.mutex c.args.threads.now c.requires.waiting c.args.mutexes.now c.requires.well_formed

pub returns-clause-conditions : goal.returns-clause-conditions
returns-clause-conditions c =
    rw (c.retake.ensures.threads, c.take_wait.ensures) (conditions_resume c.args.thread c.args.mutex c.args.outcome c.args.threads.now c.args.mutexes.now c.requires.conditions)
