use Rattle.ckrt_hunt_schedules.proofs.TimeLemmas.{no_time, some_time}
use Rattle.ckrt_hunt_schedules.proofs.onlooker.is_over.Goals as goal

pub returns-then-may_end-clause-over : goal.returns-then-may_end-clause-over
returns-then-may_end-clause-over g c = λ over. (c.if-may_end.true, no_time (g.O.HuntOnlooker.Answers c.args.seed) c.has_time-has_time.result over c.has_time-has_time.ensures)

pub returns-then-may_end-clause-on : goal.returns-then-may_end-clause-on
returns-then-may_end-clause-on g c = λ on may. some_time (g.O.HuntOnlooker.Answers c.args.seed) c.has_time-has_time.result on c.has_time-has_time.ensures
