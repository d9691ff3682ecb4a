use Rattle.ckrt_machine.proofs.ending.end_burst.Goals as goal

pub returns-in-Call-clause-tables : goal.returns-in-Call-clause-tables
returns-in-Call-clause-tables c = λ m. rw c.in-Call.is (c.make_call.ensures.tables m)
