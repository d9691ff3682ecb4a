use Rattle.ckrt_gdb_forms.proofs.reply.push_cause.Goals as goal

pub returns-in-Begin-clause-done : goal.returns-in-Begin-clause-done
returns-in-Begin-clause-done c = rw c.in-Begin.is c.push.ensures.done
