use Rattle.std.proofs.Common.{◌∙◌}
use Rattle.ckrt_tables.proofs.ThreadsRead.{hart_leads, idle_leads}
use Rattle.ckrt_stored.proofs.threads.place_on.Goals as goal

pub returns-in-Some : goal.returns-in-Some
returns-in-Some c = λ end lt next.
    hart_leads c.args.threads.now c.append_on_hart.new.self c.args.hart c.in-Some.thread c.append_on_hart.result c.known.ensures c.append_on_hart.ensures.exact c.append_on_hart.ensures.appended end lt (next ∙ c.in-Some.is)

pub returns-in_default : goal.returns-in_default
returns-in_default c = λ end lt next. idle_leads c.args.threads.now end c.args.hart lt (next ∙ c.in_default.is)
