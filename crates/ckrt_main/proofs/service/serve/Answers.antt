use Rattle.std.proofs.Common.{Ok, Err, Result}
use Rattle.std.specs.Prelude.{OnOk}
use Rattle.ckrt_main.proofs.ProcessLemmas.{served}
use Rattle.ckrt_main.proofs.service.serve.Goals as goal

on_ok : {A E : Type 0} (r : Result A E) (P Q : Type 0) → (P → Q) → OnOk r P → OnOk r Q
on_ok (Ok x) P Q h p = h p
on_ok (Err e) P Q h p = tt

pub returns-clause-ok : goal.returns-clause-ok
returns-clause-ok g c =
    on_ok c.serve_lines.result _ _
    (λ whole was none. served (g.W.Write.contents c.args.writer.now) (g.W.Write.contents c.serve_lines.new.writer) (g.R.Read.remaining c.args.reader.now) (g.R.Read.remaining c.serve_lines.new.reader) c.args.session.now c.serve_lines.new.session whole was none)
    c.serve_lines.ensures.whole

pub returns-clause-failed : goal.returns-clause-failed
returns-clause-failed g c = c.serve_lines.ensures.processed.accepts.failed

pub returns-clause-honest : goal.returns-clause-honest
returns-clause-honest g c = c.serve_lines.ensures.processed.accepts.honest

pub returns-clause-size : goal.returns-clause-size
returns-clause-size g c = c.serve_lines.ensures.processed.accepts.size

pub returns-clause-named_stop : goal.returns-clause-named_stop
returns-clause-named_stop g c = c.serve_lines.ensures.processed.accepts.named_stop
