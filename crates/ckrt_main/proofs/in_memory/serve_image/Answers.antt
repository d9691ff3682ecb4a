use Rattle.ckrt_recovery.specs.View.{fresh, view_of}
use Rattle.ckrt_main.proofs.FreshLemmas.{none_failed, served_alone, served_nothing, served_part}
use Rattle.ckrt_main.proofs.in_memory.serve_image.Goals as goal

pub returns-clause-ok : goal.returns-clause-ok
returns-clause-ok g c = served_alone c.serve.result (g.W.Write.contents c.args.writer.now) (g.W.Write.contents c.serve.new.writer) (g.R.Read.remaining c.args.reader.now) (g.R.Read.remaining c.serve.new.reader) (view_of c.in_ok-session.session) (fresh c.args.config c.args.image.now) (view_of c.serve.new.session) _ _ c.in_ok-session.ensures.fresh c.in_ok-session.ensures.running none_failed c.serve.ensures.ok

pub returns-clause-processed : goal.returns-clause-processed
returns-clause-processed g c = served_part (g.W.Write.contents c.args.writer.now) (g.W.Write.contents c.serve.new.writer) (g.R.Read.remaining c.args.reader.now) (g.R.Read.remaining c.serve.new.reader) c.in_ok-session.session c.serve.new.session (fresh c.args.config c.args.image.now)
    c.in_ok-session.ensures.fresh c.in_ok-session.ensures.running c.serve.ensures.failed none_failed c.serve.ensures.processed

pub returns-in_err-session-clause-processed : goal.returns-in_err-session-clause-processed
returns-in_err-session-clause-processed g c = served_nothing (g.W.Write.contents c.args.writer.now) (g.R.Read.remaining c.args.reader.now) (fresh c.args.config c.args.image.now)
