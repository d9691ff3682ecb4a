use Rattle.std.proofs.Common.{◌≡◌, subst, sym}
use Rattle.ckrt_cli_words.specs.Jobs.{disk_stretch_of}
use Rattle.ckrt_cli_reports.specs.Outside.{outside}
use Rattle.ckrt_cli.specs.Looking.{LooksAt, sight}
use Rattle.ckrt_cli.proofs.looking.look_at_opened.Goals as goal

pub returns-then-job : goal.returns-then-job
returns-then-job g c =
    let seen = sight (disk_stretch_of c.args.job.now) (λ start. start ≡ c.args.opened) (g.T.Telling.Tells c.args.telling.now) in
    record {
      looks = λ left.
          let old = outside (g.S.Closes.openings c.args.sources.now) (g.W.Write.contents c.args.writer.now) left in
          let new = outside (g.S.Closes.openings c.look_in_history.new.sources) (g.W.Write.contents c.look_in_history.new.writer) left in
          subst (λ h. LooksAt h g.D.Disk seen old new c.look_in_history.result) (sym c.if-job.true) (c.look_in_history.ensures.looks left);
    }

pub returns-else-job : goal.returns-else-job
returns-else-job g c =
    let seen = sight (disk_stretch_of c.args.job.now) (λ start. start ≡ c.args.opened) (g.T.Telling.Tells c.args.telling.now) in
    record {
      looks = λ left.
          let old = outside (g.S.Closes.openings c.args.sources.now) (g.W.Write.contents c.args.writer.now) left in
          let new = outside (g.S.Closes.openings c.look_opened.new.sources) (g.W.Write.contents c.look_opened.new.writer) left in
          subst (λ h. LooksAt h g.D.Disk seen old new c.look_opened.result) (sym c.if-job.false) (c.look_opened.ensures.looks left);
    }
