use Rattle.std.proofs.Common.{◌≡◌, sym, subst, inr}
use Rattle.ckrt_cli_files.specs.Openings.{with_closed}
use Rattle.ckrt_cli.proofs.program.inspect_path.Goals as goal

-- the disk that was shown is the one that was opened
pub returns-in-Ok : goal.returns-in-Ok
returns-in-Ok g c = record {
  shows = λ left.
      let o = c.show_opened.ensures.shows left in
      inr (record {
        start = o.start;
        is_opened = subst (λ x. g.S.Sources.opens c.args.sources.now c.args.job.now.disk.now x) (sym o.is_opened) c.in-Ok.ensures.disk;
        end = o.end;
        shows = o.shows;
        closes = subst (λ x. g.S.Closes.openings c.show_opened.new.sources ≡ with_closed x o.end) c.in-Ok.ensures.asked o.closes;
        unread = o.unread;
      });
}
