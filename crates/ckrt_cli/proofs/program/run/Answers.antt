use Rattle.std.proofs.Common.{◌≡◌, sym, subst, inr}
use Rattle.ckrt_cli_disk.specs.Running.{disk_of}
use Rattle.ckrt_cli_files.specs.Openings.{with_closed}
use Rattle.ckrt_cli.proofs.program.run.Goals as goal

-- the disk that was run is the one that was opened
pub returns-in-Ok : goal.returns-in-Ok
returns-in-Ok g c =
    let o = c.run_opened.ensures.runs in
    record {
      runs = inr (record {
        start = o.start;
        is_opened = subst (λ x. g.S.Sources.opens c.args.sources.now c.args.path.now x) (sym o.is_opened) c.in-Ok.ensures.disk;
        ran = o.ran;
        runs = o.runs;
        gives = o.gives;
        closes = subst (λ x. g.S.Closes.openings c.run_opened.new.sources ≡ with_closed x (disk_of o.ran)) c.in-Ok.ensures.asked o.closes;
      });
    }
