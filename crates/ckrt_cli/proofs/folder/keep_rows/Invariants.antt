use Rattle.std.proofs.Common.{◌≡◌}
use Rattle.ckrt_cli.specs.Hunting.{AreKept, folder_at, reached, sought_in}
use Rattle.ckrt_cli.proofs.folder.keep_rows.Given as goal

-- the runs of the outcomes before it were kept
abbrev pub invariant-loop-place : goal.invariant-loop-place
invariant-loop-place g l = record {
  kept : AreKept g.D.Disk (sought_in l.fn.hunt l.at.told (g.S.Sources.fills l.fn.sources)) (folder_at l.at) l.place
      (reached (g.S.Closes.openings l.fn.sources) (g.W.Write.contents l.fn.writer))
      (reached (g.S.Closes.openings l.sources) (g.W.Write.contents l.writer));
  same : l.hunt ≡ l.fn.hunt;
}
