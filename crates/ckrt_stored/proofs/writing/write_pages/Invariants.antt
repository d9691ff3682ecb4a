use Rattle.std.proofs.Common.{◌≡◌, ◌<◌, ◌≤◌, ◌-◌, true, false}
use Rattle.ckrt_disk.specs.Frame.{WritesWithin}
use Rattle.ckrt_memory.specs.Marks.{is_dirty}
use Rattle.ckrt_stored.specs.Holds.{CleanPagesStand}
use Rattle.ckrt_stored.specs.Write.{PagesAt, dirty_count}
use Rattle.ckrt_stored.proofs.WriteLemmas.{StandUpTo}
use Rattle.ckrt_stored.proofs.writing.write_pages.Given as goal

abbrev pub invariant-loop-page : goal.invariant-loop-page
invariant-loop-page g l = record {
  started : 1 ≤ l.page;
  inside : l.page ≤ l.config.pages;
  dirty : l.page < l.config.pages → is_dirty l.area l.page l.memory ≡ true;
  within : WritesWithin g.D.Disk (PagesAt l.config l.area) (dirty_count l.area (l.page - 1) l.memory) l.fn.disk l.disk false;
  written : g.D.Disk.is_honest l.disk → CleanPagesStand l.config l.area l.memory (g.D.Disk.content l.fn.disk) → StandUpTo l.config l.area l.page l.memory (g.D.Disk.content l.disk);
}

abbrev pub decreases-loop-page : goal.decreases-loop-page
decreases-loop-page g l = l.config.pages - l.page
