-- Runs of the program that keep a history, one after another.
use Rattle.std.proofs.Common.{ℕ, ◌≤◌, List, [], ◌∷◌, ◌++◌, ◌∙◌}
use Rattle.ckrt_disk.specs.Disk.{IsImage}
use Rattle.ckrt_disk.specs.declared.disk.Disk.{Ghosts}
use Rattle.ckrt_disk.proofs.ListLemmas.{begins_through}
use Rattle.ckrt_drive.specs.Together.{Past, past}
use Rattle.ckrt_history.specs.Many.{AllStandBeside, BeginBeside, GoesOnFrom, RunsStandBeside, StandBeside, Three}
use Rattle.ckrt_cli.specs.Commands.{Paths, drive_in}
use Rattle.ckrt_cli.specs.HistoryRuns.{AllFollowBeside, AllKeptBeside, IsKeptBeside, LeavesBeside, RunBeside, RunsAreBeside, RunsStandOn, all_left, found_by, opening_in}
use Rattle.ckrt_cli.specs.Performing.{Reach}
use Rattle.ckrt_cli.proofs.HistoryRunLemmas.{leads}

-- one after the other
goes_through : (a b c : Past) → GoesOnFrom a b → GoesOnFrom b c → GoesOnFrom a c
goes_through a b c first second = record {
  program = second.program ∙ first.program;
  old = second.old ∙ first.old;
  acknowledged = begins_through a.acknowledged b.acknowledged c.acknowledged first.acknowledged second.acknowledged;
}

module _ {D : Type 0} (d : Ghosts D) where
  -- these stand, and go on from what stood before
  record StandsOn (h : Past) (y : Three D D D) : Type 0 where
    pub now : Past
    pub goes_on : GoesOnFrom h now
    pub stands : StandBeside d d d now y

  -- the last of those that stand
  last_stands : (h : Past) (between : List (Three D D D)) (y : Three D D D) → AllStandBeside d d d h (between ++ y ∷ []) → StandsOn h y
  last_stands h [] y all = record { now = all.0; goes_on = all.1; stands = all.2 }
  last_stands h (z ∷ more) y all =
      let last = last_stands all.0 more y all.3 in
      record { now = last.now; goes_on = goes_through h all.0 last.now all.1 last.goes_on; stands = last.stands }

module _ {S D W : Type 0} {d : Ghosts D} (reach : S → Reach d W) (counts : (disk : D) (t : ℕ) (image : List ℕ) → d.is_honest disk → t ≤ d.moment disk → IsImage (d.content disk) (d.pending disk) image → d.left_since disk t image) where
  pub runs_are_beside : RunsAreBeside reach
  runs_are_beside f path r left kept leaves = leads d counts (found_by r) kept.output kept.file (opening_in r) (drive_in r.run) left kept.kept leaves

  module _ (stand : RunsStandBeside d d d) {f : Paths} {path : List ℕ} where
    one_stands : (h : Past) (r : RunBeside reach f path) (left : Three D D D) → StandBeside d d d h (found_by r) → IsKeptBeside r → LeavesBeside r left → StandsOn d h left
    one_stands h r left stands kept leaves =
        let to = runs_are_beside f path r left kept leaves in
        last_stands d h to.0 left (stand h (found_by r) (to.0 ++ left ∷ []) stands to.1)

    all_stand : (h : Past) (r : RunBeside reach f path) (more : List (RunBeside reach f path)) (last : Three D D D) → StandBeside d d d h (found_by r) → AllKeptBeside (r ∷ more) → AllFollowBeside r more last → AllStandBeside d d d h (all_left more last)
    all_stand h r [] last stands kept follow = let one = one_stands h r last stands kept.0 follow in (one.now, one.goes_on, one.stands, tt)
    all_stand h r (s ∷ more) last stands kept follow =
        let one = one_stands h r (found_by s) stands kept.0 follow.0 in
        (one.now, one.goes_on, one.stands, all_stand one.now s more last one.stands kept.1 follow.1)

  pub runs_stand_on : BeginBeside d d d → RunsStandBeside d d d → RunsStandOn reach
  runs_stand_on begin stand f path p r more last on =
      all_stand stand (past p (d.content r.run.output) [] []) r more last (begin p (found_by r) on.formatted on.durable on.none) on.kept on.follow
