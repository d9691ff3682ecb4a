-- Runs, one after another.
use Rattle.std.proofs.Common.{ℕ, List, [], ◌∷◌, Option, Some, None}
use Rattle.std.specs.Prelude.{IfSome}
use Rattle.ckrt_disk.specs.Disk.{IsImage}
use Rattle.ckrt_disk.specs.declared.disk.Disk.{Ghosts}
use Rattle.ckrt_schedule.specs.declared.schedule.Schedule.{Schedule}
use Rattle.ckrt_stored.specs.Programs.{Program}
use Rattle.ckrt_schedule.specs.Next.{AreGiven}
use Rattle.ckrt_stored.specs.Programs.{start_of}
use Rattle.ckrt_cli.specs.Performing.{Reach}
use Rattle.ckrt_drive.specs.ByPlan.{IsByPlan, course}
use Rattle.ckrt_drive.specs.Drives.{past_behind}
use Rattle.ckrt_drive.specs.Together.{Past, past}
use Rattle.ckrt_drive.proofs.ByPlanLemmas.{by_plan_itself}
use Rattle.ckrt_drive.proofs.TakenLemmas.{formatted_fed}
use Rattle.ckrt_drive.proofs.LeftLemmas.{stands_formatted}
use Rattle.ckrt_cli.specs.Commands.{AllFollow, AllHold, AllKept, DriveIn, GoOn, Leaves, Paths, Run, drive_in}
use Rattle.ckrt_cli.specs.Promise.{Common, HasSchedule, HoldsBehind, IsKept, as_drive}
use Rattle.ckrt_cli.proofs.HoldLemmas.{Before, held, left_alone}

-- before the first event
none_given : (f : Option (List ℕ)) (p : Program) → IfSome f (λ bytes. AreGiven [] bytes (start_of p))
none_given None p = tt
none_given (Some bytes) p = tt

none_planned : (s : Option Schedule) (f : Option (List ℕ)) (p : Program) → IfSome s (λ u. IsByPlan (course u f) p [])
none_planned None f p = tt
none_planned (Some u) f p = by_plan_itself (course u f) p []

module _ {S D W : Type 0} {d : Ghosts D} (reach : S → Reach d W) (law : (disk : D) (image : List ℕ) → d.is_honest disk → d.left_since disk (d.moment disk) image → IsImage (d.content disk) (d.pending disk) image)
    (reads : (disk : D) → d.is_honest disk → IsImage (d.content disk) (d.pending disk) (d.content disk)) (f : Paths) (c : Common) where
  -- one run, and whatever follows of what it leaves
  hold_behind : (h : Past) (r : Run reach f) (a : Option (DriveIn r)) → IfSome a (IsKept c r.disk r.output) → IfSome c.schedule (λ u. HasSchedule u r.driving) → Before d c h r.disk r.output
      → (Next : Past → Type 0) → ((behind : Past) → ((disk output : D) → Leaves r a disk output → Before d c behind disk output) → Next behind) → HoldsBehind c h Next a
  hold_behind h r None kept scheduled before Next go = go h (λ disk output left. left_alone d c h r.disk r.output disk output before left.0 left.1)
  hold_behind h r (Some x) kept scheduled before Next go =
      let k = held d law reads c h r.disk r.output x before kept scheduled in
      (k.0, go (past_behind (as_drive x) k.0.keeps) (λ disk output stop. k.1 disk output stop))

  all_hold : (h : Past) (r : Run reach f) (more : List (Run reach f)) → Before d c h r.disk r.output → AllKept c (r ∷ more) → AllFollow r more → AllHold c h (r ∷ more)
  all_hold h r [] before kept follow = hold_behind h r (drive_in r) kept.0.kept kept.0.schedule before (λ behind. AllHold {reach = reach} {f = f} c behind []) (λ behind left. tt)
  all_hold h r (s ∷ more) before kept follow =
      hold_behind h r (drive_in r) kept.0.kept kept.0.schedule before (λ behind. AllHold c behind (s ∷ more)) (λ behind left. all_hold behind s more (left s.disk s.output follow.0) kept.1 follow.1)

  go_on : (p : Program) (r : Run reach f) (more : List (Run reach f)) → GoOn c p r more → AllHold c (past p (d.content r.output) [] []) (r ∷ more)
  go_on p r more on = all_hold (past p (d.content r.output) [] []) r more
      (record {
        stands = record {
          together = stands_formatted d d p r.disk r.output on.begin.formatted on.begin.durable;
          fed = formatted_fed d c.file p (d.content r.output) r.disk on.begin.formatted;
        };
        given = none_given c.file p;
        by_plan = none_planned c.schedule c.file p;
      })
      on.kept on.follow

pub commands_go_on : {S D W : Type 0} {d : Ghosts D} (reach : S → Reach d W) (f : Paths) (c : Common) (p : Program) (r : Run reach f) (more : List (Run reach f)) → GoOn c p r more
    → ((disk : D) (image : List ℕ) → d.is_honest disk → d.left_since disk (d.moment disk) image → IsImage (d.content disk) (d.pending disk) image)
    → ((disk : D) → d.is_honest disk → IsImage (d.content disk) (d.pending disk) (d.content disk)) → AllHold c (past p (d.content r.output) [] []) (r ∷ more)
commands_go_on reach f c p r more on law reads = go_on reach law reads f c p r more on
