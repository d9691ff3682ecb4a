-- The theorem on one page (docs/THEOREM.md): what is promised when the power fails. `is_honest` is the one premise on the devices, and no proof
-- can give it of a real one: each has kept the disk model up to now. Of drives it is part of `IsDrive`.
use Rattle.std.specs.Prelude.{ℕ, List, [], ◌∷◌}
use Rattle.ckrt_disk.specs.declared.disk.Disk.{Ghosts}
use Rattle.ckrt_disk.specs.Disk.{LeavesOnly}
use Rattle.ckrt_disk.specs.Frame.{MayBeLeft}
use Rattle.ckrt_events.specs.declared.event.Event.{Event}
use Rattle.ckrt_stored.specs.Programs.{Program, RecoversToStart}
use Rattle.ckrt_recovery.specs.Reached.{IsReached}
use Rattle.ckrt_recovery.specs.Represents.{RecoversAtAnyMoment, RecoversToEither}
use Rattle.ckrt_recovery.specs.declared.session.Session.{Session}
use Rattle.ckrt_drive.specs.Drives.{AllKeep, ComeBehind, IsDrive, OneDrive}
use Rattle.ckrt_drive.specs.Together.{past}

-- Power loss: take a session of these events, made by the public calls, and a commit or a checkpoint of it, each of which has the clause
-- `RecoversAtAnyMoment`. Whatever a stop at any moment of it leaves recovers to the acknowledged events, or to all.
abbrev pub PowerLoss : {D : Type 0} → Ghosts D → Type 0
PowerLoss {D = D} d =
    (p : Program) (events : List Event) (old new : Session D d) → IsReached p events old
    → RecoversAtAnyMoment old new → d.is_honest new.disk
    → LeavesOnly d.moment d.left_since old.disk new.disk (RecoversToEither p events old)

-- where many drives begin: whatever a stop leaves of the disk recovers to the program with no event, and nothing is pending on the output
pub record Begin {D O : Type 0} (d : Ghosts D) (o : Ghosts O) (p : Program) (disk : D) (output : O)
    : Type 0 where
  pub formatted : (image : List ℕ) → MayBeLeft d disk image → RecoversToStart p image
  pub durable : (i : ℕ) → ¬ (o.pending output i)

-- Many drives: take any list of drives of that disk onto that output, one after another, each but the last stopped at any moment, and each on
-- what the stop before it left of both. Each keeps what was acknowledged before it, and whatever a stop leaves of the two files goes together
-- (`Keeps`).
abbrev pub ManyDrives : {D O : Type 0} → Ghosts D → Ghosts O → Type 0
ManyDrives d o =
    (p : Program) (first : OneDrive d o) (more : List (OneDrive d o))
    → Begin d o p first.start first.first.output → IsDrive first → ComeBehind first more
    → AllKeep (past p (o.content first.first.output) [] []) (first ∷ more)
