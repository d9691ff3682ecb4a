-- What a drive's checkpoint finds.
use Rattle.std.specs.Prelude.{◌≡◌, List, [], IfSome, Ok}
use Rattle.ckrt_disk.specs.declared.disk.Disk.{Ghosts}
use Rattle.ckrt_events.specs.Bytes.{IsInRange}
use Rattle.ckrt_events.specs.declared.event.Event.{Event}
use Rattle.ckrt_stored.specs.Programs.{Program}
use Rattle.ckrt_recovery.specs.Represents.{Represents}
use Rattle.ckrt_recovery.specs.View.{View, checkpointed, view_of}
use Rattle.ckrt_recovery.specs.declared.session.Session.{Session}
use Rattle.ckrt_drive.specs.Plan.{plan}
use Rattle.ckrt_drive.specs.declared.options.Options.{Options}
use Rattle.ckrt_drive.specs.declared.step_done.StepDone.TheVariants.{Checkpointed}
use Rattle.ckrt_drive.specs.declared.supply.Supply.{Supply}

-- where a checkpoint is planned all accepted events are acknowledged
abbrev pub FindsAllAcknowledged : Options → View → Type 0
FindsAllAcknowledged o v =
    (w : Supply) → plan o w v ≡ Ok Checkpointed → v.acknowledged ≡ v.recovered.count

-- so the batch of a session that represents events is empty then
abbrev pub FindsNothingPending : {D : Type 0} {g : Ghosts D} → Options → Session D g → Type 0
FindsNothingPending o s =
    (w : Supply) (p : Program) (events : List Event) → Represents p events s
    → plan o w (view_of s) ≡ Ok Checkpointed → s.pending.items ≡ []

-- After a checkpoint no other one is planned: an event, an end, a commit or a release is, so there are no checkpoints without end. What is
-- given is an event with its fields in their ranges.
abbrev pub NoneIsNext : {D : Type 0} {g : Ghosts D} → Options → Session D g → Type 0
NoneIsNext o s =
    (w : Supply) → IfSome w.given IsInRange
    → plan o w (checkpointed (view_of s)) ≡ Ok Checkpointed → ⊥
