-- What meets the premises of the promise "safe and total": an example of each answer that it speaks of.
use Rattle.std.specs.Prelude.{◌≡◌, ◌≢◌, ℕ, true, false, List, [], Some, None, Err}
use Rattle.ckrt_stored.specs.Layout.{is_valid}
use Rattle.ckrt_stored.specs.declared.config.Config.{Config}
use Rattle.ckrt_disk.specs.Disk.{HasFailed}
use Rattle.ckrt_disk.specs.declared.disk.Disk.{Ghosts}
use Rattle.ckrt_events.specs.Bytes.{IsInRange}
use Rattle.ckrt_events.specs.Line.{command_of}
use Rattle.ckrt_events.specs.declared.command.LineFault.{LineFault}
use Rattle.ckrt_events.specs.declared.event.Event.{Event}
use Rattle.ckrt_recovery.specs.Calls.{Checkpoints, Commits, IsAfterEvent, checkpoint_refusal}
use Rattle.ckrt_recovery.specs.View.{is_refused, refusal_of, view_of}
use Rattle.ckrt_recovery.specs.declared.fault.CommitFault.TheVariants as commit
use Rattle.ckrt_recovery.specs.declared.fault.SubmitFault.{SubmitFault}
use Rattle.ckrt_recovery.specs.declared.fault.SubmitFault.TheVariants as submit
use Rattle.ckrt_recovery.specs.declared.session.Session.{Session}
use Rattle.ckrt_stored.specs.Recovery.{Recovers}
use Rattle.ckrt_stored.specs.declared.fault.RecoverFault.TheVariants.{Damaged, NotFormatted, Version}

-- A session whose disk fails a commit. Before it refused an event, and took another; afterwards it refuses events, commits and checkpoints.
pub record FailsCommit {D : Type 0} (d : Ghosts D) : Type 0 where
  pub first : Session D d
  pub other : Event
  pub why : SubmitFault
  pub refused : refusal_of (view_of first) other ≡ Some why
  pub event : Event
  pub in_range : IsInRange event
  pub taken : refusal_of (view_of first) event ≡ None
  pub old : Session D d
  pub after : IsAfterEvent first event old
  pub running : old.failed ≡ false
  pub pending : old.pending.items ≢ []
  pub new : Session D d
  pub fails : Commits old (Err commit.Device) new
  pub honest : d.is_honest new.disk
  pub grew : HasFailed (d.failures old.disk) (d.failures new.disk)
  pub failed : new.failed ≡ true
  pub no_event : refusal_of (view_of new) event ≡ Some submit.Failed
  pub no_checkpoint : checkpoint_refusal (view_of new) ≡ Some commit.Failed

-- contents of a disk that recover to each of the three faults
pub record HasEachFault (blank other torn : List ℕ) : Type 0 where
  pub not_formatted : Recovers blank (Err NotFormatted)
  pub version : Recovers other (Err Version)
  pub damaged : Recovers torn (Err Damaged)

-- a session whose area in use has the last generation
pub record IsLastGeneration {D : Type 0} (d : Ghosts D) : Type 0 where
  pub session : Session D d
  pub honest : d.is_honest session.disk
  pub no_checkpoint : checkpoint_refusal (view_of session) ≡ Some commit.GenerationsUsed

-- a line that is no command, and a configuration in its ranges for which the image is too long
pub record IsRefused (line image : List ℕ) (config : Config) : Type 0 where
  pub why : LineFault
  pub no_command : command_of line ≡ Err why
  pub valid : is_valid config ≡ true
  pub too_long : is_refused config image ≡ true
