-- What meets the premises of the promise "end to end without a stop".
use Rattle.std.specs.Prelude.{◌≡◌, ◌≢◌, ◌<◌, ◌≤◌, ◌++◌, ℕ, true, false, Some, List, [], length}
use Rattle.ckrt_stored.specs.declared.config.Config.{Config}
use Rattle.ckrt_disk.specs.Disk.{HasFailed}
use Rattle.ckrt_disk.specs.declared.disk.Disk.{Ghosts}
use Rattle.ckrt_main.specs.Transcript.{accepted_events, view_after}
use Rattle.ckrt_main.specs.Service.{IsStartFault, Served, ServedPart}
use Rattle.ckrt_main.specs.declared.fault.ServeFault.{ServeFault}
use Rattle.ckrt_recovery.specs.View.{View, fresh, is_refused, view_of}
use Rattle.ckrt_recovery.specs.declared.session.Session.{Session}
use Rattle.ckrt_stored.specs.Programs.{Program, RecoversToStart}

-- What a service made of a session, some of whose lines are events. It wrote a text, acknowledged events and printed output.
pub record ServiceMade {D : Type 0} {d : Ghosts D} (old new : Session D d) (lines text : List ℕ)
    : Type 0 where
  -- lines that weren't read, behind a quit
  pub left : List ℕ
  pub served : Served (Some []) (Some text) (Some lines) (Some left) (view_of old)
  pub behind : view_of new ≡ view_after (view_of old) served.read
  pub some_lines : lines ≢ []
  pub some_text : text ≢ []
  pub taken : 3 ≤ length (accepted_events (view_of old) served.read)
  pub committed : old.acknowledged < new.acknowledged
  pub printed : old.progress.confirmed < new.progress.confirmed

-- a service of a disk that was formatted, for which all premises hold at once
pub record ServiceWitness {D : Type 0} (d : Ghosts D) (p : Program) : Type 0 where
  pub start : D
  pub begins : RecoversToStart p (d.content start)
  pub old : Session D d
  pub new : Session D d
  pub honest : d.is_honest new.disk
  pub running : old.failed ≡ false
  pub well : ¬ HasFailed (d.failures old.disk) (d.failures new.disk)
  pub lines : List ℕ
  pub text : List ℕ
  pub made : ServiceMade old new lines text

-- A service in memory of an image that answered lines, and wrote a text.
pub record ServesImage (config : Config) (image : List ℕ) : Type 0 where
  pub lines : List ℕ
  pub some_lines : lines ≢ []
  pub text : List ℕ
  pub some_text : text ≢ []
  -- lines that weren't read, behind a quit
  pub left : List ℕ
  pub served : Served (Some []) (Some text) (Some lines) (Some left) (fresh config image)

-- A service of an image that didn't begin, since a configuration is out of its ranges, or the image is too long for it. Nothing was read or
-- written.
pub record RefusesImage (config : Config) (image : List ℕ) : Type 0 where
  pub refused : is_refused config image ≡ true
  pub fault : ServeFault
  pub start : IsStartFault fault
  pub lines : List ℕ
  pub some_lines : lines ≢ []
  pub text : List ℕ
  pub left : List ℕ
  pub part : ServedPart (Some []) (Some text) (Some lines) (Some left) (fresh config image)
  pub unread : left ≡ lines
  pub unwritten : text ≡ []

-- one of each, of one image
pub record ImageWitness (config other : Config) (image : List ℕ) : Type 0 where
  pub serves : ServesImage config image
  pub refuses : RefusesImage other image
