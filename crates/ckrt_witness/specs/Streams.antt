-- What meets the premises of the clauses on services whose reader or writer fails.
use Rattle.std.specs.Prelude.{◌≡◌, ◌≢◌, ◌⊎◌, ◌<◌, ℕ, false, Some, List, []}
use Rattle.ckrt_disk.specs.declared.disk.Disk.{Ghosts}
use Rattle.ckrt_main.specs.Service.{Processes}
use Rattle.ckrt_main.specs.declared.fault.ServeFault.{ServeFault}
use Rattle.ckrt_main.specs.declared.fault.ServeFault.TheVariants.{Read, Write}
use Rattle.ckrt_recovery.specs.Represents.{Represents}
use Rattle.ckrt_recovery.specs.declared.session.Session.{Session}
use Rattle.ckrt_stored.specs.Programs.{Program}

-- A service that ended by this fault: it had acknowledged events and written a text, and its session goes on.
pub record BrokenService {D : Type 0} (d : Ghosts D) (p : Program) (fault : ServeFault) : Type 0 where
  pub of_streams : (fault ≡ Read) ⊎ (fault ≡ Write)
  pub old : Session D d
  pub represents : Represents p [] old
  pub running : old.failed ≡ false
  pub new : Session D d
  pub honest : d.is_honest new.disk
  pub still_running : new.failed ≡ false
  pub committed : old.acknowledged < new.acknowledged
  pub lines : List ℕ
  pub some_lines : lines ≢ []
  pub text : List ℕ
  pub some_text : text ≢ []
  pub left : List ℕ
  pub service : Processes (Some []) (Some text) (Some lines) (Some left) old new

-- one whose reader failed, and one whose writer did
pub record StreamsWitness {D : Type 0} (d : Ghosts D) : Type 0 where
  pub program : Program
  pub by_reader : BrokenService d program Read
  pub by_writer : BrokenService d program Write
