-- What meets the premises of the law of a history beside many runs.
use Rattle.std.specs.Prelude.{◌≡◌, ℕ, List, [], ◌∷◌}
use Rattle.ckrt_disk.specs.Frame.{MayBeLeft}
use Rattle.ckrt_disk.specs.declared.disk.Disk.{Ghosts}
use Rattle.ckrt_drive.specs.Together.{IsLeftSince}
use Rattle.ckrt_look_recording.specs.Recording.{Recorded}
use Rattle.ckrt_stored.specs.Programs.{Program, RecoversToStart}
use Rattle.ckrt_history.specs.History.{HasHistory}
use Rattle.ckrt_history.specs.Many.{AllRun, IsKeepingRun, Three}
use Rattle.ckrt_witness.specs.Drives.{IsReopened}

-- a disk, an output and the file of a history
abbrev pub three : {D O K : Type 0} → D → O → K → Three D O K
three disk output file = record { disk = disk; output = output; file = file }

-- From x on a drive kept a history, and left y: whatever a stop behind its last step leaves of that, it is a run up to there.
abbrev pub RanBeside : {D O K : Type 0} → Ghosts D → Ghosts O → Ghosts K → (x y : Three D O K)
    → Type 0
RanBeside d o k x y =
    (left : Three _ _ _) → IsLeftSince d y.disk y.disk left.disk
    → IsLeftSince o y.output y.output left.output → IsLeftSince k y.file y.file left.file
    → IsKeepingRun d o k x left

-- all three were made anew with the bytes as they read
pub record AreReopened {D O K : Type 0} (d : Ghosts D) (o : Ghosts O) (k : Ghosts K)
    (end next : Three D O K) : Type 0 where
  pub disk : IsReopened d end.disk next.disk
  pub output : IsReopened o end.output next.output
  pub file : IsReopened k end.file next.file

-- Two runs that kept a history, from a formatted disk and a file that is no history on; the second on what a stop behind the first left.
pub record RanTwice {D O K : Type 0} (d : Ghosts D) (o : Ghosts O) (k : Ghosts K) (p : Program)
    : Type 0 where
  pub x : Three D O K
  pub end : Three D O K
  pub one : RanBeside d o k x end
  pub next : Three D O K
  pub again : AreReopened d o k end next
  pub whole : Three D O K
  pub other : RanBeside d o k next whole
  pub last : Three D O K
  pub behind : AreReopened d o k whole last
  pub formatted : RecoversToStart p (d.content x.disk)
  pub settled : (i : ℕ) → ¬ d.pending x.disk i
  pub durable : (i : ℕ) → ¬ o.pending x.output i
  pub kept : (i : ℕ) → ¬ k.pending x.file i
  pub none : (r : Recorded) → HasHistory (k.content x.file) r → ⊥

-- two runs with a stop between, for which all premises hold
pub record BesideWitness {D O K : Type 0} (d : Ghosts D) (o : Ghosts O) (k : Ghosts K) : Type 0 where
  pub program : Program
  pub x : Three D O K
  pub y : Three D O K
  pub z : Three D O K
  pub formatted : (image : List ℕ) → MayBeLeft d x.disk image → RecoversToStart program image
  pub durable : (i : ℕ) → ¬ o.pending x.output i
  pub none : (image : List ℕ) (r : Recorded) → MayBeLeft k x.file image → HasHistory image r → ⊥
  pub runs : AllRun d o k x (y ∷ z ∷ [])
