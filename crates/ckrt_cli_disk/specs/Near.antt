-- Reading what a history has recorded for a look at it: from a snapshot on, where the nearest one that is known is taken.
use Rattle.std.specs.Prelude.{◌≡◌, ◌⊎◌, ◌-◌, ℕ, List, Option, Some, None, Result, Ok, Err, unwrap_or}
use Rattle.ckrt_disk.specs.Frame.{IsOnlyRead}
use Rattle.ckrt_disk.specs.declared.disk.Disk.{Ghosts}
use Rattle.ckrt_look_recording.specs.Recording.{Recorded, recorded_of}
use Rattle.ckrt_look_recording.specs.declared.recording.Recording.{Recording}
use Rattle.ckrt_look_calls.specs.declared.stretch.Stretch.{Stretch}
use Rattle.ckrt_history.specs.Appending.{open_of}
use Rattle.ckrt_history.specs.Completing.{end_of}
use Rattle.ckrt_history.specs.History.{Tells}
use Rattle.ckrt_history.specs.Reads.{AgreesOnFault, Is, IsReadAs, is_device}
use Rattle.ckrt_history.specs.Snapshots.{BeginsBy, TellsSnapshot, saved_in}
use Rattle.ckrt_history.specs.declared.fault.HistoryFault.{HistoryFault}
use Rattle.ckrt_history.specs.declared.snapshot.Snapshot.{Snapshot}
use Rattle.ckrt_cli_files.specs.Openings.{Openings, opened, refused, with_closed, with_disk}
use Rattle.ckrt_cli_files.specs.declared.file.FileFault.{FileFault}
use Rattle.ckrt_cli_disk.specs.declared.near.Found.{Found}
use Rattle.ckrt_cli_disk.specs.declared.near.NearRead.{NearRead}

-- WHERE A LOOK BEGINS

-- behind how many events: where its stretch begins, or its last events do, or what is recorded does
abbrev pub position_by : (from last to : Option ℕ) → Recorded → ℕ
position_by (Some k) last to r = k
position_by None (Some n) to r = unwrap_or to (end_of r) - n
position_by None None to r = r.first

abbrev pub position_in : Stretch → Recorded → ℕ
position_in s r = position_by s.from s.last s.to r

-- THE SNAPSHOT

-- the snapshot that was read, if one was
abbrev pub read_of : Result Snapshot HistoryFault → Option Snapshot
read_of (Ok s) = Some s
read_of (Err e) = None

-- A file that was opened was read as a snapshot. It is only read.
pub record ReadsFile {D : Type 0} (d : Ghosts D) (start end : D) (snapshot : Option Snapshot)
    : Type 0 where
  pub answer : Result Snapshot HistoryFault
  pub read : IsOnlyRead d start end (is_device answer)
  pub exact : IsReadAs d start end saved_in answer TellsSnapshot
  pub is : snapshot ≡ read_of answer

abbrev pub ReadsOpened : {D : Type 0} → Ghosts D → D → Found D → Type 0
ReadsOpened {D = D} d start found =
    (end : D) × (found.file ≡ Some end) × ReadsFile d start end found.snapshot

-- A file was opened, and read so.
pub record ReadsSnapshot {D : Type 0} (d : Ghosts D) (old new : Openings D) (end : D)
    (snapshot : Option Snapshot) : Type 0 where
  pub path : List ℕ
  pub opens : new ≡ with_disk old (opened path)
  pub start : D
  pub reads : ReadsFile d start end snapshot

-- one file was opened at most; where none could be, there is no snapshot
abbrev pub FindsIn : {D : Type 0} → Ghosts D → (old new : Openings D) → (file : Option D)
    → Option Snapshot → Type 0
FindsIn d old new (Some end) snapshot = ReadsSnapshot d old new end snapshot
FindsIn d old new None snapshot =
    (snapshot ≡ None)
    × ((new ≡ old) ⊎ ((path : List ℕ) × (why : FileFault) × (new ≡ with_disk old (refused path why))))

abbrev pub Finds : {D : Type 0} → Ghosts D → (old new : Openings D) → Found D → Type 0
Finds d old new found = FindsIn d old new found.file found.snapshot

-- the file of a snapshot is closed, where there is one
abbrev pub with_snapshot_closed : {D : Type 0} → Openings D → Option D → Openings D
with_snapshot_closed o None = o
with_snapshot_closed o (Some file) = with_closed o file

-- WHAT IS READ

-- all that is recorded, or from the snapshot on, where that is taken
abbrev pub BeginsWith : (image : List ℕ) → (position : ℕ) → Option Snapshot
    → (whole begun : Recorded) → Type 0
BeginsWith image position None whole begun = begun ≡ whole
BeginsWith image position (Some s) whole begun = BeginsBy image position (saved_in s) whole begun

-- the answer where a history answered so, and this snapshot was read; the history is read once more for that, which may fail
abbrev pub AnswersFor : (image : List ℕ) → Stretch → Option Snapshot
    → (whole answer : Result Recording HistoryFault) → Type 0
AnswersFor image s found (Err e) (Ok r) = ⊥
AnswersFor image s found (Err e) (Err fault) = fault ≡ e
AnswersFor image s found (Ok whole) (Ok r) =
    BeginsWith image (position_in s (recorded_of whole)) found (recorded_of whole) (recorded_of r)
AnswersFor image s found (Ok whole) (Err fault) = AgreesOnFault fault (Is (open_of image))

-- A history that has recorded this was gone on with from a snapshot, where one was taken. It is only read, and so is the file of the snapshot.
pub record BeginsNear {D : Type 0} (d : Ghosts D) (s : Stretch) (whole : Recording) (start end : D)
    (openings : Openings D × Openings D) (near : NearRead D) : Type 0 where
  pub read : IsOnlyRead d start end (is_device near.answer)
  pub found : Found D
  pub finds : Finds d openings.0 openings.1 found
  pub file : near.file ≡ found.file
  pub answers : d.is_honest end
      → AnswersFor (d.content start) s found.snapshot (Ok whole) near.answer

-- What a history has recorded was read for a look at this stretch of it, from a snapshot on where one was taken. The history is only read, and so is
-- the file of the snapshot.
pub record ReadsNear {D : Type 0} (d : Ghosts D) (s : Stretch) (start end : D)
    (old new : Openings D) (near : NearRead D) : Type 0 where
  pub read : IsOnlyRead d start end (is_device near.answer)
  pub whole : Result Recording HistoryFault
  pub records : IsReadAs d start end recorded_of whole Tells
  pub found : Found D
  pub finds : Finds d old new found
  pub file : near.file ≡ found.file
  pub answers : d.is_honest end → AnswersFor (d.content start) s found.snapshot whole near.answer
