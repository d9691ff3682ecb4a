-- The schedule that a disk notes: where it stands, its bytes, and what noting one leaves (this project's own format).
use Rattle.std.specs.Prelude.{◌≡◌, ◌≢◌, ◌⊎◌, ◌+◌, ◌-◌, ◌≤◌, ◌<◌, ◌&&◌, not, ℕ, Bool, true, false, List, ◌++◌, length, take, slice_index, nat_lt, nat_eq, if◌then◌else◌, Option, Some, None, Result}
use Rattle.byteorder.specs.Endian.{little_bytes}
use Rattle.ckrt_disk.specs.Disk.{IsWithin}
use Rattle.ckrt_disk.specs.Frame.{AtAnyMoment, IsSameOutside, MayBeLeft}
use Rattle.ckrt_disk.specs.declared.disk.Disk.{Ghosts}
use Rattle.ckrt_stored.specs.declared.schedule.ScheduleNote.{ScheduleNote}
use Rattle.ckrt_stored.specs.Layout.{number_at}
use Rattle.ckrt_stored.specs.Recovery.{Recovered, Recovers}
use Rattle.ckrt_stored.specs.Superblock.{has_notes, note_of}
use Rattle.ckrt_stored.specs.declared.fault.RecoverFault.{RecoverFault}

-- A NOTE

-- 1 where there is a seed
abbrev pub mark_of : Option ℕ → ℕ
mark_of None = 0
mark_of (Some seed) = 1

abbrev pub seed_of : Option ℕ → ℕ
seed_of None = 0
seed_of (Some seed) = seed

-- the 24 bytes of a schedule
abbrev pub schedule_bytes : ScheduleNote → List ℕ
schedule_bytes s =
    little_bytes 8 s.turn ++ little_bytes 8 (mark_of s.seed) ++ little_bytes 8 (seed_of s.seed)

-- the schedule of three numbers
abbrev pub schedule_by : (turn mark seed : ℕ) → Option ScheduleNote
schedule_by turn mark seed =
    if nat_eq turn 0 then None
    else if nat_eq mark 1 then Some (record { turn = turn; seed = Some seed })
    else if nat_eq mark 0 && nat_eq seed 0 then Some (record { turn = turn; seed = None })
    else None

-- the schedule of the 24 bytes from an offset on
abbrev pub schedule_at : (at : ℕ) → List ℕ → Option ScheduleNote
schedule_at at page =
    schedule_by (number_at 8 at page) (number_at 8 (at + 8) page) (number_at 8 (at + 16) page)

-- THE TWO NOTES, in the superblock's 4,096 bytes

-- the byte that says which is in use
abbrev pub PICK_AT : ℕ
PICK_AT = 2048

-- it is the first one
abbrev pub is_first_used : List ℕ → Bool
is_first_used page = nat_eq (slice_index page PICK_AT) 1

-- where the first one stands, and where the second one does
abbrev pub place_of : (is_first : Bool) → ℕ
place_of is_first = if is_first then 2560 else 3072

-- the byte that puts it in use
abbrev pub pick_of : (is_first : Bool) → ℕ
pick_of is_first = if is_first then 1 else 2

-- the schedule of the note in use, where the superblock has notes
abbrev pub schedule_in : List ℕ → Option ScheduleNote
schedule_in page =
    if has_notes page then schedule_at (place_of (is_first_used page)) page else None

-- the schedule that a disk notes, if it does
abbrev pub schedule_of : List ℕ → Option ScheduleNote
schedule_of image = if nat_lt (length image) 4096 then None else schedule_in (take 4096 image)

-- a disk can note one
abbrev pub takes_notes : List ℕ → Bool
takes_notes image = not (nat_lt (length image) 4096) && has_notes (take 4096 image)

-- NOTING

-- where notes stand: behind all fields of the superblock, and before the first area
abbrev pub NotesAt : ℕ → Type 0
NotesAt = IsWithin 2048 2048

-- what a disk notes once it was to note a schedule
abbrev pub noted_after : ScheduleNote → List ℕ → Option ScheduleNote
noted_after s image = if takes_notes image then Some s else None

-- The note that is free for a schedule: none where the disk takes no notes, or notes that one; else the one that isn't in use.
abbrev pub IsFreeFor : ScheduleNote → List ℕ → Option Bool → Type 0
IsFreeFor s image None = (takes_notes image ≡ false) ⊎ (schedule_of image ≡ Some s)
IsFreeFor s image (Some is_first) =
    (takes_notes image ≡ true) × (schedule_of image ≢ Some s)
    × (is_first ≡ not (is_first_used (take 4096 image)))

-- What a stop of noting a schedule may leave: what a stop before might have left, or the schedule that the disk noted, or this one.
abbrev pub IsNoting : {D : Type 0} → ScheduleNote → Ghosts D → D → List ℕ → Type 0
IsNoting s d disk image =
    MayBeLeft d disk image ⊎ (schedule_of image ≡ schedule_of (d.content disk)) ⊎ (schedule_of image ≡ Some s)

-- of an honest disk a stop at any moment since old leaves no more than that
abbrev pub LeavesNoting : {D : Type 0} → ScheduleNote → Ghosts D → (old new : D) → Type 0
LeavesNoting s d old new = AtAnyMoment d old new (IsNoting s d old)

-- NO OTHER BYTE OF IT MATTERS

-- the offsets behind the fields of the superblock, and before the first area
abbrev pub IsFieldless : ℕ → Type 0
IsFieldless i = (72 ≤ i) × (i < 4096)

-- Fieldless: what an image recovers to, its faults too, doesn't depend on these bytes, nor does the program that it notes.
pub record AreFieldlessFree : Type 0 where
  pub recovers : (before image : List ℕ) (result : Result Recovered RecoverFault)
      → IsSameOutside IsFieldless before image → Recovers before result → Recovers image result
  pub program : (before image : List ℕ) → IsSameOutside IsFieldless before image
      → note_of image ≡ note_of before
