-- A disk that is made ready for a drive: it is made longer where it has no room for the record, and its schedule is noted. What a stop meanwhile
-- leaves, and what that recovers to.
use Rattle.std.specs.Prelude.{◌≡◌, ◌<◌, ℕ, List, ◌++◌, length, replicate, Option, Some, Ok}
use Rattle.ckrt_disk.specs.Frame.{IsSameOutside, MayBeLeft}
use Rattle.ckrt_disk.specs.declared.disk.Disk.{Ghosts}
use Rattle.ckrt_drive.specs.Offset.{offset_from}
use Rattle.ckrt_stored.specs.Recovery.{Recovered, Recovers}
use Rattle.ckrt_stored.specs.Schedules.{NotesAt}
use Rattle.ckrt_drive.specs.Together.{Past, StandTogether, StandsFed, StandsRecorded}

-- an image with zeros after its bytes
pub record IsLonger (short image : List ℕ) : Type 0 where
  pub zeros : ℕ
  pub is : image ≡ short ++ replicate zeros 0

-- an image with zeros after its bytes, and perhaps with others where schedules are noted
pub record IsReadied (short image : List ℕ) : Type 0 where
  pub zeros : ℕ
  pub same : IsSameOutside NotesAt (short ++ replicate zeros 0) image

-- it recovers to the same
abbrev pub RecoverReadied : Type 0
RecoverReadied =
    (short image : List ℕ) (r : Recovered) → IsReadied short image → Recovers short (Ok r)
    → Recovers image (Ok r)

-- What is left where a disk was being made ready, or is: whatever a stop may leave of it now is what a stop might have left before, with zeros
-- after it, and perhaps with other bytes where schedules are noted.
pub record IsLengthened {D : Type 0} (d : Ghosts D) (old left : D) : Type 0 where
  pub images : (image : List ℕ) → MayBeLeft d left image
      → (short : List ℕ) × MayBeLeft d old short × IsReadied short image
  pub inside : (i : ℕ) → d.pending left i → i < length (d.content left)

-- so it goes with the output as before, and keeps what its events took of an input
abbrev pub LengtheningKeeps : {D O : Type 0} → Ghosts D → Ghosts O → Type 0
LengtheningKeeps {D = D} {O = O} d o =
    (h : Past) (file : Option (List ℕ)) (old left : D) (output : O) → IsLengthened d old left
    → StandTogether d o h old output → StandsFed d file h old
    → StandTogether d o h left output × StandsFed d file h left

-- and has recorded its events as before
abbrev pub LengtheningRecords : {D : Type 0} → Ghosts D → Type 0
LengtheningRecords {D = D} d =
    (h : Past) (old left : D) → IsLengthened d old left → StandsRecorded d h old
    → StandsRecorded d h left

-- and it tells as much of its input as before
abbrev pub LengthenedTells : {D : Type 0} → Ghosts D → Type 0
LengthenedTells {D = D} d =
    (h : Past) (file : List ℕ) (old longer : D) → d.is_honest old
    → StandsFed d (Some file) h old → IsReadied (d.content old) (d.content longer) → (said : Option ℕ)
    → offset_from said (d.content longer) ≡ offset_from said (d.content old)
