-- What the inspector answers and writes.
use Rattle.std.specs.Prelude.{ℕ, Bool, true, false, List, Option, Some, None, Result, Ok, Err}
use Rattle.std.specs.Io.KnownBytes.{Appends}
use Rattle.ckrt_disk.specs.Frame.{IsOnlyRead}
use Rattle.ckrt_disk.specs.declared.disk.Disk.{Ghosts}
use Rattle.ckrt_stored.specs.declared.fault.RecoverFault.{RecoverFault}
use Rattle.ckrt_stored.specs.declared.fault.RecoverFault.TheVariants as recover
use Rattle.ckrt_stored.specs.Recovery.{Recovered, Recovers}
use Rattle.ckrt_stored.specs.Schedules.{schedule_of}
use Rattle.ckrt_stored.specs.Superblock.{note_of}
use Rattle.ckrt_stored.specs.Past.{HasPast}
use Rattle.ckrt_stored.specs.declared.progress.Progress.{Progress}
use Rattle.ckrt_stored.specs.Progress.{recovered_of}
use Rattle.ckrt_inspect.specs.declared.fault.InspectFault.{InspectFault}
use Rattle.ckrt_inspect.specs.declared.fault.InspectFault.TheVariants.{NotFormatted, Version, Damaged, Device, OutOfMemory, ShadowFull, Write, Range}
use Rattle.ckrt_inspect.specs.declared.shown.Shown.{Shown}
use Rattle.ckrt_inspect.specs.Listing.{disk_listing}

-- a fault of recovery, as one of the inspector
abbrev pub of_recovery : RecoverFault → InspectFault
of_recovery recover.NotFormatted = NotFormatted
of_recovery recover.Version = Version
of_recovery recover.Damaged = Damaged
of_recovery recover.Device = Device
of_recovery recover.OutOfMemory = OutOfMemory

-- what an image recovers to, or recovered to after that many events
abbrev pub RecoversAt : Option ℕ → List ℕ → Recovered → Type 0
RecoversAt None image r = Recovers image (Ok r)
RecoversAt (Some count) image r = HasPast count image (Ok (Some r))

-- the image recovers, but not to a state after that many events
abbrev pub HasNone : Option ℕ → List ℕ → Type 0
HasNone None image = ⊥
HasNone (Some count) image = HasPast count image (Ok None)

-- the program that an image recovers to was written after what the writer had, as it is to be shown, with what the image notes of it
pub record IsListed (shown : Shown) (image : List ℕ) (old new : Option (List ℕ)) : Type 0 where
  pub recovered : Recovered
  pub recovers : RecoversAt shown.at image recovered
  pub written : Appends old new
      (disk_listing shown.with_code recovered.count recovered.state (note_of image)
      (schedule_of image))

-- what a fault says of the image; Device, OutOfMemory and Write say nothing of it, and no shadow is made
abbrev pub IsFaultOf : Option ℕ → List ℕ → InspectFault → Type 0
IsFaultOf at image NotFormatted = Recovers image (Err recover.NotFormatted)
IsFaultOf at image Version = Recovers image (Err recover.Version)
IsFaultOf at image Damaged = Recovers image (Err recover.Damaged)
IsFaultOf at image Range = HasNone at image
IsFaultOf at image Device = Unit {0}
IsFaultOf at image OutOfMemory = Unit {0}
IsFaultOf at image Write = Unit {0}
IsFaultOf at image ShadowFull = ⊥

-- what was read of an image is what it recovers to, or what the fault says
abbrev pub AgreesAt : Option ℕ → List ℕ → Result Progress InspectFault → Type 0
AgreesAt at image (Ok p) = RecoversAt at image (recovered_of p)
AgreesAt at image (Err e) = IsFaultOf at image e

-- the image recovers and was listed, or the fault is what it says
abbrev pub Tells : {X : Type 0} → Shown → List ℕ → Option (List ℕ) → Option (List ℕ)
    → Result X InspectFault → Type 0
Tells shown image old new (Ok x) = IsListed shown image old new
Tells shown image old new (Err e) = IsFaultOf shown.at image e

-- the disk failed a call of it
abbrev pub is_device : {X : Type 0} → Result X InspectFault → Bool
is_device (Ok x) = false
is_device (Err NotFormatted) = false
is_device (Err Version) = false
is_device (Err Damaged) = false
is_device (Err Device) = true
is_device (Err OutOfMemory) = false
is_device (Err Write) = false
is_device (Err ShadowFull) = false
is_device (Err Range) = false

-- The disk that was handed in was only read, and is gone; what was answered and written is what its content tells, if it was honest to its end.
pub record IsInspected {D X : Type 0} (d : Ghosts D) (disk : D) (shown : Shown)
    (old new : Option (List ℕ)) (result : Result X InspectFault) : Type 0 where
  -- the disk as it was given back
  pub end : D
  pub read : IsOnlyRead d disk end (is_device result)
  pub tells : d.is_honest end → Tells shown (d.content disk) old new result
