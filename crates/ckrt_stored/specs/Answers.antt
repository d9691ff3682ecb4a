-- What an answer says of the disk, and of the value that its content gives.
use Rattle.std.specs.Prelude.{◌≡◌, ℕ, Bool, true, false, List, Result, Ok, Err}
use Rattle.ckrt_disk.specs.declared.disk.Disk.{Ghosts}
use Rattle.ckrt_stored.specs.declared.area_fault.AreaFault.{AreaFault}
use Rattle.ckrt_stored.specs.declared.area_fault.AreaFault.TheVariants.{Device, Damaged, GenerationsUsed, OutOfMemory, Version}

-- the disk failed a call of it
abbrev pub is_device : {X : Type 0} → Result X AreaFault → Bool
is_device (Ok x) = false
is_device (Err Device) = true
is_device (Err Damaged) = false
is_device (Err GenerationsUsed) = false
is_device (Err OutOfMemory) = false
is_device (Err Version) = false

-- Device and OutOfMemory say nothing of the bytes
abbrev pub AgreesOnFault : {Y : Type 0} → AreaFault → Result Y AreaFault → Type 0
AgreesOnFault Device value = Unit {0}
AgreesOnFault Damaged value = value ≡ Err Damaged
AgreesOnFault GenerationsUsed value = value ≡ Err GenerationsUsed
AgreesOnFault OutOfMemory value = Unit {0}
AgreesOnFault Version value = value ≡ Err Version

-- what a function returned, seen by view, is the value that the content gives, unless the device or the memory failed
abbrev pub Agrees : {X Y : Type 0} → (X → Y) → Result X AreaFault → Result Y AreaFault → Type 0
Agrees view (Ok x) value = value ≡ Ok (view x)
Agrees view (Err e) value = AgreesOnFault e value

-- what a reading of an honest disk gives is what a function gives for its content, unless the device or the memory failed
abbrev pub IsReadAs : {D X : Type 0} → Ghosts D → (old new : D) → Result X AreaFault
    → (List ℕ → Result X AreaFault) → Type 0
IsReadAs d old new result given = d.is_honest new → Agrees (λ x. x) result (given (d.content old))
