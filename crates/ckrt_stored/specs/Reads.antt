-- What an answer of recovery says of the disk.
use Rattle.std.specs.Prelude.{Bool, true, false, List, ℕ, Result, Ok, Err}
use Rattle.ckrt_disk.specs.declared.disk.Disk.{Ghosts}
use Rattle.ckrt_stored.specs.declared.fault.RecoverFault.{RecoverFault}
use Rattle.ckrt_stored.specs.declared.fault.RecoverFault.TheVariants.{NotFormatted, Version, Damaged, Device, OutOfMemory}
use Rattle.ckrt_stored.specs.Recovery.{Agrees}

-- the disk failed a call of it
abbrev pub is_device : {X : Type 0} → Result X RecoverFault → Bool
is_device (Ok x) = false
is_device (Err NotFormatted) = false
is_device (Err Version) = false
is_device (Err Damaged) = false
is_device (Err Device) = true
is_device (Err OutOfMemory) = false

-- What a reading of an honest disk gives, seen by view, is what holds of its content, unless the device or the memory failed.
abbrev pub IsReadAs : {D X Y : Type 0} → Ghosts D → (old new : D) → (X → Y) → Result X RecoverFault
    → (List ℕ → Result Y RecoverFault → Type 0) → Type 0
IsReadAs d old new view result Holds = d.is_honest new → Agrees view (λ e. e) result (Holds (d.content old))
