-- Faults of recovery as those of the inspector.
use Rattle.std.proofs.Common.{◌≡◌, ◌≢◌, ℕ, List, Option, Some, Err, refl}
use Rattle.ckrt_stored.specs.declared.fault.RecoverFault.{RecoverFault}
use Rattle.ckrt_stored.specs.declared.fault.RecoverFault.TheVariants as recover
use Rattle.ckrt_stored.specs.Past.{HasPast}
use Rattle.ckrt_stored.specs.Reads as reads
use Rattle.ckrt_stored.specs.Recovery.{AgreesOnFault, Recovers}
use Rattle.ckrt_stored.proofs.PastFaultLemmas.{past_fault}
use Rattle.ckrt_inspect.specs.declared.fault.InspectFault.TheVariants.{Range, Write}
use Rattle.ckrt_inspect.specs.Inspect.{IsFaultOf, is_device, of_recovery}

-- a fault of the whole image
pub fault_of_whole : (at : Option ℕ) (fault : RecoverFault) (image : List ℕ) → AgreesOnFault fault (Recovers image) → IsFaultOf at image (of_recovery fault)
fault_of_whole at recover.NotFormatted image is = is
fault_of_whole at recover.Version image is = is
fault_of_whole at recover.Damaged image is = is
fault_of_whole at recover.Device image is = tt
fault_of_whole at recover.OutOfMemory image is = tt

-- a fault of its past
pub fault_of_past : (count : ℕ) (fault : RecoverFault) (image : List ℕ) → AgreesOnFault fault (HasPast count image) → IsFaultOf (Some count) image (of_recovery fault)
fault_of_past count recover.NotFormatted image is = past_fault count image recover.NotFormatted is
fault_of_past count recover.Version image is = past_fault count image recover.Version is
fault_of_past count recover.Damaged image is = past_fault count image recover.Damaged is
fault_of_past count recover.Device image is = tt
fault_of_past count recover.OutOfMemory image is = tt

-- the disk failed it, or didn't
pub same_device : (X Y : Type 0) (fault : RecoverFault) → reads.is_device {X = X} (Err fault) ≡ is_device {X = Y} (Err (of_recovery fault))
same_device X Y recover.NotFormatted = refl
same_device X Y recover.Version = refl
same_device X Y recover.Damaged = refl
same_device X Y recover.Device = refl
same_device X Y recover.OutOfMemory = refl

-- the writer didn't
pub not_writing : (fault : RecoverFault) → of_recovery fault ≢ Write
not_writing recover.NotFormatted = λ e. absurd (cc)
not_writing recover.Version = λ e. absurd (cc)
not_writing recover.Damaged = λ e. absurd (cc)
not_writing recover.Device = λ e. absurd (cc)
not_writing recover.OutOfMemory = λ e. absurd (cc)

-- nor was a count asked for
pub not_range : (fault : RecoverFault) → of_recovery fault ≢ Range
not_range recover.NotFormatted = λ e. absurd (cc)
not_range recover.Version = λ e. absurd (cc)
not_range recover.Damaged = λ e. absurd (cc)
not_range recover.Device = λ e. absurd (cc)
not_range recover.OutOfMemory = λ e. absurd (cc)
