-- How many bytes of its input the program of an image has taken.
use Rattle.std.specs.Prelude.{◌≡◌, ◌+◌, ◌&&◌, ℕ, Bool, false, List, nat_eq, if◌then◌else◌, Option, Some, None, option_map, Result, Ok, Err}
use Rattle.ckrt_journal.specs.Chain.{batches_of, journal_bytes}
use Rattle.ckrt_journal.specs.declared.fault.JournalFault.{JournalFault}
use Rattle.ckrt_stored.specs.declared.area.Area.{Area}
use Rattle.ckrt_stored.specs.declared.config.Config.{Config}
use Rattle.ckrt_stored.specs.Layout.{journal_of}
use Rattle.ckrt_stored.specs.declared.fault.RecoverFault.{RecoverFault}
use Rattle.ckrt_stored.specs.Progress.{of_journal}
use Rattle.ckrt_stored.specs.Reads.{is_device}
use Rattle.ckrt_stored.specs.Recovery.{◌>>=◌, AgreesOnFault, Is, events_of_batches, in_use}
use Rattle.ckrt_schedule.specs.Taken.{taken_by}
use Rattle.ckrt_drive.specs.declared.offset_fault.OffsetFault.{OffsetFault}
use Rattle.ckrt_drive.specs.declared.offset_fault.OffsetFault.TheVariants.{Unrecovered, NotRecorded}
use Rattle.ckrt_drive.specs.declared.slot.Slot.{Slot}
use Rattle.ckrt_drive.specs.Slot.{slot_of}

-- the area has the state before the first event: it was formatted, and never written since
abbrev pub is_first : Area → Bool
is_first area = nat_eq area.header.generation 1 && nat_eq area.header.count 0

-- what a slot says of an area: nothing, unless it has the area's generation and its number of events
abbrev pub recorded_in : Area → Option Slot → Option ℕ
recorded_in area None = None
recorded_in area (Some s) = if nat_eq s.generation area.header.generation && nat_eq s.count area.header.count then Some s.taken else None

-- how much the events that led to an area's state took, if that is known
abbrev pub saved_offset : Config → Area → (image : List ℕ) → Option ℕ
saved_offset c area image = if is_first area then Some 0 else recorded_in area (slot_of c area.index image)

-- the batches of an area's journal
abbrev pub journaled : Config → Area → (image : List ℕ) → Result (List (List ℕ)) JournalFault
journaled c area image =
    batches_of area.header.version
    (journal_bytes (journal_of c area.index area.header.version) image)

-- how much the events of batches took
abbrev pub taken_in : Result (List (List ℕ)) JournalFault → Result ℕ RecoverFault
taken_in (Ok batches) = Ok (taken_by (events_of_batches batches))
taken_in (Err e) = Err (of_journal e)

-- both together
abbrev pub with_saved : Option ℕ → ℕ → Option ℕ
with_saved saved more = option_map (λ n. n + more) saved

-- How many bytes of its input the program of an image has taken: what its area in use says, and the Inputs of its journal. None where the
-- slot isn't the area's: it was saved without a record.
abbrev pub offset_of : (image : List ℕ) → Result (Option ℕ) RecoverFault
offset_of image = in_use image >>= λ used. taken_in (journaled used.0 used.1 image) >>= λ more. Ok (with_saved (saved_offset used.0 used.1 image) more)

-- The same where the caller says how much the events took that led to the state of the area in use: what the area says itself counts first.
abbrev pub or_said : (saved said : Option ℕ) → Option ℕ
or_said saved None = saved
or_said None (Some n) = Some n
or_said (Some n) (Some other) = Some n

abbrev pub offset_from : (said : Option ℕ) → (image : List ℕ) → Result (Option ℕ) RecoverFault
offset_from said image =
    in_use image >>= λ used. taken_in (journaled used.0 used.1 image)
    >>= λ more. Ok (with_saved (or_said (saved_offset used.0 used.1 image) said) more)

-- THE ANSWER

-- what a reading answers is that, unless the device or the memory failed
abbrev pub Tells : Result ℕ OffsetFault → Result (Option ℕ) RecoverFault → Type 0
Tells (Ok n) told = told ≡ Ok (Some n)
Tells (Err NotRecorded) told = told ≡ Ok None
Tells (Err (Unrecovered fault)) told = AgreesOnFault fault (Is told)

-- the device failed it
abbrev pub fails_by_device : Result ℕ OffsetFault → Bool
fails_by_device (Ok n) = false
fails_by_device (Err NotRecorded) = false
fails_by_device (Err (Unrecovered fault)) = is_device {X = Unit {0}} (Err fault)
