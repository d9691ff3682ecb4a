-- The input of a hunt: the file that the words name, which is read whole, as an image is, before the first run.
use Rattle.std.specs.Prelude.{◌≡◌, ◌⊎◌, ◌<◌, ℕ, List, length, Option, Some, None}
use Rattle.ckrt_cli_files.specs.Openings.{Openings, opened, refused, with_image}
use Rattle.ckrt_cli_files.specs.declared.file.JobFile.TheVariants as file
use Rattle.ckrt_cli_reports.specs.declared.fault.JobFault.{JobFault}
use Rattle.ckrt_cli_reports.specs.declared.fault.JobFault.TheVariants as job

-- a read of it failed
abbrev pub IsUnreadable : JobFault → Type 0
IsUnreadable (job.File at why) = at ≡ file.Input
IsUnreadable _ = ⊥

-- How a hunt ended on the input of this path: it was refused, or a read of it failed; there was no memory for it; it is longer than a hunt gives.
abbrev pub EndsOnInput : {D : Type 0} → (known : Option (List ℕ)) → (path : List ℕ)
    → (old new : Openings D) → JobFault → Type 0
EndsOnInput known path old new (job.File file.Input why) =
    (new ≡ with_image old (refused path why)) ⊎ (new ≡ with_image old (opened path))
EndsOnInput known path old new job.OutOfMemory = new ≡ with_image old (opened path)
EndsOnInput known path old new job.InputTooLong =
    (new ≡ with_image old (opened path))
    × ((bytes : List ℕ) → known ≡ Some bytes → 1048576 < length bytes)
EndsOnInput known path old new _ = ⊥

abbrev pub EndsOnAskedInput : {D : Type 0} → (known : List ℕ → Option (List ℕ))
    → (path : Option (List ℕ)) → (old new : Openings D) → JobFault → Type 0
EndsOnAskedInput known None old new why = ⊥
EndsOnAskedInput known (Some path) old new why = EndsOnInput (known path) path old new why

-- the bytes are those of the file of this path, where they are known; without one there are none
abbrev pub IsAskedInput : (known : List ℕ → Option (List ℕ)) → (path : Option (List ℕ))
    → (input : Option (List ℕ)) → Type 0
IsAskedInput known None None = Unit {0}
IsAskedInput known None (Some input) = ⊥
IsAskedInput known (Some path) None = ⊥
IsAskedInput known (Some path) (Some input) =
    (bytes : List ℕ) → known path ≡ Some bytes → input ≡ bytes

-- it was asked for, where there is one
abbrev pub with_asked_input : {D : Type 0} → (path : Option (List ℕ)) → Openings D → Openings D
with_asked_input None old = old
with_asked_input (Some path) old = with_image old (opened path)
