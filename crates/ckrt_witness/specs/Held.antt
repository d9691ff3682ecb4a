-- What three files hold over their calls, of three sizes; and the disk, opened once more, what a stop left of it.
use Rattle.std.specs.Prelude.{ℕ, List, [], ◌∷◌, replicate}
use Rattle.ckrt_disk.specs.declared.file_use.FileUse.{FileUse}
use Rattle.ckrt_disk.specs.declared.file_use.FileUse.TheVariants as opened_as

-- what the disk holds once it was stopped
abbrev pub left_bytes : List ℕ
left_bytes = replicate 24 7

-- the first time it is as it was made, and later as it was left
abbrev pub disk_bytes : {X : Type 0} → (before : List X) → List ℕ
disk_bytes [] = replicate 24 0
disk_bytes (x ∷ xs) = left_bytes

-- By its openings, the newest first. A drive gives its output more bytes than any file has; here they are 40, so that the proof computes.
abbrev pub held_by : List (FileUse × List ℕ) → List ℕ
held_by [] = []
held_by ((opened_as.Disk, path) ∷ before) = disk_bytes before
held_by ((opened_as.Filled, path) ∷ before) = disk_bytes before
held_by ((opened_as.Longer, path) ∷ before) = disk_bytes before
held_by ((opened_as.Output, path) ∷ before) = replicate 40 46
held_by ((opened_as.Input, path) ∷ before) = 65 ∷ 66 ∷ 67 ∷ 68 ∷ 69 ∷ []
