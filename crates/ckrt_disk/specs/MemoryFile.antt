-- The file in memory.
use Rattle.std.specs.Prelude.{◌≡◌, ◌-◌, ℕ, List, [], ◌∷◌, drop, length, min, nat_eq, if◌then◌else◌}
use Rattle.ckrt_disk.specs.declared.memory_file.MemoryFile.{MemoryFile}
use Rattle.ckrt_disk.specs.declared.transfer.Transfer.{Transfer}
use Rattle.ckrt_disk.specs.declared.transfer.Transfer.TheVariants.{Done, Interrupted, Failed}

-- the limits of its next calls
abbrev pub limits_of : MemoryFile → List ℕ
limits_of file = drop file.used file.limits.items

-- the first limit, or n where there is none
abbrev pub limit_of : List ℕ → ℕ → ℕ
limit_of [] n = n
limit_of (limit ∷ limits) n = limit

-- what a call answers that may transfer that many bytes: it fails where there are none in the file, a limit of 0 interrupts it,
-- and else it transfers as many as both allow
abbrev pub answer_within : ℕ → ℕ → Transfer
answer_within room limit = if nat_eq room 0 then Failed else if nat_eq limit 0 then Interrupted else Done (min limit room)

-- the answer to a call of n bytes from `at` on, in a file of `size` bytes
abbrev pub answer_to : List ℕ → ℕ → ℕ → ℕ → Transfer
answer_to limits at n size = answer_within (min (size - at) n) (limit_of limits n)

-- a call of n bytes from `at` on is answered so, and uses up a limit
pub record AnswersTo (old : MemoryFile) (at n : ℕ) (answer : Transfer) (new : MemoryFile)
    : Type 0 where
  pub given : answer ≡ answer_to (limits_of old) at n (length old.bytes.items)
  pub used : limits_of new ≡ drop 1 (limits_of old)
