-- The names that a kit keeps of threads, in the guest's memory (docs/ABI.md, "Names of threads", this project's choice).
use Rattle.std.specs.Prelude.{ℕ, ◌+◌, ◌-◌, ◌*◌, Bool, ◌==◌, List, [], take, drop, nat_le, if◌then◌else◌}
use Rattle.std.specs.List.{position}
use Rattle.std.specs.Option.{option_map_or}
use Rattle.ckrt_look_recording.specs.Frames.{word_at}

-- at most 15 bytes from an address on, where that is in the memory
abbrev pub bytes_at : List ℕ → ℕ → List ℕ
bytes_at bytes address = if nat_le 4096 address then take 15 (drop (address - 4096) bytes) else []

abbrev pub is_zero : ℕ → Bool
is_zero byte = byte == 0

-- the bytes before the first zero, or all
abbrev pub before_zero : List ℕ → List ℕ
before_zero bytes = option_map_or (λ at. take at bytes) (position is_zero bytes) bytes

-- the name of a thread, by the word for it in the table, which is the address of its record: there from byte 24 on. No bytes where it has none
abbrev pub name_of : List ℕ → (table thread : ℕ) → List ℕ
name_of bytes table thread =
    option_map_or (λ at. before_zero (bytes_at bytes (at + 24))) (word_at bytes (table + 4 * thread)) []
