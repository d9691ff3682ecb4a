-- The room of a shadow of a guest's memory, which goes by parts of 1,024 words (this project's choice).
use Rattle.std.specs.Prelude.{ℕ, ◌+◌, ◌/◌, min, length}
use Rattle.ckrt_machine.specs.Steps.{State}

-- how many words of memory there are, from address 0 on
abbrev pub words_of : State → ℕ
words_of s = 1024 + length s.bytes / 4

-- how many slots a room of so many bytes has, of so many bytes each: no more than there are parts of so many words
abbrev pub slots_in : (room part words : ℕ) → ℕ
slots_in room part words = min (room / part) (words / 1024 + 1)
