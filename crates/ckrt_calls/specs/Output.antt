-- The output of a program (this project's choice).
use Rattle.std.specs.Prelude.{ℕ}

-- how many bytes of output are held at most: those that the program has put and nobody has confirmed
abbrev pub HELD_LIMIT : ℕ
HELD_LIMIT = 16384
