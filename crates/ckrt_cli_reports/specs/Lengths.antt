-- Whether the file of an output, or of an input, may be that of a disk, by its length.
use Rattle.std.specs.Prelude.{ℕ, Bool, nat_le, ◌&&◌}
use Rattle.ckrt_recovery.specs.declared.session.Session.{Session}
use Rattle.ckrt_disk.specs.declared.disk.Disk.{Ghosts}
use Rattle.ckrt_cli_reports.specs.declared.lengths.InputLengths.{InputLengths}
use Rattle.ckrt_cli_reports.specs.declared.lengths.OutputLengths.{OutputLengths}

-- It has at least the bytes that are confirmed: what a sync has kept isn't lost. And at most those that are released: no others were put there.
abbrev pub fits : OutputLengths → Bool
fits l = nat_le l.confirmed l.length && nat_le l.length l.released

-- a file of so many bytes, beside a session
abbrev pub lengths_of : {D : Type 0} {g : Ghosts D} → (length : ℕ) → Session D g → OutputLengths
lengths_of length s =
    record { length = length; confirmed = s.progress.confirmed; released = s.released }

-- the file has the bytes that the program has taken
abbrev pub is_long_enough : InputLengths → Bool
is_long_enough l = nat_le l.taken l.length
