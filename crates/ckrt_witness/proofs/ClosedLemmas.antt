-- What closed witnesses are made of.
use Rattle.std.proofs.Common.{◌≡◌, List, ℕ, sym, subst}
use Rattle.ckrt_stored.specs.declared.config.Config.{Config}
use Rattle.ckrt_disk.specs.Frame.{MayBeLeft}
use Rattle.ckrt_disk.specs.declared.disk.Disk.{Ghosts}
use Rattle.ckrt_stored.specs.Format.{FormatsDisk}
use Rattle.ckrt_stored.specs.Programs.{Program, RecoversToStart, formatted_program}

-- the bytes of a disk that was formatted
pub was_formatted : {D : Type 0} (d : Ghosts D) (config : Config) (guest : List ℕ) (old new : D) (bytes : List ℕ) → FormatsDisk d config guest old new → d.is_honest new → MayBeLeft d new (d.content new)
    → bytes ≡ d.content new → (p : Program) × RecoversToStart p bytes
was_formatted d config guest old new bytes made honest reads is = (formatted_program config guest, subst (RecoversToStart (formatted_program config guest)) (sym is) ((made honest).formatted (d.content new) reads).recovers)
