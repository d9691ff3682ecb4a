-- Runs by their words, and their status.
use Rattle.std.proofs.Common.{◌≡◌, ℕ, List, subst}
use Rattle.ckrt_disk.specs.declared.disk.Disk.{Ghosts}
use Rattle.ckrt_cli.specs.Performing.{Reach}
use Rattle.ckrt_witness.specs.Words.{Ended}

pub with_status : {D W : Type 0} {d : Ghosts D} {it : Reach d W} {words : List (List ℕ)} (got want : ℕ) → got ≡ want → Ended it words got → Ended it words want
with_status {it = it} {words = words} got want same run = subst (λ (status : ℕ). Ended it words status) same run
