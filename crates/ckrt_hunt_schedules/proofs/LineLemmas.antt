-- An output that goes on byte by byte.
use Rattle.std.proofs.Common.{◌≡◌, ◌∙◌, ℕ, ◌+◌, ◌<◌, List, length, take, get_or, ap, sym}
use Rattle.std.specs.List.{fold}
use Rattle.std.proofs.lemmas.List.Sums.{fold_more}
use Rattle.ckrt_hunt_schedules.specs.declared.last_line.LastLine.{LastLine}
use Rattle.ckrt_hunt_schedules.specs.LastLines.{heard}

-- one byte more
pub heard_more : (bytes : List ℕ) (i d : ℕ) (start now new : LastLine) → i < length bytes → now ≡ fold heard start (take i bytes) → new ≡ heard now (get_or bytes i d) → new ≡ fold heard start (take (i + 1) bytes)
heard_more bytes i d start now new lt so_far one =
    one ∙ ap (λ (l : LastLine). heard l (get_or bytes i d)) so_far ∙ sym (fold_more heard start bytes i d lt)
