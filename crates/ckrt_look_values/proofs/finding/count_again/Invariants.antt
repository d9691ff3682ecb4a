use Rattle.std.proofs.Common.{◌≡◌, false, take}
use Rattle.std.specs.List.{list_any}
use Rattle.ckrt_look_values.specs.Values.{is_at}
use Rattle.ckrt_look_values.proofs.finding.count_again.Given as goal

-- none before is of this place, and all are as they were
abbrev pub invariant-loop-place : goal.invariant-loop-place
invariant-loop-place l =
    (l.findings ≡ l.fn.findings) × (list_any (is_at l.it) (take l.place l.fn.findings.items) ≡ false)
