use Rattle.std.proofs.Common.{◌≡◌, ◌+◌, drop}
use Rattle.ckrt_look_profile.specs.Stacks.{place_of}
use Rattle.ckrt_look_profile.proofs.row.place_of.Given as goal

-- none of the rows before is the one that is looked for
abbrev pub invariant-loop-place : goal.invariant-loop-place
invariant-loop-place l = place_of l.base l.entry l.rows ≡ l.place + place_of l.base l.entry (drop l.place l.rows)
