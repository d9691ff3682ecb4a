-- The disk that fails one call.
use Rattle.std.specs.Prelude.{◌≡◌, ◌⊎◌, ◌+◌, ◌-◌, ◌^◌, ℕ, min, Bool, true, false, List, [], ◌∷◌}
use Rattle.ckrt_disk.specs.Disk.{IsWithin}
use Rattle.ckrt_disk.specs.declared.failing.Span.{Span}
use Rattle.ckrt_disk.specs.declared.failing.FailingDisk.{FailingDisk}

-- in one of these ranges
abbrev pub IsInSpans : List Span → ℕ → Type 0
IsInSpans [] i = ⊥
IsInSpans (s ∷ ss) i = IsWithin s.at s.len i ⊎ IsInSpans ss i

abbrev pub inner_of : {D : Type 0} → FailingDisk D → D
inner_of disk = disk.inner.disk

-- the number of the call that it fails
abbrev pub at_call_of : {D : Type 0} → FailingDisk D → ℕ
at_call_of disk = disk.at_call

-- the number of the last call: its reads, writes and syncs so far
abbrev pub count_of : {D : Type 0} → FailingDisk D → ℕ
count_of disk = disk.count

-- The call at_call fails and isn't done; every other call is one of the inner disk, with its answer. `failures` and
-- `calls` are the inner disk's, `counted` is 1 for a write or sync, and `given` is what the inner disk gives.
pub record FailsOnce {D : Type 0} (failures calls : D → ℕ) (counted : ℕ) (old new : FailingDisk D)
    (ok : Bool) (given : Type 0) : Type 0 where
  pub number : count_of new ≡ min (count_of old + 1) (2 ^ 64 - 1)
  pub at_call : at_call_of new ≡ at_call_of old
  pub skipped : count_of new ≡ at_call_of new → (ok ≡ false) × (inner_of new ≡ inner_of old)
  pub inner_calls : ¬ (count_of new ≡ at_call_of new)
      → calls (inner_of new) ≡ calls (inner_of old) + counted
  pub inner_ok : ¬ (count_of new ≡ at_call_of new) → ok ≡ true
      → failures (inner_of new) ≡ failures (inner_of old)
  pub inner_err : ¬ (count_of new ≡ at_call_of new) → ok ≡ false
      → failures (inner_of new) ≡ min (failures (inner_of old) + 1) (2 ^ 64 - 1)
  pub inner_gives : ¬ (count_of new ≡ at_call_of new) → given
