use Rattle.std.proofs.Common.{◌≡◌, ◌≤◌, ◌<◌, ◌-◌, ℕ, false, slice_index}
use Rattle.ckrt_disk.specs.Frame.{WritesWithin}
use Rattle.ckrt_stored.proofs.filling.fill.Given as goal

abbrev pub decreases-loop-at : goal.decreases-loop-at
decreases-loop-at g l = g.D.Disk.size l.disk - l.at

abbrev pub invariant-loop-at : goal.invariant-loop-at
invariant-loop-at g l = record {
  behind : l.from ≤ l.at;
  within : WritesWithin g.D.Disk (λ i. l.from ≤ i) (g.D.Disk.calls l.disk - g.D.Disk.calls l.fn.disk) l.fn.disk l.disk false;
  zeros : g.D.Disk.is_honest l.disk → (i : ℕ) → l.from ≤ i → i < l.at → slice_index (g.D.Disk.content l.disk) i ≡ 0;
}
