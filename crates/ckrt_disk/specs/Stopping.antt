-- The disk that stops: what its fill does at the stop, byte by byte.
use Rattle.std.specs.Prelude.{◌≡◌, ◌+◌, ℕ, Bool, List, length}
use Rattle.ckrt_disk.specs.Disk.{IsOverwritten, IsStopped}
use Rattle.ckrt_disk.specs.Marked.{IsFilled, IsMarked}
use Rattle.ckrt_disk.specs.declared.stopping.StoppingDisk.{StoppingDisk}

-- the bytes that it lays over the pending ones at its stop
abbrev pub fill_of : StoppingDisk → List ℕ
fill_of disk = disk.fill.items

abbrev content_of : StoppingDisk → List ℕ
content_of disk = disk.marked.bytes.items

abbrev pending_of : StoppingDisk → ℕ → Type 0
pending_of disk = IsMarked disk.marked.pending.items

-- the next write or sync is the one at which it stops
abbrev pub StopsNext : StoppingDisk → Type 0
StopsNext disk = disk.count.at_call ≡ length disk.count.history.states + 1

-- it has stopped before
abbrev pub HasStopped : StoppingDisk → Type 0
HasStopped disk = IsStopped disk.count.at_call (length disk.count.history.states)

-- a write: at the stop its bytes go in first, and then the fill over all pending bytes; after it no byte changes
pub record LaysFillAtWrite (old : StoppingDisk) (at : ℕ) (bytes : List ℕ) (ok : Bool)
    (new : StoppingDisk) : Type 0 where
  pub at_stop : StopsNext old
      → (written : List ℕ) × IsOverwritten (content_of old) at bytes written
      × IsFilled (pending_of new) (fill_of old) written (content_of new)
  pub after_stop : HasStopped old → content_of new ≡ content_of old
  pub fill : fill_of new ≡ fill_of old

-- a sync: at the stop the fill over all pending bytes; after it no byte changes
pub record LaysFillAtSync (old : StoppingDisk) (ok : Bool) (new : StoppingDisk) : Type 0 where
  pub at_stop : StopsNext old
      → IsFilled (pending_of old) (fill_of old) (content_of old) (content_of new)
  pub after_stop : HasStopped old → content_of new ≡ content_of old
  pub fill : fill_of new ≡ fill_of old
