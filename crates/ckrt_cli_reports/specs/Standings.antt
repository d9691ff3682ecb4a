-- What the status of a drive tells.
use Rattle.std.specs.Prelude.{ℕ, Option}
use Rattle.ckrt_disk.specs.declared.disk.Disk.{Ghosts}
use Rattle.ckrt_inspect.specs.declared.metrics.Readings.{Readings}
use Rattle.ckrt_inspect.specs.declared.metrics.Standing.{Standing}
use Rattle.ckrt_recovery.specs.declared.session.Session.{Session}
use Rattle.ckrt_stored.specs.Recovery.{room_of}

-- What is read off a session that stands so, with the guest steps since its drive began and how much input its program was given: as acknowledged
-- no event counts but those of the session, and no byte of output but what it has released.
abbrev pub readings_of : {D : Type 0} {g : Ghosts D} → Session D g → (steps : ℕ)
    → (taken : Option ℕ) → Standing → Readings
readings_of s steps taken standing = record {
  events = s.progress.count;
  acknowledged = s.acknowledged;
  steps = steps;
  output = s.released;
  input = taken;
  generation = s.progress.generation;
  room = room_of s.progress.journal;
  standing = standing;
}
