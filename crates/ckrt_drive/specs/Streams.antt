-- What an output hands on that keeps nothing. The ghost `contents` of a kind of writer says what a writer holds, where that is known.
use Rattle.std.specs.Prelude.{◌≡◌, ◌<◌, ◌+◌, ◌-◌, ℕ, max, Bool, true, false, List, ◌++◌, length, drop, Option, Result}
use Rattle.std.specs.Io.KnownBytes.{Appends}
use Rattle.ckrt_disk.specs.declared.disk.Disk.{Ghosts}
use Rattle.ckrt_events.specs.declared.event.Event.{Event}
use Rattle.ckrt_stored.specs.Programs.{Program}
use Rattle.ckrt_recovery.specs.declared.session.Session.{Session}
use Rattle.ckrt_disk.specs.Lists.{IsBeginningOf}
use Rattle.ckrt_recovery.specs.Represents.{Represents}
use Rattle.ckrt_disk.specs.Writing.{AppendsPart}
use Rattle.ckrt_drive.specs.declared.fault.DriveFault.{DriveFault}
use Rattle.ckrt_drive.specs.declared.options.Options.{Options}
use Rattle.ckrt_schedule.specs.declared.next.ScheduleEnd.{ScheduleEnd}
use Rattle.ckrt_drive.specs.declared.stream.StreamOutput.{StreamOutput}
use Rattle.ckrt_drive.specs.Output.{acknowledged_output}
use Rattle.ckrt_drive.specs.PutOut.{between, is_output_fault}
use Rattle.ckrt_drive.specs.Runs.{Runs}

-- the writer that it is lent, as it is
abbrev pub writer_of : {W : Type 0} → StreamOutput W → W
writer_of stream = stream.writer.now

-- it is lent the same writer still
abbrev pub HasSameWriter : {W : Type 0} → (old new : StreamOutput W) → Type 0
HasSameWriter old new = new.writer.ghost_name ≡ old.writer.ghost_name

-- the offset that it has got to: that of the first byte that it hasn't handed on
abbrev pub got_to : {W : Type 0} → StreamOutput W → ℕ
got_to stream = stream.next

-- the ones of these bytes, from the offset `at` on, that it hasn't handed on
abbrev pub news_of : {W : Type 0} → StreamOutput W → (at : ℕ) → List ℕ → List ℕ
news_of stream at bytes = drop (got_to stream - at) bytes

-- its calls failed from some call on
abbrev pub HasBroken : {W : Type 0} → StreamOutput W → Type 0
HasBroken stream = 0 < stream.failures

-- A write of these bytes at an offset, from old to new: ok is whether it answered Ok.
pub record HandsOn {W : Type 0} (contents : W → Option (List ℕ)) (old : StreamOutput W) (at : ℕ)
    (bytes : List ℕ) (ok : Bool) (new : StreamOutput W) : Type 0 where
  -- where it did, all were handed on that hadn't been
  pub whole : ok ≡ true
      → Appends (contents (writer_of old)) (contents (writer_of new)) (news_of old at bytes)
  -- and it has got to their end
  pub moved : ok ≡ true → got_to new ≡ max (got_to old) (at + length bytes)
  -- where it didn't, a beginning of them was
  pub part : ok ≡ false
      → AppendsPart (contents (writer_of old)) (contents (writer_of new)) (news_of old at bytes)
  -- and it has broken
  pub breaks : ok ≡ false → HasBroken new
  -- after that nothing more is handed on
  pub broken : HasBroken old
      → (ok ≡ false) × (writer_of new ≡ writer_of old) × (got_to new ≡ got_to old)
  pub lent : HasSameWriter old new

-- a read or a sync, which hands nothing on
pub record HandsNothingOn {W : Type 0} (old : StreamOutput W) (ok : Bool) (new : StreamOutput W)
    : Type 0 where
  pub writer : writer_of new ≡ writer_of old
  pub next : got_to new ≡ got_to old
  -- one that fails breaks it
  pub breaks : ok ≡ false → HasBroken new
  pub lent : HasSameWriter old new

-- a sync, which fails only where it had broken
abbrev pub SyncsNothing : {W : Type 0} → (old : StreamOutput W) → (ok : Bool)
    → (new : StreamOutput W) → Type 0
SyncsNothing old ok new = HandsNothingOn old ok new × (ok ≡ false → HasBroken old)

-- A WHOLE RUN OF A DRIVE

-- From a to b a stream handed on these bytes, from an offset up to another, but for those below the offset that it had got to; and where it
-- failed a call, also a beginning of what comes after that.
abbrev pub HandsBetween : {W : Type 0} → (contents : W → Option (List ℕ)) → (from to : ℕ)
    → (out : List ℕ) → (a b : StreamOutput W) → (failed : Bool) → Type 0
HandsBetween contents from to out a b false =
    Appends (contents (writer_of a)) (contents (writer_of b)) (between (max (got_to a) from) to out)
HandsBetween contents from to out a b true =
    (front : List ℕ) × IsBeginningOf front (drop (max (got_to a) to) out) × Appends (contents (writer_of a)) (contents (writer_of b)) (between (max (got_to a) from) to out ++ front)

-- From s to t a session took these events, and its stream went from a to b, whether it failed a call or not.
pub record StreamsOutput {D W : Type 0} {g : Ghosts D} (contents : W → Option (List ℕ))
    (accepted : List Event) (s t : Session D g) (a b : StreamOutput W) (failed : Bool)
    : Type 0 where
  -- what it handed on is the plain fold's output of acknowledged events, from the offset that it had got to, or that was confirmed in s if
  -- that is higher, up to the one that is confirmed in t
  pub hands : g.is_honest t.disk → (p : Program) (events : List Event) → Represents p events s
      → HandsBetween contents s.progress.confirmed t.progress.confirmed
      (acknowledged_output p (events ++ accepted) t) a b failed
  -- it leaves out as much of what comes after as before
  pub left_out : failed ≡ false
      → max (got_to b) t.progress.confirmed ≡ max (got_to a) t.progress.confirmed
  -- it has broken where it failed a call
  pub breaks : failed ≡ true → HasBroken b
  -- and hands nothing on where it had broken before
  pub broken : HasBroken a → writer_of b ≡ writer_of a
  pub lent : HasSameWriter a b

-- whatever run of a drive led from s to t, and its stream from a to b
abbrev pub GetsTheOutput : {D W : Type 0} {g : Ghosts D} → Ghosts (StreamOutput W)
    → (contents : W → Option (List ℕ)) → (s t : Session D g) → (a b : StreamOutput W) → Type 0
GetsTheOutput o contents s t a b =
    (options : Options) (steps first last : ℕ) (result : Result (Option ScheduleEnd) DriveFault)
    → (runs : Runs o options steps first last s t a b result)
    → StreamsOutput contents runs.accepted s t a b (is_output_fault result)
