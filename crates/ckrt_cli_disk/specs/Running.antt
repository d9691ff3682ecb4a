-- The run of a disk: from its start to the disk that comes back. What was written goes from a to b, and what was left to read from r to s.
use Rattle.std.specs.Prelude.{◌≡◌, ◌≢◌, ◌≤◌, ◌⊎◌, ℕ, true, List, ◌++◌, length, take, Option, None, Result, Ok, Err}
use Rattle.std.specs.List.{AllByRecursion}
use Rattle.std.specs.Io.KnownBytes.{Appends, Consumes, IsAtEnd}
use Rattle.ckrt_disk.specs.Disk.{HasFailed}
use Rattle.ckrt_disk.specs.Frame.{IsSameDisk, MayBeLeft}
use Rattle.ckrt_disk.specs.declared.disk.Disk.{Ghosts}
use Rattle.ckrt_events.specs.declared.event.Event.{Event}
use Rattle.ckrt_stored.specs.Programs.{Program, RecoversTo, output_after}
use Rattle.ckrt_stored.specs.Reads.{is_device}
use Rattle.ckrt_stored.specs.Recovery.{AgreesOnFault, Recovered, Recovers}
use Rattle.ckrt_stored.specs.declared.fault.RecoverFault.{RecoverFault}
use Rattle.ckrt_recovery.specs.Between.{RecoversBetween, StandsIn}
use Rattle.ckrt_disk.specs.Lists.{IsBeginningOf}
use Rattle.ckrt_recovery.specs.Opening.{IsSyncedAndRead}
use Rattle.ckrt_main.specs.Replies.{acks_of, oks_of, outs_of, shown_up_to, text_of}
use Rattle.ckrt_main.specs.Transcript.{Fate, transcript}
use Rattle.ckrt_recovery.specs.View.{opened}
use Rattle.ckrt_main.specs.Service.{Shows}
use Rattle.ckrt_main.specs.declared.fault.ServeFault.TheVariants as serve
use Rattle.ckrt_cli_reports.specs.declared.fault.JobFault.{JobFault}
use Rattle.ckrt_cli_reports.specs.declared.fault.JobFault.TheVariants as job
use Rattle.ckrt_cli_disk.specs.declared.running.Unserved.{Unserved}

-- the faults that come before a byte is read or written
abbrev pub IsBeforeService : JobFault → Type 0
IsBeforeService (job.Recover f) = Unit {0}
IsBeforeService _ = ⊥

-- a fault of recovery is the one that the content recovers to
abbrev pub AgreesOnJob : JobFault → (Result Recovered RecoverFault → Type 0) → Type 0
AgreesOnJob (job.Recover f) Holds = AgreesOnFault f Holds
AgreesOnJob _ Holds = Unit {0}

-- the disk that a run hands back
abbrev pub disk_of : {D : Type 0} → Result D (Unserved D) → D
disk_of (Ok disk) = disk
disk_of (Err u) = u.disk

-- The disk keeps these events, those that were recovered: all of them are the recovered ones and the accepted ones after them.
pub record KeepsEvents {D : Type 0} (d : Ghosts D) (start end : D) (p : Program)
    (recovered acknowledged all : List Event) (limit : ℕ) : Type 0 where
  -- the recovered ones are acknowledged
  pub more : IsBeginningOf recovered acknowledged
  -- what a stop left since the start was possible at the start, or recovers to a list between the recovered events and all
  pub since_start : (image : List ℕ) → d.left_since end (d.moment start) image
      → MayBeLeft d start image ⊎ RecoversBetween p recovered all limit image
  -- and what a stop may leave of the disk that comes back, to one between the acknowledged events and all
  pub left : (image : List ℕ) → MayBeLeft d end image
      → RecoversBetween p acknowledged all limit image

-- The device failed no call, or the commit or checkpoint that the fate names.
pub record IsFated {D : Type 0} (d : Ghosts D) (start end : D) (fate : Fate) : Type 0 where
  pub well : fate ≡ None → d.failures end ≡ d.failures start
  pub failed : fate ≢ None → HasFailed (d.failures start) (d.failures end)

-- The disk recovered, and was served. What was written is a beginning of the transcript of what was recovered; no more was acknowledged and
-- accepted than the disk keeps, and no more confirmed than was written.
pub record Serves {D : Type 0} (d : Ghosts D) (start end : D) (a b r s : Option (List ℕ))
    : Type 0 where
  pub recovered : Recovered
  pub recovers : d.is_honest end → Recovers (d.content start) (Ok recovered)
  -- what was read
  pub read : List ℕ
  pub consumed : Consumes r s read
  -- which commit or checkpoint the device failed
  pub fate : Fate
  pub fated : IsFated d start end fate
  -- what was written
  pub shows : Shows a b (transcript fate (opened recovered) read).replies
  -- that many events are acknowledged, and each line ack has at most that number
  pub acknowledged : ℕ
  pub acks : AllByRecursion (λ k. k ≤ acknowledged) (acks_of (shows.replies ++ shows.broken))
  -- output up to this offset is confirmed, which is in lines that were written whole
  pub confirmed : ℕ
  pub shown : confirmed ≤ shown_up_to recovered.confirmed shows.replies
  -- the events that were accepted
  pub accepted : List Event
  -- each has its line ok, of which the last may be broken off
  pub answered : oks_of (shows.replies ++ shows.broken) ≡ length accepted
  pub some : IsBeginningOf accepted (transcript fate (opened recovered) read).events
  -- the disk keeps the events that it recovered to, with those, and each line of output is the plain fold's of the acknowledged ones
  pub keeps : d.is_honest end → (p : Program) (events : List Event) (limit : ℕ)
      → RecoversTo p events limit (d.content start)
      → KeepsEvents d start end p events (take acknowledged (events ++ accepted))
      (events ++ accepted) confirmed
  pub outs : d.is_honest end → (p : Program) (events : List Event) (limit : ℕ)
      → RecoversTo p events limit (d.content start)
      → AllByRecursion (StandsIn (output_after p (take acknowledged (events ++ accepted))))
      (outs_of (shows.replies ++ shows.broken))

-- It was served to the end: what was read ends the input or has a line quit, and the whole transcript was written.
pub record ServesAll {D : Type 0} (d : Ghosts D) (start end : D) (a b r s : Option (List ℕ))
    : Type 0 where
  pub recovered : Recovered
  pub recovers : d.is_honest end → Recovers (d.content start) (Ok recovered)
  pub read : List ℕ
  pub consumed : Consumes r s read
  pub fate : Fate
  pub fated : IsFated d start end fate
  pub ended : IsAtEnd s ⊎ ((transcript fate (opened recovered) read).quit ≡ true)
  pub written : Appends a b (text_of (transcript fate (opened recovered) read).replies)

-- Nothing was recovered, before a byte was read or written: the fault is the content's, or the device failed a call, or memory was refused.
pub record IsUnrecovered {D : Type 0} (d : Ghosts D) (start end : D) (a b r s : Option (List ℕ))
    (fault : JobFault) : Type 0 where
  pub why : RecoverFault
  pub is : fault ≡ job.Recover why
  pub content : d.is_honest end → AgreesOnFault why (Recovers (d.content start))
  -- it is Device exactly where a call failed, and the failures grew then
  pub disk : IsSyncedAndRead d start end (is_device {X = Unit {0}} (Err why))
  pub unwritten : b ≡ a
  pub unread : s ≡ r

-- the reader or the writer failed
abbrev pub IsOfStream : JobFault → Type 0
IsOfStream fault = (fault ≡ job.Serve serve.Read) ⊎ (fault ≡ job.Serve serve.Write)

-- how a run ended
abbrev pub EndsRun : {D : Type 0} → Ghosts D → D → (a b r s : Option (List ℕ))
    → Result D (Unserved D) → Type 0
EndsRun d start a b r s (Ok end) = Serves d start end a b r s × ServesAll d start end a b r s
EndsRun d start a b r s (Err u) =
    IsUnrecovered d start u.disk a b r s u.fault
    ⊎ (Serves d start u.disk a b r s × IsOfStream u.fault)

-- a run
pub record RunsDisk {D : Type 0} (d : Ghosts D) (start : D) (a b r s : Option (List ℕ))
    (result : Result D (Unserved D)) : Type 0 where
  -- size, named stop, and no more honest than before
  pub same : IsSameDisk d start (disk_of result)
  pub ends : EndsRun d start a b r s result
