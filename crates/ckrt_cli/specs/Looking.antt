-- Looking at a stretch of what a disk or a history has recorded: what is told of it is written as a text.
use Rattle.std.specs.Prelude.{◌≡◌, ◌⊎◌, ◌+◌, ℕ, nat_lt, Bool, true, false, List, length, Option, Some, None, Result, Ok, Err, unwrap_or}
use Rattle.ckrt_disk.specs.Frame.{IsOnlyRead}
use Rattle.ckrt_disk.specs.declared.disk.Disk.{Ghosts}
use Rattle.ckrt_events.specs.declared.event.Event.{Event}
use Rattle.ckrt_machine.specs.Events.{fold}
use Rattle.ckrt_machine.specs.Steps.{State}
use Rattle.ckrt_inspect.specs.Inspect.{is_device}
use Rattle.ckrt_inspect.specs.Listing.{listing_by}
use Rattle.ckrt_inspect.specs.declared.fault.InspectFault.{InspectFault}
use Rattle.ckrt_inspect.specs.declared.fault.InspectFault.TheVariants.{Range}
use Rattle.ckrt_history.specs.declared.fault.HistoryFault.{HistoryFault}
use Rattle.ckrt_look_recording.specs.Recording.{Recorded, recorded_of}
use Rattle.ckrt_look_recording.specs.declared.recording.Recording.{Recording}
use Rattle.ckrt_look_recording.specs.declared.rule.Rule.{Rule}
use Rattle.ckrt_look_calls.specs.Recorded.{AreLines}
use Rattle.ckrt_look_calls.specs.Stretches.{Account, TellsRecording, TellsStretch, account}
use Rattle.ckrt_look_calls.specs.declared.stretch.Stretch.{Stretch}
use Rattle.ckrt_look_profile.specs.Recorded.{IsProfileText}
use Rattle.ckrt_look_profile.specs.declared.form.Form.{Form as ProfileTextForm}
use Rattle.ckrt_look_profile.specs.declared.form.Form.TheVariants as profile
use Rattle.ckrt_look_races.specs.Recorded.{races_account}
use Rattle.ckrt_look_races.specs.declared.recorded.TheConstants.{ROOM}
use Rattle.ckrt_look_values.specs.Recorded.{checks_account}
use Rattle.ckrt_look_timeline.specs.Recorded.{IsDrawing}
use Rattle.ckrt_look_timeline.specs.Widths.{is_width}
use Rattle.ckrt_look_timeline.specs.declared.recorded.Style.{Style}
use Rattle.ckrt_look_timeline.specs.declared.words.Form.{Form}
use Rattle.ckrt_look_timeline.specs.declared.words.Form.TheVariants as form
use Rattle.ckrt_cli_words.specs.Jobs.{DiskStretch, Drawing, Inspection, Profiling, Shadowing}
use Rattle.ckrt_cli_words.specs.declared.job.ProfileForm.{ProfileForm}
use Rattle.ckrt_cli_words.specs.declared.job.ProfileForm.TheVariants as asked
use Rattle.ckrt_cli_disk.specs.Near.{ReadsNear, with_snapshot_closed}
use Rattle.ckrt_cli_disk.specs.declared.near.NearRead.{NearRead}
use Rattle.ckrt_cli_files.specs.Openings.{Openings, opened, with_closed, with_disk}
use Rattle.ckrt_cli_reports.specs.Outside.{IsRefused, Outside, asked_for}
use Rattle.ckrt_cli_reports.specs.Ranges.{ends_before, is_room}
use Rattle.ckrt_cli_reports.specs.declared.fault.JobFault.{JobFault}
use Rattle.ckrt_cli_reports.specs.declared.fault.JobFault.TheVariants as job

-- What a job looks at: a stretch, the disks that its path may stand for, and what is told of its events.
pub record Sight (D : Type 0) : Type 1 where
  pub stretch : DiskStretch
  pub Opens : D → Type 0
  pub Tells : Account

abbrev pub sight : {D : Type 0} → DiskStretch → (D → Type 0) → Account → Sight D
sight s Opens Tells = record { stretch = s; Opens = Opens; Tells = Tells }

-- behind how many events the stretch begins, behind how many it ends, and how many of its last ones are told
abbrev pub stretch_of : DiskStretch → Stretch
stretch_of s = record { from = s.from; to = s.to; last = s.last }

-- what the job answers
abbrev pub answer_of : Result (Unit {0}) InspectFault → Result (Unit {0}) JobFault
answer_of (Ok done) = Ok done
answer_of (Err Range) = Err job.Unrecorded
answer_of (Err f) = Err (job.Inspect f)

-- A disk that was opened to be looked at was only read, and closed as it was then. What is told of it was written, if it was honest to that end, or
-- the fault is what it says.
pub record LooksOpened {D : Type 0} (d : Ghosts D) (it : Sight D) (asked new : Outside D)
    (result : Result (Unit {0}) JobFault) : Type 0 where
  pub start : D
  pub is_opened : it.Opens start
  pub end : D
  pub answer : Result (Unit {0}) InspectFault
  pub gives : result ≡ answer_of answer
  pub read : IsOnlyRead d start end (is_device answer)
  pub tells : d.is_honest end
      → TellsStretch it.Tells (stretch_of it.stretch) (d.content start) asked.written
      new.written answer
  pub closes : new.openings ≡ with_closed asked.openings end
  pub unread : new.unread ≡ asked.unread

-- a stretch of this was told, or why it wasn't
abbrev pub TellsRecorded : Account → Stretch → Recorded → (old new : Option (List ℕ))
    → Result (Unit {0}) JobFault → Type 0
TellsRecorded a s r old new result =
    (answer : Result (Unit {0}) InspectFault) × (result ≡ answer_of answer)
    × TellsRecording a s r old new answer

-- that of what was read of a history; nothing is written where nothing was read
abbrev pub TellsRead : Account → Stretch → Result Recording HistoryFault
    → (old new : Option (List ℕ)) → Result (Unit {0}) JobFault → Type 0
TellsRead a s (Ok r) old new result = TellsRecorded a s (recorded_of r) old new result
TellsRead a s (Err f) old new result = (result ≡ Err (job.History f)) × (new ≡ old)

-- A history that was opened was only read, and closed as it was then, as was the snapshot of which it was read on, where one was opened. What
-- was read is what it has recorded, from the snapshot on where that was taken, if it was honest to that end; and that was told.
pub record LooksInHistory {D : Type 0} (d : Ghosts D) (it : Sight D) (asked new : Outside D)
    (result : Result (Unit {0}) JobFault) : Type 0 where
  pub start : D
  pub is_opened : it.Opens start
  pub end : D
  pub near : NearRead D
  pub openings : Openings D
  pub reads : ReadsNear d (stretch_of it.stretch) start end asked.openings openings near
  pub tells : TellsRead it.Tells (stretch_of it.stretch) near.answer asked.written new.written
      result
  pub closes : new.openings ≡ with_closed (with_snapshot_closed openings near.file) end
  pub unread : new.unread ≡ asked.unread

-- what was opened is a history, where the words say so, and else a disk
abbrev pub LooksAt : (is_history : Bool) → {D : Type 0} → Ghosts D → Sight D → (asked new : Outside D)
    → Result (Unit {0}) JobFault → Type 0
LooksAt true d it asked new result = LooksInHistory d it asked new result
LooksAt false d it asked new result = LooksOpened d it asked new result

-- the disk or the history of the stretch was looked at, or that can't be opened
abbrev pub LooksThere : {D : Type 0} → Ghosts D → Sight D → (old new : Outside D)
    → Result (Unit {0}) JobFault → Type 0
LooksThere d it old new result =
    IsRefused it.stretch.disk old new result
    ⊎ LooksAt it.stretch.history d it
    (asked_for old (with_disk old.openings (opened it.stretch.disk))) new result

-- What the disk or the history of the job's path has recorded was told, or why it wasn't. Of a stretch that would end before it begins nothing was asked for.
abbrev pub LooksPath : {D : Type 0} → Ghosts D → Sight D → (old new : Outside D)
    → Result (Unit {0}) JobFault → Type 0
LooksPath d it old new result =
    ((ends_before it.stretch.from it.stretch.to ≡ true) × (result ≡ Err job.Range) × (new ≡ old))
    ⊎ ((ends_before it.stretch.from it.stretch.to ≡ false) × LooksThere d it old new result)

-- `calls`: its calls, a line each
abbrev pub TracesPath : {D : Type 0} → Ghosts D → (D → Type 0) → DiskStretch
    → (old new : Outside D) → Result (Unit {0}) JobFault → Type 0
TracesPath d Opens s old new result =
    LooksPath d (sight s Opens (account AreLines)) old new result

-- how many bytes a shadow may take
abbrev pub room_of : Option ℕ → ℕ
room_of memory = unwrap_or memory ROOM

-- `races`: its data races, a line for each pair of places, with what is told of both accesses by these rules. Where its shadow would have too few bytes
-- nothing was asked for
abbrev pub RacesPath : {D : Type 0} → Ghosts D → (D → Type 0) → List Rule → Shadowing
    → (old new : Outside D) → Result (Unit {0}) JobFault → Type 0
RacesPath d Opens rules s old new result =
    ((is_room s.memory ≡ false) × (result ≡ Err job.Range) × (new ≡ old))
    ⊎ ((is_room s.memory ≡ true)
    × LooksPath d (sight s.stretch Opens (races_account rules (room_of s.memory))) old new result)

-- `check`: its errors of memory and its uses of values that were never stored, a line for each place, with what is told of the first one there
-- by these rules. Where its shadow would have too few bytes nothing was asked for
abbrev pub ChecksPath : {D : Type 0} → Ghosts D → (D → Type 0) → List Rule → Shadowing
    → (old new : Outside D) → Result (Unit {0}) JobFault → Type 0
ChecksPath d Opens rules s old new result =
    ((is_room s.memory ≡ false) × (result ≡ Err job.Range) × (new ≡ old))
    ⊎ ((is_room s.memory ≡ true)
    × LooksPath d (sight s.stretch Opens (checks_account rules (room_of s.memory))) old new result)

-- `inspect` of a history: the listing of the program behind all events of the stretch
abbrev pub IsListing : (with_code : Bool) → (k : ℕ) → List Event → State → (text : List ℕ) → Type 0
IsListing with_code k es s text = text ≡ listing_by with_code (k + length es) (fold es s).state

-- of all events up to that moment, none of which is told
abbrev pub moment_of : Inspection → DiskStretch
moment_of i = record { disk = i.disk; history = true; from = None; to = i.at; last = Some 0 }

abbrev pub ListsPath : {D : Type 0} → Ghosts D → (D → Type 0) → Inspection → (old new : Outside D)
    → Result (Unit {0}) JobFault → Type 0
ListsPath d Opens i old new result =
    LooksPath d (sight (moment_of i) Opens (account (IsListing i.code))) old new result

-- `timeline`: what its threads did, as trace events with `--json`, else as a picture
abbrev pub form_of : Bool → Form
form_of true = form.Events
form_of false = form.Picture

abbrev pub style_of : Drawing → Style
style_of j = record { form = form_of j.json; width = j.width }

-- where the width is out of its range nothing was asked for
abbrev pub TimelinePath : {D : Type 0} → Ghosts D → (D → Type 0) → Drawing → (old new : Outside D)
    → Result (Unit {0}) JobFault → Type 0
TimelinePath d Opens j old new result =
    ((is_width j.width ≡ false) × (result ≡ Err job.Range) × (new ≡ old))
    ⊎ ((is_width j.width ≡ true)
    × LooksPath d (sight j.stretch Opens (account (IsDrawing (style_of j)))) old new result)

-- `profile`: where its steps went, in the form that the words ask for
abbrev pub profile_form_of : ProfileForm → ProfileTextForm
profile_form_of asked.Table = profile.Table
profile_form_of asked.Folded = profile.Folded
profile_form_of asked.Callgrind = profile.Callgrind

abbrev pub ProfilesPath : {D : Type 0} → Ghosts D → (D → Type 0) → Profiling
    → (old new : Outside D) → Result (Unit {0}) JobFault → Type 0
ProfilesPath d Opens p old new result =
    LooksPath d (sight p.stretch Opens (account (IsProfileText (profile_form_of p.form)))) old new
    result
