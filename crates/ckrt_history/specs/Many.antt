-- A history beside a disk and an output, over many runs: the disk is made ready, a history is opened, a drive keeps it or doesn't, one after
-- another, each stopped at any moment.
use Rattle.std.specs.Prelude.{◌≡◌, ◌⊎◌, ℕ, false, List, [], ◌∷◌, ◌++◌, length, map, Option, Result, Ok}
use Rattle.ckrt_disk.specs.Frame.{MayBeLeft}
use Rattle.ckrt_disk.specs.Lists.{IsBeginningOf}
use Rattle.ckrt_disk.specs.declared.disk.Disk.{Ghosts}
use Rattle.ckrt_drive.specs.Stages.{Stage}
use Rattle.ckrt_drive.specs.declared.options.Options.{Options}
use Rattle.ckrt_drive.specs.Drives.{IsDrive, OneDrive, StopLeaves}
use Rattle.ckrt_drive.specs.Lengthening.{IsLengthened}
use Rattle.ckrt_drive.specs.Together.{IsLeftSince, Past, StandTogether, StandsRecorded, past}
use Rattle.ckrt_events.specs.declared.event.Event.{Event}
use Rattle.ckrt_recovery.specs.Represents.{Represents, acknowledged_of}
use Rattle.ckrt_stored.specs.Programs.{Program, RecoversToStart, state_after}
use Rattle.ckrt_stored.specs.Recorded.{RecoversRecorded}
use Rattle.ckrt_stored.specs.Write.{IsDurable}
use Rattle.ckrt_look_recording.specs.Recording.{HasRecording, Recorded}
use Rattle.ckrt_history.specs.Appending.{EndsAt}
use Rattle.ckrt_history.specs.History.{HasHistory}
use Rattle.ckrt_history.specs.Keeping.{Advances, GoesKeeping, KeepingStage, keeping_stage}
use Rattle.ckrt_history.specs.Opening.{IsOpenedOn, IsOpening}
use Rattle.ckrt_history.specs.declared.keeping_fault.KeepingFault.{KeepingFault}
use Rattle.ckrt_history.specs.declared.kept.KeptHistory.{KeptHistory}

-- WHOSE EVENTS THEY ARE

-- What is recorded are just these events of a program: it begins with the plain fold's state behind the first ones, and has the others.
pub record IsHistoryOf (p : Program) (events : List Event) (r : Recorded) : Type 0 where
  pub skipped : List Event
  pub first : r.first ≡ length skipped
  pub start : r.start ≡ state_after p skipped
  pub all : events ≡ skipped ++ r.events

-- An image that has recorded the events to which it recovers has just these, as a look at its recording reads them.
abbrev pub RecordingsAreTheirs : Type 0
RecordingsAreTheirs =
    (p : Program) (events : List Event) (limit : ℕ) (image : List ℕ)
    → RecoversRecorded p events limit image
    → (r : Recorded) × HasRecording image r × IsHistoryOf p events r

-- WHAT STANDS

-- Whatever a stop may leave of a file: where it is a history, it has just a beginning of these events.
abbrev pub HasAtMost : {K : Type 0} → Ghosts K → Program → List Event → K → Type 0
HasAtMost k p events file =
    (image : List ℕ) (r : Recorded) → MayBeLeft k file image → HasHistory image r
    → (kept : List Event) × IsBeginningOf kept events × IsHistoryOf p kept r

-- at a stage it has, durably, just these events
pub record HasJust {D O K : Type 0} {d : Ghosts D} {o : Ghosts O} {k : Ghosts K} (p : Program)
    (events : List Event) (z : KeepingStage d o k) : Type 0 where
  pub recorded : Recorded
  pub ends : EndsAt z.place (k.content z.file) recorded
  pub theirs : IsHistoryOf p events recorded
  pub durable : IsDurable k z.file

-- a disk, an output and the file of a history, as they are at one moment
pub record Three (D O K : Type 0) : Type 0 where
  pub disk : D
  pub output : O
  pub file : K

-- Disk and output hold together; the disk has recorded the events that it recovers to; and the history has none but acknowledged ones of
-- them.
pub record StandBeside {D O K : Type 0} (d : Ghosts D) (o : Ghosts O) (k : Ghosts K) (h : Past)
    (x : Three D O K) : Type 0 where
  pub together : StandTogether d o h x.disk x.output
  pub recorded : StandsRecorded d h x.disk
  pub kept : HasAtMost k h.program h.acknowledged x.file

-- AN OPENING

-- a stop of it: while the disk was synced the file wasn't called, and behind that the disk was only read
abbrev pub StopsOpening : {D K : Type 0} {d : Ghosts D} {k : Ghosts K} (disk end : D)
    (before after : K) → IsOpening d k disk end before after → (left : D) → (file : K) → Type 0
StopsOpening {d = d} {k = k} disk end before after opening left file =
    (IsLeftSince d disk opening.mid left × IsLeftSince k before before file)
    ⊎ ((opening.failed ≡ false) × IsLeftSince d opening.mid end left
    × IsLeftSince k before after file)

-- from x to y a history was opened, and stopped meanwhile or behind that
pub record IsOpeningRun {D O K : Type 0} (d : Ghosts D) (o : Ghosts O) (k : Ghosts K)
    (x y : Three D O K) : Type 0 where
  pub end : D
  pub after : K
  pub honest : d.is_honest end
  pub file_honest : k.is_honest after
  pub opening : IsOpening d k x.disk end x.file after
  pub stop : StopsOpening x.disk end x.file after opening y.disk y.file
  pub output_honest : o.is_honest x.output
  pub output : IsLeftSince o x.output x.output y.output

-- A DRIVE THAT KEEPS IT

-- from x on, with a step to each of these stages, up to y; the history has what it was owed after each, but perhaps after the last
abbrev pub AdvancesAll : {D O K : Type 0} {d : Ghosts D} {o : Ghosts O} {k : Ghosts K} → Options
    → List (KeepingStage d o k) → (x y : KeepingStage d o k) → Type 0
AdvancesAll options [] x y = y ≡ x
AdvancesAll options (z ∷ []) x y =
    ((kept : Result (Unit {0}) KeepingFault) × Advances options x z kept) × (y ≡ z)
AdvancesAll options (z ∷ w ∷ more) x y =
    Advances options x z (Ok tt) × AdvancesAll options (w ∷ more) z y

-- A stop left this of the three: within the step from `at` on, while the file wasn't called; or while the batch of that step was appended, with
-- the drive at the next stage, while disk and output weren't called; or behind the last.
abbrev pub StopLeavesBeside : {D O K : Type 0} {d : Ghosts D} {o : Ghosts O} {k : Ghosts K}
    → List (KeepingStage d o k) → (x : KeepingStage d o k) → (at : Stage d o) → Three D O K → Type 0
StopLeavesBeside {d = d} {o = o} {k = k} [] x at y =
    (at ≡ x.stage) × IsLeftSince d x.stage.session.disk x.stage.session.disk y.disk
    × IsLeftSince o x.stage.output x.stage.output y.output × IsLeftSince k x.file x.file y.file
StopLeavesBeside {d = d} {o = o} {k = k} (z ∷ more) x at y =
    ((at ≡ x.stage) × IsLeftSince d x.stage.session.disk z.stage.session.disk y.disk
    × IsLeftSince o x.stage.output z.stage.output y.output × IsLeftSince k x.file x.file y.file)
    ⊎ ((at ≡ z.stage) × IsLeftSince d z.stage.session.disk z.stage.session.disk y.disk
    × IsLeftSince o z.stage.output z.stage.output y.output × IsLeftSince k x.file z.file y.file)
    ⊎ StopLeavesBeside more z at y

-- from x to y a history was opened and kept by a drive, up to a stop
pub record IsKeepingRun {D O K : Type 0} (d : Ghosts D) (o : Ghosts O) (k : Ghosts K)
    (x y : Three D O K) : Type 0 where
  -- the disk as the opening left it, and the history as it was opened
  pub disk : D
  pub opened : KeptHistory K k
  pub opening : IsOpening d k x.disk disk x.file opened.file
  pub synced : opening.failed ≡ false
  pub is_opened : IsOpenedOn (d.content x.disk) (k.content x.file) opened
  pub durable : IsDurable k opened.file
  -- the drive, with the file as it was behind each step
  pub options : Options
  pub input : Option (List ℕ)
  pub first : Stage d o
  pub output : first.output ≡ x.output
  pub stages : List (KeepingStage d o k)
  pub last : KeepingStage d o k
  pub at : Stage d o
  pub drive : IsDrive (record {
    start = disk;
    options = options;
    file = input;
    first = first;
    stages = map (λ (z : KeepingStage d o k). z.stage) stages;
    last = last.stage;
    at = at;
  })
  pub keeps : AdvancesAll options stages (keeping_stage k first opened.file opened.place) last
  pub honest : k.is_honest last.file
  pub stop : StopLeavesBeside stages (keeping_stage k first opened.file opened.place) at y

-- A DRIVE WITHOUT IT

-- from x to y a drive was made that leaves the file alone
pub record IsDriveBeside {D O K : Type 0} (d : Ghosts D) (o : Ghosts O) (k : Ghosts K)
    (x y : Three D O K) : Type 0 where
  pub drive : OneDrive d o
  pub is : IsDrive drive
  pub start : drive.start ≡ x.disk
  pub output : drive.first.output ≡ x.output
  pub stop : StopLeaves drive.stages drive.first drive.at y.disk y.output
  pub file_honest : k.is_honest x.file
  pub file : IsLeftSince k x.file x.file y.file

-- A DISK THAT IS MADE READY

-- from x to y the disk was made ready for a drive, as one that is made longer, while output and file weren't called
pub record IsReadyingRun {D O K : Type 0} (d : Ghosts D) (o : Ghosts O) (k : Ghosts K)
    (x y : Three D O K) : Type 0 where
  pub disk : IsLengthened d x.disk y.disk
  pub output_honest : o.is_honest x.output
  pub output : IsLeftSince o x.output x.output y.output
  pub file_honest : k.is_honest x.file
  pub file : IsLeftSince k x.file x.file y.file

-- MANY

-- each begins with what a stop of the one before left
abbrev pub AllRun : {D O K : Type 0} → Ghosts D → Ghosts O → Ghosts K → Three D O K
    → List (Three D O K) → Type 0
AllRun d o k x [] = Unit {0}
AllRun d o k x (y ∷ more) =
    (IsReadyingRun d o k x y ⊎ IsOpeningRun d o k x y ⊎ IsKeepingRun d o k x y
    ⊎ IsDriveBeside d o k x y)
    × AllRun d o k y more

-- the same program, and all that was acknowledged stays so
pub record GoesOnFrom (h now : Past) : Type 0 where
  pub program : now.program ≡ h.program
  pub old : now.old ≡ h.old
  pub acknowledged : IsBeginningOf h.acknowledged now.acknowledged

-- whatever each leaves stands, and goes on from what stood before
abbrev pub AllStandBeside : {D O K : Type 0} → Ghosts D → Ghosts O → Ghosts K → (h : Past)
    → List (Three D O K) → Type 0
AllStandBeside d o k h [] = Unit {0}
AllStandBeside d o k h (y ∷ more) =
    (now : Past) × GoesOnFrom h now × StandBeside d o k now y × AllStandBeside d o k now more

-- LAWS

-- Runs of a disk, an output and the file of a history, by whatever keeps it or doesn't, each stopped at any moment: whatever each leaves of the
-- three stands.
abbrev pub RunsStandBeside : {D O K : Type 0} → Ghosts D → Ghosts O → Ghosts K → Type 0
RunsStandBeside d o k =
    (h : Past) (x : Three _ _ _) (more : List (Three _ _ _)) → StandBeside d o k h x
    → AllRun d o k x more → AllStandBeside d o k h more

-- where they begin: the disk was just formatted, nothing is pending on the output, and the file is no history
abbrev pub BeginBeside : {D O K : Type 0} → Ghosts D → Ghosts O → Ghosts K → Type 0
BeginBeside d o k =
    (p : Program) (x : Three _ _ _)
    → ((image : List ℕ) → MayBeLeft d x.disk image → RecoversToStart p image)
    → ((i : ℕ) → ¬ o.pending x.output i)
    → ((image : List ℕ) (r : Recorded) → MayBeLeft k x.file image → HasHistory image r → ⊥)
    → StandBeside d o k (past p (o.content x.output) [] []) x

-- Behind a run whose appends all went well the history has, durably, just the events that are acknowledged.
abbrev pub KeepsTheAcknowledged : {D O K : Type 0} → Ghosts D → Ghosts O → Ghosts K → Type 0
KeepsTheAcknowledged d o k =
    (h : Past) (x y : Three _ _ _) (run : IsKeepingRun d o k x y) → StandBeside d o k h x
    → GoesKeeping run.options run.stages
    (keeping_stage k run.first run.opened.file run.opened.place) run.last
    → (all : List Event) × Represents h.program all run.last.stage.session
    × HasJust h.program (acknowledged_of all run.last.stage.session) run.last
