-- Keeping a history: how far it goes is told. Where the words name a disk it is begun from it first, or brought up to it. Where they name a part,
-- that is made of it, and how far that goes is told (this project's choice).
use Rattle.std.specs.Prelude.{◌≡◌, ◌⊎◌, ◌++◌, ◌∷◌, ◌+◌, ◌-◌, ◌^◌, ℕ, List, [], codes, decimal, min, true, false, Option, Some, None, unwrap_or, Result, Ok, Err, OnOk, IfOk}
use Rattle.std.specs.Io.KnownBytes.{Appends}
use Rattle.ckrt_disk.specs.Frame.{AtAnyMoment, IsOnlyRead}
use Rattle.ckrt_disk.specs.declared.disk.Disk.{Ghosts}
use Rattle.ckrt_stored.specs.Write.{IsDurable}
use Rattle.ckrt_history.specs.Copying.{WritesIn}
use Rattle.ckrt_history.specs.Beginning.{WritesAt}
use Rattle.ckrt_history.specs.Either.{HasJoined, IsJoining, TellsJoined}
use Rattle.ckrt_history.specs.Joining.{is_disk_fault, is_file_fault}
use Rattle.ckrt_history.specs.Parting.{IsPartOf, IsParting, PartsAt, TellsPart, is_part_fault, is_whole_fault}
use Rattle.ckrt_history.specs.Reads.{IsReadAs, is_device}
use Rattle.ckrt_history.specs.Span.{TellsSpan}
use Rattle.ckrt_history.specs.declared.fault.HistoryFault.{HistoryFault}
use Rattle.ckrt_history.specs.declared.join_fault.JoinFault.{JoinFault}
use Rattle.ckrt_history.specs.declared.joined.Joined.{Joined}
use Rattle.ckrt_history.specs.declared.joined.Joined.TheVariants.{Begun, Appended}
use Rattle.ckrt_history.specs.declared.part_fault.PartFault.{PartFault}
use Rattle.ckrt_history.specs.declared.part_fault.PartFault.TheVariants.{Part, TooSmall, Unrecorded, Whole}
use Rattle.ckrt_history.specs.declared.part_stretch.PartStretch.{PartStretch}
use Rattle.ckrt_history.specs.declared.span.Span.{Span}
use Rattle.ckrt_main.specs.declared.fault.ServeFault.TheVariants as serve
use Rattle.ckrt_cli_words.specs.Jobs.{HistoryKeeping}
use Rattle.ckrt_cli_disk.specs.Equipping.{fault_of}
use Rattle.ckrt_cli_files.specs.Openings.{Openings, opened, refused, with_all_closed, with_closed, with_disk, with_history}
use Rattle.ckrt_cli_files.specs.declared.file.FileFault.{FileFault}
use Rattle.ckrt_cli_files.specs.declared.file.JobFile.{JobFile}
use Rattle.ckrt_cli_files.specs.declared.file.JobFile.TheVariants as file
use Rattle.ckrt_cli_files.specs.declared.output.OpenedOutput.{OpenedOutput}
use Rattle.ckrt_cli_reports.specs.Outside.{Lacks, Outside}
use Rattle.ckrt_cli_reports.specs.Ranges.{is_history_in_range}
use Rattle.ckrt_cli_reports.specs.declared.fault.JobFault.{JobFault}
use Rattle.ckrt_cli_reports.specs.declared.fault.JobFault.TheVariants as job
use Rattle.ckrt_cli.specs.declared.made.Origin.{Origin}
use Rattle.ckrt_cli.specs.declared.made.Origin.TheVariants as origin

-- WHAT IS PRINTED

-- what became of the file, where one was to get a history
abbrev pub joined_text : Option Joined → List ℕ
joined_text None = []
joined_text (Some Begun) = codes "begun" ++ 10 ∷ []
joined_text (Some (Appended n)) = codes "appended " ++ (decimal n ++ 10 ∷ [])

-- how many events are done after its last one; the number stays at its greatest value
abbrev pub end_of : Span → ℕ
end_of s = min (s.first + s.count) (2 ^ 64 - 1)

-- which events it has, and how many bytes
abbrev pub span_text : Span → List ℕ
span_text s =
    codes "events " ++ (decimal s.first ++ (codes " to " ++ (decimal (end_of s)
    ++ (10 ∷ codes "bytes " ++ (decimal s.bytes ++ 10 ∷ [])))))

abbrev pub history_text : Option Joined × Span → List ℕ
history_text told = joined_text told.0 ++ span_text told.1

-- the text was written, or the writer failed
abbrev pub SaysHistory : (a b : Option (List ℕ)) → List ℕ → Result (Unit {0}) JobFault → Type 0
SaysHistory a b text (Ok done) = Appends a b text
SaysHistory a b text (Err e) = e ≡ job.Serve serve.Write

-- that of what was found; nothing is written where nothing was
abbrev pub SaysFound : (a b : Option (List ℕ)) → Result (Option Joined × Span) JobFault
    → Result (Unit {0}) JobFault → Type 0
SaysFound a b (Ok told) result = SaysHistory a b (history_text told) result
SaysFound a b (Err e) result = (result ≡ Err e) × (b ≡ a)

-- A HISTORY THAT IS LOOKED AT

-- What is told where it was read how far a history goes, or why it wasn't.
abbrev pub span_or_fault : (Told : HistoryFault → JobFault) → Option Joined → Result Span HistoryFault
    → Result (Option Joined × Span) JobFault
span_or_fault Told joined (Ok span) = Ok (joined, span)
span_or_fault Told joined (Err f) = Err (Told f)

-- How far it goes was read, and nothing was written.
pub record Measures {D : Type 0} (d : Ghosts D) (start end : D) (answer : Result Span HistoryFault)
    : Type 0 where
  pub read : IsOnlyRead d start end (is_device answer)
  pub tells : IsReadAs d start end (λ s. s) answer TellsSpan

-- A history that was opened to be looked at was closed as it was then.
pub record MeasuresOpened {D : Type 0} (d : Ghosts D) (Opens : D → Type 0) (asked new : Openings D)
    (result : Result (Option Joined × Span) JobFault) : Type 0 where
  pub start : D
  pub is_opened : Opens start
  pub end : D
  pub answer : Result Span HistoryFault
  pub gives : result ≡ span_or_fault (λ f. job.History f) None answer
  pub measures : Measures d start end answer
  pub closes : new ≡ with_closed asked end

-- the history of this path was looked at, or it can't be opened
abbrev pub MeasuresPath : {D : Type 0} → Ghosts D → (D → Type 0) → (path : List ℕ)
    → (old new : Openings D) → Result (Option Joined × Span) JobFault → Type 0
MeasuresPath d Opens path old new result =
    Lacks file.History path (with_disk old) new result
    ⊎ MeasuresOpened d Opens (with_disk old (opened path)) new result

-- ONE THAT IS MADE

-- what a history is made of, and the file that is to have it
pub record Both (D : Type 0) : Type 0 where
  pub source : D
  pub history : D

abbrev pub both : {D : Type 0} → (source history : D) → Both D
both source history = record { source = source; history = history }

-- A history was begun from the disk in a file that had so many bytes, or brought up to it, or why it wasn't; the disk was only read.
pub record Joins {D : Type 0} (d : Ghosts D) (bytes : ℕ) (old new : Both D)
    (result : Result Joined JoinFault) : Type 0 where
  -- what a stop at any moment leaves
  pub any_moment : d.is_honest new.source → AtAnyMoment d old.history new.history
      (IsJoining (d.content old.source) d old.history)
  pub read : IsOnlyRead d old.source new.source (is_disk_fault result)
  pub within : WritesIn d (WritesAt result) old.history new.history (is_file_fault result)
  pub refused : d.is_honest new.source → d.is_honest new.history
      → TellsJoined bytes (d.size old.history) (d.content old.source) (d.content old.history) result
  pub joined : IfOk result (λ it. d.is_honest new.source → d.is_honest new.history
      → HasJoined (d.content old.source) (d.content old.history) it (d.content new.history))
  pub durable : OnOk result (d.is_honest new.history → IsDurable d new.history)

-- which part a file of so many bytes is to get
pub record Piece : Type 0 where
  pub stretch : PartStretch
  pub bytes : ℕ

abbrev pub piece : PartStretch → ℕ → Piece
piece stretch bytes = record { stretch = stretch; bytes = bytes }

-- The part of the history was made in the file, or why it wasn't; the history was only read.
pub record Cuts {D : Type 0} (d : Ghosts D) (it : Piece) (old new : Both D)
    (result : Result (Unit {0}) PartFault) : Type 0 where
  -- what a stop at any moment leaves
  pub any_moment : d.is_honest new.source → AtAnyMoment d old.history new.history
      (IsParting it.stretch (d.content old.source) d old.history)
  pub read : IsOnlyRead d old.source new.source (is_whole_fault result)
  pub within : WritesIn d (PartsAt result) old.history new.history (is_part_fault result)
  pub refused : d.is_honest new.source → d.is_honest new.history
      → TellsPart it.stretch it.bytes (d.size old.history) (d.content old.source)
      (d.content old.history) result
  pub begun : OnOk result (d.is_honest new.source → d.is_honest new.history
      → IsPartOf it.stretch (d.content old.source) (d.content new.history))
  pub durable : OnOk result (d.is_honest new.history → IsDurable d new.history)

-- what a job answers where no part was made
abbrev pub cut_fault : PartFault → JobFault
cut_fault (Whole f) = job.History f
cut_fault Unrecorded = job.Unrecorded
cut_fault (Part f) = job.Part f
cut_fault TooSmall = job.PartFull

-- what became of the file, or why it has no history of the disk, or no part
abbrev pub joined_or_fault : Result Joined JoinFault → Result Joined JobFault
joined_or_fault (Ok joined) = Ok joined
joined_or_fault (Err f) = Err (fault_of f)

abbrev pub cut_or_fault : Result (Unit {0}) PartFault → Result Joined JobFault
cut_or_fault (Ok done) = Ok Begun
cut_or_fault (Err f) = Err (cut_fault f)

-- of a disk, or as a part of another history
abbrev pub Makes : {D : Type 0} → Ghosts D → Origin → (bytes : ℕ) → (old new : Both D)
    → Result Joined JobFault → Type 0
Makes d origin.Disk bytes old new made =
    (answer : Result Joined JoinFault) × (made ≡ joined_or_fault answer)
    × Joins d bytes old new answer
Makes d (origin.Part stretch) bytes old new made =
    (answer : Result (Unit {0}) PartFault) × (made ≡ cut_or_fault answer)
    × Cuts d (piece stretch bytes) old new answer

-- what a job answers where it isn't read how far that goes
abbrev pub unread : Origin → HistoryFault → JobFault
unread origin.Disk f = job.History f
unread (origin.Part stretch) f = job.Part f

-- after that it was read how far the history goes; a fault is told, and then nothing is read
abbrev pub MeasuresMade : {D : Type 0} → Ghosts D → Origin → Result Joined JobFault
    → (start end : D) → Result (Option Joined × Span) JobFault → Type 0
MeasuresMade d o (Ok joined) start end result =
    (answer : Result Span HistoryFault) × (result ≡ span_or_fault (unread o) (Some joined) answer)
    × Measures d start end answer
MeasuresMade d o (Err f) start end result = (result ≡ Err f) × (end ≡ start)

pub record MakesAndMeasures {D : Type 0} (d : Ghosts D) (o : Origin) (bytes : ℕ) (old new : Both D)
    (result : Result (Option Joined × Span) JobFault) : Type 0 where
  pub made : Result Joined JobFault
  pub between : D
  pub makes : Makes d o bytes old (both new.source between) made
  pub measures : MeasuresMade d o made between new.history result

-- The two files that were opened were closed as that left them.
pub record MakesOpened {D : Type 0} (d : Ghosts D) (o : Origin) (Opens : D → Type 0)
    (Outputs : OpenedOutput D → Type 0) (asked new : Openings D)
    (result : Result (Option Joined × Span) JobFault) : Type 0 where
  pub source : D
  pub is_source : Opens source
  pub output : OpenedOutput D
  pub is_output : Outputs output
  pub end : Both D
  pub makes : MakesAndMeasures d o output.length (both source output.output) end result
  pub closes : new ≡ with_all_closed asked (Some end.history) None end.source

-- what the two files are to the job
abbrev pub files_of : Origin → JobFile × JobFile
files_of origin.Disk = (file.Disk, file.History)
files_of (origin.Part stretch) = (file.History, file.Part)

-- the file of this path can't be opened, and the other was closed as it was opened
pub record LacksMade {D : Type 0} (at : JobFile) (Opens : D → Type 0) (path : List ℕ)
    (asked new : Openings D) (result : Result (Option Joined × Span) JobFault) : Type 0 where
  pub source : D
  pub is_source : Opens source
  pub why : FileFault
  pub is : result ≡ Err (job.File at why)
  pub closes : new ≡ with_closed (with_history asked (refused path why)) source

-- the path of a history, and the outputs that it may stand for
pub record Place (D : Type 0) : Type 1 where
  pub path : List ℕ
  pub Outputs : OpenedOutput D → Type 0

abbrev pub place : {D : Type 0} → List ℕ → (OpenedOutput D → Type 0) → Place D
place path Outputs = record { path = path; Outputs = Outputs }

-- with what was opened for it, in the file of this path
abbrev pub MakesWith : {D : Type 0} → Ghosts D → Origin → (D → Type 0) → Place D
    → (asked new : Openings D) → Result (Option Joined × Span) JobFault → Type 0
MakesWith d o Opens it asked new result =
    LacksMade (files_of o).1 Opens it.path asked new result
    ⊎ MakesOpened d o Opens it.Outputs (with_history asked (opened it.path)) new result

-- what a history is made of, by its path, and the place of the history
pub record Making (D : Type 0) : Type 1 where
  pub source : List ℕ
  pub Opens : D → Type 0
  pub at : Place D

-- what it is made of is opened, and the history made, or brought up to it; or that can't be opened
abbrev pub MakesFrom : {D : Type 0} → Ghosts D → Origin → Making D → (old new : Openings D)
    → Result (Option Joined × Span) JobFault → Type 0
MakesFrom d o it old new result =
    Lacks (files_of o).0 it.source (with_disk old) new result
    ⊎ MakesWith d o it.Opens it.at (with_disk old (opened it.source)) new result

-- THE JOB

-- what the sources may give for it: the disks of a path, and the outputs
pub record Given (D : Type 0) : Type 1 where
  pub Opens : List ℕ → D → Type 0
  pub Outputs : List ℕ → OpenedOutput D → Type 0

abbrev pub given : {D : Type 0} → (List ℕ → D → Type 0) → (List ℕ → OpenedOutput D → Type 0)
    → Given D
given Opens Outputs = record { Opens = Opens; Outputs = Outputs }

-- a history at this path, of what the other path has
abbrev pub making : {D : Type 0} → Given D → (source path : List ℕ) → Making D
making it source path =
    record { source = source; Opens = it.Opens source; at = place path (it.Outputs path) }

-- which part the words ask for; where they go together they say where it begins
abbrev pub stretch_of : HistoryKeeping → PartStretch
stretch_of k = record { from = unwrap_or k.from 0; to = k.to }

-- a part of the history is made, or it is brought up to the disk of a path, or only looked at
abbrev pub FindsAsked : {D : Type 0} → Ghosts D → Given D → HistoryKeeping
    → (part disk : Option (List ℕ)) → (old new : Openings D)
    → Result (Option Joined × Span) JobFault → Type 0
FindsAsked d it k (Some part) disk old new result =
    MakesFrom d (origin.Part (stretch_of k)) (making it k.file part) old new result
FindsAsked d it k None (Some disk) old new result =
    MakesFrom d origin.Disk (making it disk k.file) old new result
FindsAsked d it k None None old new result =
    MeasuresPath d (it.Opens k.file) k.file old new result

-- as the words ask; of words that don't go together nothing was asked for
abbrev pub Finds : {D : Type 0} → Ghosts D → Given D → HistoryKeeping → (old new : Openings D)
    → Result (Option Joined × Span) JobFault → Type 0
Finds d it k old new result =
    ((is_history_in_range k ≡ false) × (result ≡ Err job.Range) × (new ≡ old))
    ⊎ ((is_history_in_range k ≡ true) × FindsAsked d it k k.part k.disk old new result)

-- and how far it goes is told
pub record TellsHistory {D : Type 0} (d : Ghosts D) (it : Given D) (k : HistoryKeeping)
    (old new : Outside D) (result : Result (Unit {0}) JobFault) : Type 0 where
  pub found : Result (Option Joined × Span) JobFault
  pub finds : Finds d it k old.openings new.openings found
  pub says : SaysFound old.written new.written found result
  pub unread : new.unread ≡ old.unread
