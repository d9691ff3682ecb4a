-- The hunt of the image of a path: what is told, what is kept, and what it comes to.
use Rattle.std.specs.Prelude.{◌≡◌, ◌≢◌, ◌⊎◌, ℕ, zero, suc, ◌+◌, ◌-◌, ◌==◌, Bool, true, false, if◌then◌else◌, List, ◌++◌, length, slice_get, codes, decimal, Option, Some, None, is_some, option_map, Result, Ok, Err, IfErr, IfOk}
use Rattle.std.specs.Io.KnownBytes.{Appends}
use Rattle.ckrt_disk.specs.declared.disk.Disk.{Ghosts}
use Rattle.ckrt_stored.specs.declared.config.Config.{Config}
use Rattle.ckrt_stored.specs.Layout.{is_valid, size_needed}
use Rattle.ckrt_stored.specs.Programs.{formatted_program}
use Rattle.ckrt_stored.specs.declared.fault.FormatFault.TheVariants as format
use Rattle.ckrt_main.specs.declared.fault.ServeFault.TheVariants as serve
use Rattle.ckrt_memory.specs.declared.MemoryError.{MemoryError}
use Rattle.ckrt_memory.specs.declared.MemoryError.TheVariants as memory
use Rattle.ckrt_hunt_schedules.specs.Seeds.{ends_of, seeds_of}
use Rattle.ckrt_hunt_schedules.specs.Short.{IsChosen}
use Rattle.ckrt_hunt_schedules.specs.Shown.{is_shown_at}
use Rattle.ckrt_hunt_schedules.specs.Table.{is_closer, kept_text, unkept_text}
use Rattle.ckrt_hunt_schedules.specs.Tallies.{Hunted, hunted_of, numbers_of, plan_in, shape_of}
use Rattle.ckrt_hunt_schedules.specs.Turns.{bytes_of}
use Rattle.ckrt_hunt_schedules.specs.declared.plan.Input.{Input}
use Rattle.ckrt_hunt_schedules.specs.declared.plan.Plan.{Plan}
use Rattle.ckrt_hunt_schedules.specs.declared.row.Row.{Row}
use Rattle.ckrt_hunt_schedules.specs.declared.shorten.Chosen.{Chosen}
use Rattle.ckrt_hunt_schedules.specs.declared.table.Asked.{Asked}
use Rattle.ckrt_hunt_schedules.specs.declared.table.Look.{Look}
use Rattle.ckrt_hunt_schedules.specs.declared.table.Look.TheVariants as look
use Rattle.ckrt_hunt_schedules.specs.declared.telling.HuntFault.{HuntFault}
use Rattle.ckrt_hunt_schedules.specs.declared.telling.HuntFault.TheVariants as hunt
use Rattle.ckrt_hunt_schedules.specs.declared.verdict.Verdict.{Verdict}
use Rattle.ckrt_hunt_looks.specs.Hunts.{FillsAsked, IsHuntedWith, told_text, verdict_on}
use Rattle.ckrt_hunt_looks.specs.declared.telling.HuntTold.{HuntTold}
use Rattle.ckrt_cli_words.specs.Jobs.{Hunting}
use Rattle.ckrt_cli_files.specs.Openings.{Openings, opened, with_image}
use Rattle.ckrt_cli_files.specs.declared.file.FileFault.{FileFault}
use Rattle.ckrt_cli_files.specs.declared.file.JobFile.{JobFile}
use Rattle.ckrt_cli_files.specs.declared.file.JobFile.TheVariants as file
use Rattle.ckrt_cli_reports.specs.Outside.{Outside}
use Rattle.ckrt_cli_reports.specs.Ranges.{is_hunt_in_range}
use Rattle.ckrt_cli_reports.specs.declared.fault.JobFault.{JobFault}
use Rattle.ckrt_cli_reports.specs.declared.fault.JobFault.TheVariants as job
use Rattle.ckrt_cli_disk.specs.Making.{EndsOnImage, IsFit}
use Rattle.ckrt_cli.specs.declared.found.KeptAt.{KeptAt}
use Rattle.ckrt_cli.specs.declared.found.ToldHunt.{ToldHunt}
use Rattle.ckrt_cli.specs.Inputs.{EndsOnAskedInput, IsAskedInput, with_asked_input}
use Rattle.ckrt_cli.specs.Keeping.{Keeping, Keeps}
use Rattle.ckrt_cli.specs.Looking.{room_of}

-- a disk that a run is kept on has the sizes of the hunt, and the longest journal
abbrev pub config_of : Hunting → Config
config_of h = record { pages = h.pages; harts = h.harts; journal = 1048576 }

abbrev pub kept_size : Hunting → ℕ
kept_size h = size_needed (config_of h)

-- the seeds that the words ask for: all from 1 on that there is time for, or those of a range, which is 1-200 where they name none
abbrev pub seeds_by : (seconds : Option ℕ) → (seeds : Option (List ℕ)) → Option (ℕ × ℕ)
seeds_by None None = seeds_of (codes "1-200")
seeds_by None (Some text) = seeds_of text
seeds_by (Some seconds) seeds = Some (1, 18446744073709551614)

abbrev pub asked_seeds : Hunting → Option (ℕ × ℕ)
asked_seeds h = seeds_by h.seconds h.seeds

-- what each run is looked at for
abbrev pub look_of : Hunting → Look
look_of h =
    if h.races then look.Races else if h.check then look.Errors
    else look.Outcomes

-- What is hunted: what the words ask for, the bytes of the files of a path, where they are known, and the disks that may be made for it.
pub record Hunter (D : Type 0) : Type 1 where
  pub asked : Hunting
  pub known : List ℕ → Option (List ℕ)
  pub Fills : List ℕ → D → Type 0

-- what the job answers where the hunt wasn't told
abbrev pub fault_of : HuntFault → JobFault
fault_of hunt.ImageTooLong = job.Format format.ImageTooLong
fault_of hunt.OutOfMemory = job.OutOfMemory
fault_of hunt.ShadowFull = job.ShadowFull
fault_of hunt.Write = job.Serve serve.Write

-- the table was written of the seeds that were run, and what their runs were looked at for; where it wasn't, nothing was, but where the writer
-- failed; and where the room of the shadow is full, a run fills it
pub record Tells (guest : List ℕ) (input : Input) (asked : Asked) (a b : Option (List ℕ))
    (told : Result HuntTold HuntFault) : Type 0 where
  pub hunted : IfOk told (IsHuntedWith asked.look guest input asked)
  pub written : IfOk told (λ t. Appends a b (told_text asked t))
  pub unwritten : IfErr told (λ e. e ≢ hunt.Write → b ≡ a)
  pub full : IfErr told (λ e. e ≡ hunt.ShadowFull
      → FillsAsked asked.look asked.room (hunted_of guest asked.shape input) asked.seeds)

-- What is sought of a seed of a hunt: a plan that comes to the same, or the one that was drawn, and what is kept by it on the disk of a path.
pub record Sought (D : Type 0) : Type 1 where
  pub hunted : Hunted
  pub seed : ℕ
  pub as_drawn : Bool
  pub keeping : Plan → List ℕ → Keeping D

-- by a hunt of this image, on disks of these sizes
abbrev pub sought_by : {D : Type 0} → Hunted → (seed : ℕ) → (as_drawn : Bool) → Config → (guest : List ℕ)
    → (Fills : List ℕ → D → Type 0) → Sought D
sought_by h seed as_drawn config guest Fills = record {
  hunted = h;
  seed = seed;
  as_drawn = as_drawn;
  keeping = λ p path. record {
    program = formatted_program config guest;
    plan = p;
    path = path;
    Fills = Fills path;
  };
}

-- of a hunt that was told
abbrev pub sought_in : {D : Type 0} → Hunted → ToldHunt → (Fills : List ℕ → ℕ → D → Type 0) → Sought D
sought_in h told Fills =
    sought_by h told.first told.as_drawn told.config told.image.now (λ path. Fills path (size_needed told.config))

-- What is wanted of a hunt besides what is told: disks at this path, if any, and which runs they have.
pub record Wanted (D : Type 0) : Type 1 where
  pub path : Option (List ℕ)
  pub all_rows : Bool
  pub sought : Sought D

-- the run of the first seed of the range
abbrev pub wanted_of : {D : Type 0} → Hunter D → (guest : List ℕ) → Input → Asked → Wanted D
wanted_of it guest input asked = record {
  path = it.asked.keep;
  all_rows = asked.all_rows;
  sought = sought_by (hunted_of guest asked.shape input) asked.seeds.first (is_closer asked.look) (config_of it.asked) guest it.Fills;
}

-- what a hunt has reached: what its sources were asked for, and what its writer has, where that is known
pub record Reached (D : Type 0) : Type 0 where
  pub openings : Openings D
  pub written : Option (List ℕ)

abbrev pub reached : {D : Type 0} → Openings D → (written : Option (List ℕ)) → Reached D
reached openings written = record { openings = openings; written = written }

-- what the job answers where there is no room to look for a shorter schedule
abbrev pub room_fault_of : MemoryError → JobFault
room_fault_of memory.ImageTooLong = job.Format format.ImageTooLong
room_fault_of memory.OutOfMemory = job.OutOfMemory

-- there is none, and nothing was asked for
abbrev pub LacksRoom : {D : Type 0} → (old new : Reached D) → Result (Unit {0}) JobFault → Type 0
LacksRoom old new result =
    (why : MemoryError) × (result ≡ Err (room_fault_of why)) × (new ≡ old)

-- a run that is kept is told, or the writer failed; of one that isn't, nothing is
abbrev pub TellsKept : (told : List ℕ) → (a b : Option (List ℕ))
    → (kept result : Result (Unit {0}) JobFault) → Type 0
TellsKept told a b (Ok done) result =
    ((result ≡ Ok tt) × Appends a b told) ⊎ (result ≡ Err (job.Serve serve.Write))
TellsKept told a b (Err f) result = (result ≡ Err f) × (b ≡ a)

-- it is the seed itself, by its own plan, where its run is kept as it was drawn
abbrev pub IsAsDrawn : Hunted → (seed : ℕ) → (as_drawn : Bool) → Chosen → Type 0
IsAsDrawn h seed true chosen = (chosen.seed ≡ seed) × (chosen.found.plan ≡ plan_in h seed)
IsAsDrawn h seed false chosen = Unit {0}

-- a run was kept that comes to what the seed comes to, as that was drawn or by the shortest schedule that was found, and it is told of which seed
-- it is
pub record KeepsFound {D : Type 0} (d : Ghosts D) (sought : Sought D) (path : List ℕ)
    (old new : Reached D) (result : Result (Unit {0}) JobFault) : Type 0 where
  pub chosen : Chosen
  pub is_chosen : IsChosen sought.hunted sought.seed chosen
  pub drawn : IsAsDrawn sought.hunted sought.seed sought.as_drawn chosen
  pub kept : Result (Unit {0}) JobFault
  pub keeps : Keeps d (sought.keeping chosen.found.plan path) old.openings new.openings kept
  pub tells : TellsKept (kept_text path chosen) old.written new.written kept result

-- THE DISKS OF A FOLDER

-- a folder, and the outcomes, of which those that have lines each get a disk there
pub record Folder : Type 0 where
  pub path : List ℕ
  pub rows : List Row
  pub all_rows : Bool

abbrev pub folder_at : KeptAt → Folder
folder_at at = record { path = at.path.now; rows = at.told.rows.now; all_rows = at.told.all_rows }

-- the outcome at this place has lines
abbrev pub is_kept : Folder → (place : ℕ) → Bool
is_kept folder place = is_shown_at folder.all_rows folder.rows (slice_get folder.rows place)

-- the disk of an outcome, by its number
abbrev pub outcome_path : (folder : List ℕ) → (number : ℕ) → List ℕ
outcome_path folder number = folder ++ codes "outcome-" ++ decimal number ++ codes ".disk"

-- what is sought of an outcome; of the disks that sources make once they were given one back nothing is known
abbrev pub sought_of : {D : Type 0} → Sought D → Row → Sought D
sought_of sought r = record sought {
  seed = r.first;
  keeping = λ p path. record (sought.keeping p path) { Fills = λ disk. Unit {0} };
}

-- one run more was kept: that of the outcome at this place, on the disk with the number after that
pub record KeptOneMore {D : Type 0} (d : Ghosts D) (sought : Sought D) (folder : Folder) (place : ℕ)
    (WasSo : Reached D → Type 0) (new : Reached D) : Type 0 where
  pub before : Reached D
  pub was_so : WasSo before
  pub row : Row
  pub is_row : slice_get folder.rows place ≡ Some row
  pub keeps : KeepsFound d (sought_of sought row) (outcome_path folder.path (place + 1)) before new (Ok tt)

-- one more was kept, or nothing
abbrev pub KeptNext : {D : Type 0} → (is_kept : Bool)
    → (OneMore : (Reached D → Type 0) → Reached D → Type 0) → (WasSo : Reached D → Type 0)
    → (new : Reached D) → Type 0
KeptNext true OneMore WasSo new = OneMore WasSo new
KeptNext false OneMore WasSo new = WasSo new

-- the outcome at this place was kept, if it has lines
abbrev pub KeptIfShown : {D : Type 0} → Ghosts D → Sought D → Folder → (place : ℕ)
    → (WasSo : Reached D → Type 0) → (new : Reached D) → Type 0
KeptIfShown d sought folder place WasSo new =
    KeptNext (is_kept folder place) (λ Was after. KeptOneMore d sought folder place Was after) WasSo new

-- the runs of those of the first n outcomes that have lines were kept, in their order
abbrev pub AreKept : {D : Type 0} → Ghosts D → Sought D → Folder → (n : ℕ) → (old new : Reached D)
    → Type 0
AreKept d sought folder zero old new = new ≡ old
AreKept d sought folder (suc n) old new =
    KeptIfShown d sought folder n (AreKept d sought folder n old) new

-- a run that wasn't kept is named, or the writer failed
abbrev pub TellsUnkept : (told : List ℕ) → JobFault → (a b : Option (List ℕ))
    → Result (Unit {0}) JobFault → Type 0
TellsUnkept told why a b result =
    ((result ≡ Err why) × Appends a b told) ⊎ (result ≡ Err (job.Serve serve.Write))

-- the run of the outcome at this place wasn't kept, and why
pub record NamesRow {D : Type 0} (d : Ghosts D) (sought : Sought D) (folder : Folder) (place : ℕ)
    (before new : Reached D) : Type 0 where
  pub failed : Reached D
  pub row : Row
  pub is_row : slice_get folder.rows place ≡ Some row
  pub why : JobFault
  pub fails : KeepsFound d (sought_of sought row) (outcome_path folder.path (place + 1)) before failed (Err why)
  pub result : Result (Unit {0}) JobFault
  pub unasked : new.openings ≡ failed.openings
  pub tells : TellsUnkept (unkept_text row.first (outcome_path folder.path (place + 1))) why
      failed.written new.written result

-- there was no memory for the path of its disk
abbrev pub LacksPath : {D : Type 0} → (before new : Reached D) → Result (Unit {0}) JobFault → Type 0
LacksPath before new result = (result ≡ Err job.OutOfMemory) × (new ≡ before)

-- the runs of the outcomes before this one were kept, and its own wasn't
pub record StopsAtRow {D : Type 0} (d : Ghosts D) (sought : Sought D) (folder : Folder)
    (old new : Reached D) (result : Result (Unit {0}) JobFault) : Type 0 where
  pub place : ℕ
  pub before : Reached D
  pub kept : AreKept d sought folder place old before
  pub stops : LacksPath before new result
      ⊎ ((named : NamesRow d sought folder place before new) × (named.result ≡ result))

-- a run of each outcome that has lines was kept, or of those before the first one whose run wasn't
abbrev pub KeepsEach : {D : Type 0} → Ghosts D → Sought D → Folder → (old new : Reached D)
    → Result (Unit {0}) JobFault → Type 0
KeepsEach d sought folder old new result =
    ((result ≡ Ok tt) × AreKept d sought folder (length folder.rows) old new)
    ⊎ StopsAtRow d sought folder old new result

-- WHERE RUNS ARE KEPT

-- nowhere, that of one seed on the disk of a path, or that of each outcome in a folder
pub data Place : Type 0 where
  nowhere : Place
  on_disk : (path : List ℕ) → Place
  in_folder : Folder → Place

abbrev pub is_slash : Option ℕ → Bool
is_slash None = false
is_slash (Some b) = b == 47

-- a path that ends with `/` names a folder
abbrev pub is_folder : (path : List ℕ) → Bool
is_folder path = is_slash (slice_get path (length path - 1))

abbrev pub place_of : Option (List ℕ) → (all_rows : Bool) → List Row → Place
place_of None all_rows rows = nowhere
place_of (Some path) all_rows rows =
    if is_folder path then in_folder (record { path = path; rows = rows; all_rows = all_rows })
    else on_disk path

abbrev pub KeepsAt : {D : Type 0} → Ghosts D → Sought D → (old new : Reached D)
    → Result (Unit {0}) JobFault → Place → Type 0
KeepsAt d sought old new result nowhere = (result ≡ Ok tt) × (new ≡ old)
KeepsAt d sought old new result (on_disk path) =
    LacksRoom old new result ⊎ KeepsFound d sought path old new result
KeepsAt d sought old new result (in_folder folder) =
    LacksRoom old new result ⊎ KeepsEach d sought folder old new result

-- what the job answers where keeping answered so
abbrev pub answer_of : Result (Unit {0}) JobFault → Verdict → Result Verdict JobFault
answer_of (Ok done) verdict = Ok verdict
answer_of (Err f) verdict = Err f

-- a hunt that was told
pub record EndsTold {D : Type 0} (d : Ghosts D) (wanted : Wanted D) (asked new : Reached D)
    (told : HuntTold) (result : Result Verdict JobFault) : Type 0 where
  pub kept : Result (Unit {0}) JobFault
  pub keeps : KeepsAt d wanted.sought asked new kept
      (place_of wanted.path wanted.all_rows told.done.outcomes.rows.items)
  pub gives : result ≡ answer_of kept (verdict_on told)

-- where it wasn't told nothing is kept
abbrev pub EndsHunt : {D : Type 0} → Ghosts D → Wanted D → (asked new : Reached D)
    → Result HuntTold HuntFault → Result Verdict JobFault → Type 0
EndsHunt d wanted asked new (Ok told) result = EndsTold d wanted asked new told result
EndsHunt d wanted asked new (Err f) result = (result ≡ Err (fault_of f)) × (new ≡ asked)

-- WHAT BECOMES OF THE WORDS

-- pages or harts are out of their ranges, and nothing was asked for
abbrev pub RefusesSizes : {D : Type 0} → Hunter D → (old new : Outside D)
    → Result Verdict JobFault → Type 0
RefusesSizes it old new result =
    ((is_valid (config_of it.asked) ≡ false)
    ⊎ (shape_of it.asked.pages it.asked.harts it.asked.steps ≡ None))
    × (result ≡ Err (job.Format format.BadConfig)) × (new ≡ old)

-- the words have a number that is out of its range, or seeds beside seconds, or the text of the seeds is no range; and nothing was asked for
abbrev pub RefusesRange : {D : Type 0} → Hunter D → (old new : Outside D)
    → Result Verdict JobFault → Type 0
RefusesRange it old new result =
    ((is_hunt_in_range it.asked ≡ false) ⊎ (asked_seeds it.asked ≡ None))
    × (result ≡ Err job.Range) × (new ≡ old)

-- what a path is to a hunt that looks at it before it begins
abbrev pub kept_file : (path : List ℕ) → JobFile
kept_file path = if is_folder path then file.FirstKept else file.Kept

-- no disk can be made at the path where one is to be kept
abbrev pub IsUnkeepable : Option (List ℕ) → JobFault → Type 0
IsUnkeepable None f = ⊥
IsUnkeepable (Some path) f = (why : FileFault) × (f ≡ job.File (kept_file path) why)

-- so nothing was opened
abbrev pub RefusesKeep : {D : Type 0} → Hunter D → (old new : Outside D)
    → Result Verdict JobFault → Type 0
RefusesKeep it old new result =
    (why : JobFault) × IsUnkeepable it.asked.keep why × (result ≡ Err why) × (new ≡ old)

-- the image is unfit
pub record LacksImage {D : Type 0} (it : Hunter D) (old new : Outside D)
    (result : Result Verdict JobFault) : Type 0 where
  pub why : JobFault
  pub is : result ≡ Err why
  pub unfit : EndsOnImage (config_of it.asked) (it.known it.asked.image) it.asked.image old.openings new.openings why
  pub unwritten : new.written ≡ old.written
  pub unread : new.unread ≡ old.unread

-- the image was read, and the input wasn't
pub record LacksInput {D : Type 0} (it : Hunter D) (old new : Outside D)
    (result : Result Verdict JobFault) : Type 0 where
  pub why : JobFault
  pub is : result ≡ Err why
  pub fit : IsFit (config_of it.asked) (it.known it.asked.image)
  pub unread_input : EndsOnAskedInput it.known it.asked.input
      (with_image old.openings (opened it.asked.image)) new.openings why
  pub unwritten : new.written ≡ old.written
  pub unread : new.unread ≡ old.unread

-- the words ask for this image and this input, with this shape and these seeds, and only a hunt by time may end before the last one
pub record IsAsked (h : Hunting) (asked : Asked) : Type 0 where
  pub in_range : is_hunt_in_range h ≡ true
  pub image : asked.image.now ≡ h.image
  pub shape : Some (numbers_of asked.shape) ≡ shape_of h.pages h.harts h.steps
  pub seeds : Some (ends_of asked.seeds) ≡ asked_seeds h
  pub may_end : asked.may_end ≡ is_some h.seconds
  pub input : option_map (λ path. path.now) asked.input ≡ h.input
  pub look : asked.look ≡ look_of h
  pub room : asked.room ≡ room_of h.memory
  pub output : asked.shape.ignores_output ≡ h.ignore_output
  pub all_rows : asked.all_rows ≡ h.all_rows

-- the image and the input were read, and it was hunted: the table and what was found were written, and then what is told of a run that was kept
pub record HuntsImage {D : Type 0} (d : Ghosts D) (it : Hunter D) (old new : Outside D)
    (result : Result Verdict JobFault) : Type 0 where
  pub guest : List ℕ
  pub is_guest : (bytes : List ℕ) → it.known it.asked.image ≡ Some bytes → guest ≡ bytes
  pub fit : IsFit (config_of it.asked) (it.known it.asked.image)
  pub input : Input
  pub is_input : IsAskedInput it.known it.asked.input (bytes_of input)
  pub asked : Asked
  pub is_asked : IsAsked it.asked asked
  pub told : Result HuntTold HuntFault
  pub table : Option (List ℕ)
  pub tells : Tells guest input asked old.written table told
  pub ends : EndsHunt d (wanted_of it guest input asked)
      (reached (with_asked_input it.asked.input (with_image old.openings (opened it.asked.image))) table)
      (reached new.openings new.written) told result
  pub unread : new.unread ≡ old.unread

abbrev pub HuntsPath : {D : Type 0} → Ghosts D → Hunter D → (old new : Outside D)
    → Result Verdict JobFault → Type 0
HuntsPath d it old new result =
    RefusesSizes it old new result ⊎ RefusesRange it old new result ⊎ RefusesKeep it old new result
    ⊎ LacksImage it old new result ⊎ LacksInput it old new result ⊎ HuntsImage d it old new result
