-- What the program's words ask for.
use Rattle.std.specs.Prelude.{ℕ, ◌^◌, ◌&&◌, Bool, true, false, nat_lt, if◌then◌else◌, List, [], ◌∷◌, length, codes, Option, Some, None, option_and_then, option_map}
use Rattle.std.specs.List.{list_all}
use Rattle.std.specs.Char.{digit_value}
use Rattle.std.specs.Option.{option_map_or}
use Rattle.std.specs.Str.{bytes_eq}
use Rattle.std.specs.Str.Parse.{digits_value, without_leading_plus}
use Rattle.clap.specs.Words.{Row, Text, first_of, one_of, subcommand_of}
use Rattle.ckrt_cli_words.specs.Commands.{ckrt_app}
use Rattle.ckrt_cli_words.specs.declared.job.Job.{Job}
use Rattle.ckrt_cli_words.specs.declared.job.Job.TheVariants as job
use Rattle.ckrt_cli_words.specs.declared.job.FormatJob.{FormatJob}
use Rattle.ckrt_cli_words.specs.declared.job.InspectJob.{InspectJob}
use Rattle.ckrt_cli_words.specs.declared.job.ShadowJob.{ShadowJob}
use Rattle.ckrt_cli_words.specs.declared.job.StretchJob.{StretchJob}
use Rattle.ckrt_cli_words.specs.declared.job.CoreJob.{CoreJob}
use Rattle.ckrt_cli_words.specs.declared.job.DebugJob.{DebugJob}
use Rattle.ckrt_cli_words.specs.declared.job.HuntJob.{HuntJob}
use Rattle.ckrt_cli_words.specs.declared.job.HistoryJob.{HistoryJob}
use Rattle.ckrt_cli_words.specs.declared.job.DriveJob.{DriveJob}
use Rattle.ckrt_cli_words.specs.declared.job.TimelineJob.{TimelineJob}
use Rattle.ckrt_cli_words.specs.declared.job.ProfileForm.{ProfileForm}
use Rattle.ckrt_cli_words.specs.declared.job.ProfileForm.TheVariants as form
use Rattle.ckrt_cli_words.specs.declared.job.ProfileJob.{ProfileJob}
use Rattle.ckrt_cli_words.specs.declared.job.Sizes.{Sizes}
use Rattle.ckrt_cli_words.specs.declared.job.Keeping.{Keeping}

-- what `format` makes
pub record Formatting : Type 0 where
  pub disk : Text
  pub image : Text
  pub pages : ℕ
  pub harts : ℕ
  pub journal : ℕ

-- what `inspect` shows: which disk, after how many events, and whether with instructions
pub record Inspection : Type 0 where
  pub disk : Text
  pub history : Bool
  pub at : Option ℕ
  pub code : Bool

-- what `core` writes: of which disk or history, into which file, and after how many events
pub record CoreMaking : Type 0 where
  pub disk : Text
  pub file : Text
  pub history : Bool
  pub at : Option ℕ

-- a stretch of what a disk or a history has recorded: of which, whether that is a history, behind how many events it begins, and behind how many
-- it ends, and how many of its last events are told
pub record DiskStretch : Type 0 where
  pub disk : Text
  pub history : Bool
  pub from : Option ℕ
  pub to : Option ℕ
  pub last : Option ℕ

-- a stretch that is looked at with a shadow, and how many bytes that may take
pub record Shadowing : Type 0 where
  pub stretch : DiskStretch
  pub memory : Option ℕ

-- what `debug` serves to a debugger: which disk or history, whether it is a history, and behind how many events it begins
pub record Debugging : Type 0 where
  pub disk : Text
  pub history : Bool
  pub at : Option ℕ

-- what `timeline` draws: which stretch, how wide the picture is, and whether trace events stand in its place
pub record Drawing : Type 0 where
  pub stretch : DiskStretch
  pub width : ℕ
  pub json : Bool

-- what `profile` counts: which stretch, and the form of what is told
pub record Profiling : Type 0 where
  pub stretch : DiskStretch
  pub form : ProfileForm

-- what `hunt` runs: the image, the text of its range of seeds, or after how many seconds it takes no further seed, the sizes, the file of each
-- run's input, how many steps a run has at most, whether each is looked at for races or for errors of memory, how many bytes the shadow of that may take, whether outcomes that differ in their output alone are one, whether its table has each row, the new disk or the folder that runs are kept on, the file
-- that has its table while it runs, and at most each how many seconds it tells how far it is
pub record Hunting : Type 0 where
  pub image : Text
  pub seeds : Option Text
  pub seconds : Option ℕ
  pub pages : ℕ
  pub harts : ℕ
  pub input : Option Text
  pub steps : ℕ
  pub races : Bool
  pub check : Bool
  pub memory : Option ℕ
  pub ignore_output : Bool
  pub all_rows : Bool
  pub keep : Option Text
  pub table : Option Text
  pub progress : Option ℕ

-- what `drive` drives: which disk, the image that a missing one is made with, its sizes, the file of its input and where that goes on, the file
-- of its output and that of its history, steps of a turn, rounds between commits, after how many events it ends, the seed of its lots, whether another schedule than
-- the disk's is taken, at most each how many seconds it tells how far it is, the file that tells it too, and below which offset output is left out
pub record Driving : Type 0 where
  pub disk : Text
  pub image : Option Text
  pub sizes : Sizes
  pub input : Option Text
  pub input_from : Option ℕ
  pub output : Option Text
  pub history : Option Text
  pub turn : ℕ
  pub rounds : ℕ
  pub events : Option ℕ
  pub seed : Option ℕ
  pub other_schedule : Bool
  pub progress : Option ℕ
  pub status : Option Text
  pub from : Option ℕ

-- what `history` looks at: which file, which disk it is brought up to, if any, and which part is made of it, if any, with the numbers of events
-- behind which that begins and ends
pub record HistoryKeeping : Type 0 where
  pub file : Text
  pub disk : Option Text
  pub part : Option Text
  pub from : Option ℕ
  pub to : Option ℕ

-- a job, by its texts and numbers alone
pub data Request : Type 0 where
  stored : Request
  version : Request
  format : Formatting → Request
  run : Text → Request
  inspect : Inspection → Request
  drive : Driving → Request
  core : CoreMaking → Request
  calls : DiskStretch → Request
  debug : Debugging → Request
  races : Shadowing → Request
  timeline : Drawing → Request
  profile : Profiling → Request
  hunt : Hunting → Request
  check : Shadowing → Request
  history : HistoryKeeping → Request

abbrev pub formatting_of : FormatJob → Formatting
formatting_of f =
    record {
      disk = f.disk.now;
      image = f.image.now;
      pages = f.pages;
      harts = f.harts;
      journal = f.journal;
    }

abbrev pub inspection_of : InspectJob → Inspection
inspection_of i =
    record { disk = i.disk.now; history = i.history; at = i.at; code = i.code }

abbrev pub core_making_of : CoreJob → CoreMaking
core_making_of c = record {
  disk = c.disk.now;
  file = c.file.now;
  history = c.history;
  at = c.at;
}

abbrev pub disk_stretch_of : StretchJob → DiskStretch
disk_stretch_of s = record { disk = s.disk.now; history = s.history; from = s.from; to = s.to; last = s.last }

abbrev pub shadowing_of : ShadowJob → Shadowing
shadowing_of s = record { stretch = disk_stretch_of s.stretch; memory = s.memory }

abbrev pub debugging_of : DebugJob → Debugging
debugging_of d = record { disk = d.disk.now; history = d.history; at = d.at }

abbrev pub drawing_of : TimelineJob → Drawing
drawing_of t = record { stretch = disk_stretch_of t.stretch; width = t.width; json = t.json }

abbrev pub profiling_of : ProfileJob → Profiling
profiling_of p = record { stretch = disk_stretch_of p.stretch; form = p.form }

abbrev pub hunting_of : HuntJob → Hunting
hunting_of h = record {
  image = h.image.now;
  seeds = option_map (λ text. text.now) h.seeds;
  seconds = h.seconds;
  pages = h.pages;
  harts = h.harts;
  input = option_map (λ path. path.now) h.input;
  steps = h.steps;
  races = h.races;
  check = h.check;
  memory = h.memory;
  ignore_output = h.ignore_output;
  all_rows = h.all_rows;
  keep = option_map (λ path. path.now) h.keep;
  table = option_map (λ path. path.now) h.table;
  progress = h.progress;
}

abbrev pub driving_of : DriveJob → Driving
driving_of d = record {
  disk = d.disk.now;
  image = option_map (λ path. path.now) d.image;
  sizes = d.sizes;
  input = option_map (λ path. path.now) d.input;
  input_from = d.input_from;
  output = option_map (λ path. path.now) d.output;
  history = option_map (λ path. path.now) d.history;
  turn = d.turn;
  rounds = d.rounds;
  events = d.events;
  seed = d.seed;
  other_schedule = d.other_schedule;
  progress = d.progress;
  status = option_map (λ path. path.now) d.status;
  from = d.from;
}

abbrev pub history_keeping_of : HistoryJob → HistoryKeeping
history_keeping_of h = record {
  file = h.file.now;
  disk = option_map (λ path. path.now) h.disk;
  part = option_map (λ path. path.now) h.part;
  from = h.from;
  to = h.to;
}

abbrev pub request_of : Job → Request
request_of job.Stored = stored
request_of job.Version = version
request_of (job.Format f) = format (formatting_of f)
request_of (job.Run disk) = run disk.now
request_of (job.Inspect i) = inspect (inspection_of i)
request_of (job.Drive d) = drive (driving_of d)
request_of (job.Core c) = core (core_making_of c)
request_of (job.Calls s) = calls (disk_stretch_of s)
request_of (job.Debug d) = debug (debugging_of d)
request_of (job.Races s) = races (shadowing_of s)
request_of (job.Timeline t) = timeline (drawing_of t)
request_of (job.Profile p) = profile (profiling_of p)
request_of (job.Hunt h) = hunt (hunting_of h)
request_of (job.Check s) = check (shadowing_of s)
request_of (job.History h) = history (history_keeping_of h)

-- decimal digits, one or more, after a plus or not, of a number of so many bits
abbrev pub is_number : ℕ → Text → Bool
is_number bits t =
    let ds = without_leading_plus t in
    nat_lt 0 (length ds) && (list_all (λ d. nat_lt (digit_value d) 10) ds && nat_lt (digits_value 10 ds) (2 ^ bits))

abbrev pub number_of : ℕ → Text → Option ℕ
number_of bits t = if is_number bits t then Some (digits_value 10 (without_leading_plus t)) else None

-- the number of 32 bits that a command's matches have for an option
abbrev pub number_in : Text → List Row → Option ℕ
number_in id rows = option_and_then (number_of 32) (one_of id rows)

-- the number of 64 bits that they have for one
abbrev pub place_in : Text → List Row → Option ℕ
place_in id rows = option_and_then (number_of 64) (one_of id rows)

-- whether an option without a value is there: `clap` gives it the text `true`, and `false` where it isn't
abbrev pub flag_in : Text → List Row → Bool
flag_in id rows = option_map_or (λ t. bytes_eq t (codes "true")) (first_of id rows) false

-- the second step, where the first gave a value: Rust's `?`
infixl 10 ◌>>=◌
abbrev pub ◌>>=◌ : {A B : Type 0} → Option A → (A → Option B) → Option B
(Some x) >>= f = f x
None >>= f = None

abbrev pub formatting_in : List Row → Option Formatting
formatting_in rows = do
  disk ← first_of (codes "disk") rows
  image ← first_of (codes "image") rows
  pages ← number_in (codes "pages") rows
  harts ← number_in (codes "harts") rows
  journal ← number_in (codes "journal") rows
  Some (record { disk = disk; image = image; pages = pages; harts = harts; journal = journal })

abbrev pub inspection_in : List Row → Option Inspection
inspection_in rows = do
  disk ← first_of (codes "disk") rows
  Some (record {
    disk = disk;
    history = flag_in (codes "history") rows;
    at = place_in (codes "at") rows;
    code = flag_in (codes "code") rows;
  })

abbrev pub core_making_in : List Row → Option CoreMaking
core_making_in rows = do
  disk ← first_of (codes "disk") rows
  file ← first_of (codes "file") rows
  Some (record {
    disk = disk;
    file = file;
    history = flag_in (codes "history") rows;
    at = place_in (codes "at") rows;
  })

abbrev pub disk_stretch_in : List Row → Option DiskStretch
disk_stretch_in rows = do
  disk ← first_of (codes "disk") rows
  Some (record {
    disk = disk;
    history = flag_in (codes "history") rows;
    from = place_in (codes "from") rows;
    to = place_in (codes "to") rows;
    last = place_in (codes "last") rows;
  })

abbrev pub shadowing_in : List Row → Option Shadowing
shadowing_in rows = do
  stretch ← disk_stretch_in rows
  Some (record { stretch = stretch; memory = place_in (codes "memory") rows })

abbrev pub debugging_in : List Row → Option Debugging
debugging_in rows = do
  disk ← first_of (codes "disk") rows
  Some (record { disk = disk; history = flag_in (codes "history") rows; at = place_in (codes "at") rows })

abbrev pub drawing_in : List Row → Option Drawing
drawing_in rows = do
  stretch ← disk_stretch_in rows
  width ← number_in (codes "width") rows
  Some (record { stretch = stretch; width = width; json = flag_in (codes "json") rows })

-- the form that two flags ask for; both ask for none
abbrev pub form_of : (folded callgrind : Bool) → Option ProfileForm
form_of false false = Some form.Table
form_of true false = Some form.Folded
form_of false true = Some form.Callgrind
form_of true true = None

abbrev pub form_in : List Row → Option ProfileForm
form_in rows = form_of (flag_in (codes "folded") rows) (flag_in (codes "callgrind") rows)

abbrev pub profiling_in : List Row → Option Profiling
profiling_in rows = do
  stretch ← disk_stretch_in rows
  shape ← form_in rows
  Some (record { stretch = stretch; form = shape })

abbrev pub hunting_in : List Row → Option Hunting
hunting_in rows = do
  image ← first_of (codes "image") rows
  pages ← number_in (codes "pages") rows
  harts ← number_in (codes "harts") rows
  steps ← number_in (codes "steps") rows
  Some (record {
    image = image;
    seeds = first_of (codes "seeds") rows;
    seconds = place_in (codes "seconds") rows;
    pages = pages;
    harts = harts;
    input = first_of (codes "input") rows;
    steps = steps;
    races = flag_in (codes "races") rows;
    check = flag_in (codes "check") rows;
    memory = place_in (codes "memory") rows;
    ignore_output = flag_in (codes "ignore-output") rows;
    all_rows = flag_in (codes "rows") rows;
    keep = first_of (codes "keep") rows;
    table = first_of (codes "table") rows;
    progress = place_in (codes "progress") rows;
  })

-- the sizes that are given
abbrev pub sizes_in : List Row → Sizes
sizes_in rows = record { pages = number_in (codes "pages") rows; harts = number_in (codes "harts") rows; journal = number_in (codes "journal") rows }

abbrev pub driving_in : List Row → Option Driving
driving_in rows = do
  disk ← first_of (codes "disk") rows
  turn ← number_in (codes "turn") rows
  rounds ← number_in (codes "rounds-per-commit") rows
  Some (record {
    disk = disk;
    image = first_of (codes "image") rows;
    sizes = sizes_in rows;
    input = first_of (codes "input") rows;
    input_from = place_in (codes "input-from") rows;
    output = first_of (codes "output") rows;
    history = first_of (codes "history") rows;
    turn = turn;
    rounds = rounds;
    events = place_in (codes "events") rows;
    seed = place_in (codes "seed") rows;
    other_schedule = flag_in (codes "other-schedule") rows;
    progress = place_in (codes "progress") rows;
    status = first_of (codes "status") rows;
    from = place_in (codes "from") rows;
  })

abbrev pub history_keeping_in : List Row → Option HistoryKeeping
history_keeping_in rows = do
  file ← first_of (codes "file") rows
  Some (record {
    file = file;
    disk = first_of (codes "disk") rows;
    part = first_of (codes "part") rows;
    from = place_in (codes "from") rows;
    to = place_in (codes "to") rows;
  })

-- what a command with these matches asks for
abbrev pub request_in : Text × List Row → Option Request
request_in p =
    if bytes_eq p.0 (codes "format") then option_map format (formatting_in p.1)
    else if bytes_eq p.0 (codes "run") then option_map run (first_of (codes "disk") p.1)
    else if bytes_eq p.0 (codes "inspect") then option_map inspect (inspection_in p.1)
    else if bytes_eq p.0 (codes "drive") then option_map drive (driving_in p.1)
    else if bytes_eq p.0 (codes "core") then option_map core (core_making_in p.1)
    else if bytes_eq p.0 (codes "calls") then option_map calls (disk_stretch_in p.1)
    else if bytes_eq p.0 (codes "debug") then option_map debug (debugging_in p.1)
    else if bytes_eq p.0 (codes "races") then option_map races (shadowing_in p.1)
    else if bytes_eq p.0 (codes "timeline") then option_map timeline (drawing_in p.1)
    else if bytes_eq p.0 (codes "profile") then option_map profile (profiling_in p.1)
    else if bytes_eq p.0 (codes "hunt") then option_map hunt (hunting_in p.1)
    else if bytes_eq p.0 (codes "check") then option_map check (shadowing_in p.1)
    else if bytes_eq p.0 (codes "history") then option_map history (history_keeping_in p.1)
    else None

-- `profile` with both of its forms: the only words that `clap` takes and that name no job
abbrev pub has_both_forms : Text × List Row → Bool
has_both_forms p = bytes_eq p.0 (codes "profile")
    && (flag_in (codes "folded") p.1 && flag_in (codes "callgrind") p.1)

abbrev pub asks_both_forms : List Text → Bool
asks_both_forms words = option_map_or has_both_forms (subcommand_of ckrt_app words) false

-- the one word `--version`
abbrev pub asks_version : List Text → Bool
asks_version (w ∷ []) = bytes_eq w (codes "--version")
asks_version _ = false

-- what the words after the program's name ask for: the stored program where there are none, the version where they are the one word for it,
-- else what `clap` makes of them
abbrev pub request_of_words : List Text → Option Request
request_of_words [] = Some stored
request_of_words (w ∷ ws) =
    if asks_version (w ∷ ws) then Some version
    else option_and_then request_in (subcommand_of ckrt_app (w ∷ ws))

-- the file of names that a command with these matches was given
abbrev pub names_in : Text × List Row → Option Text
names_in p = first_of (codes "names") p.1

-- the file of names that the words after the program's name give
abbrev pub names_of_words : List Text → Option Text
names_of_words [] = None
names_of_words (w ∷ ws) =
    if asks_version (w ∷ ws) then None
    else option_and_then names_in (subcommand_of ckrt_app (w ∷ ws))

-- how a command with these matches keeps its history: at most each how many seconds it makes a snapshot, and whether it goes on where that ends
abbrev pub keeping_in : Text × List Row → Keeping
keeping_in p = record {
  snapshots = place_in (codes "snapshots") p.1;
  may_end = flag_in (codes "history-may-end") p.1;
}

-- that of words which say nothing of it
abbrev pub plain_keeping : Keeping
plain_keeping = record { snapshots = None; may_end = false }

-- how the words after the program's name keep a history
abbrev pub keeping_of_words : List Text → Keeping
keeping_of_words [] = plain_keeping
keeping_of_words (w ∷ ws) =
    if asks_version (w ∷ ws) then plain_keeping
    else option_map_or keeping_in (subcommand_of ckrt_app (w ∷ ws)) plain_keeping
