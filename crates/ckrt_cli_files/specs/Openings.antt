-- What sources were asked for, and which disks, outputs, inputs and histories they were given back.
use Rattle.std.specs.Prelude.{ℕ, List, [], ◌∷◌, Option, Some, None, Result, Ok, Err}
use Rattle.ckrt_cli_files.specs.declared.file.FileFault.{FileFault}
use Rattle.ckrt_cli_files.specs.declared.file.FileOpening.{FileOpening}
use Rattle.ckrt_cli_files.specs.declared.file.FileOpening.TheVariants as kept

-- the opening of a file: of which path, and whether it was refused and why
pub data Opening : Type 0 where
  opened : List ℕ → Opening
  refused : List ℕ → FileFault → Opening

-- the opening of a path with this answer
abbrev pub opening_of : {X : Type 0} → List ℕ → Result X FileFault → Opening
opening_of path (Ok x) = opened path
opening_of path (Err why) = refused path why

-- one that is noted
abbrev pub kept_opening : FileOpening → Opening
kept_opening (kept.Opened path) = opened path.now
kept_opening (kept.Refused path why) = refused path.now why

-- all openings, all disks that were given a name or made longer, and all disks, outputs, inputs and histories that were given back, the newest first
pub record Openings (D : Type 0) : Type 0 where
  -- of images
  pub image : List Opening
  -- of disks
  pub disk : List Opening
  -- of outputs
  pub output : List Opening
  -- of inputs
  pub input : List Opening
  -- of histories that are written
  pub history : List Opening
  -- of disks and cores in the making, by the paths that they are made for
  pub making : List Opening
  -- the paths that were given to disks and cores in the making, and how that went
  pub naming : List Opening
  -- and these, each as it was then
  pub named : List D
  -- the disks that were closed, each as it was then
  pub closed : List D
  -- the outputs and cores that were closed, each as it was then
  pub closed_output : List D
  -- the inputs that were closed, each as it was then
  pub closed_input : List D
  -- the histories that were closed, each as it was then
  pub closed_history : List D
  -- the disks that were to be made longer, each as it was then
  pub lengthened : List D
  -- the disks and cores that were given up, each as it was then
  pub abandoned : List D

-- nothing was asked for
abbrev pub unopened : {D : Type 0} → Openings D
unopened =
    record {
      image = [];
      disk = [];
      output = [];
      input = [];
      history = [];
      making = [];
      naming = [];
      named = [];
      closed = [];
      closed_output = [];
      closed_input = [];
      closed_history = [];
      lengthened = [];
      abandoned = [];
    }

-- one opening more, of an image, of a disk, of an output, of an input, of a history, and of a disk or core in the making
abbrev pub with_image : {D : Type 0} → Openings D → Opening → Openings D
with_image o x = record o { image = x ∷ o.image }

abbrev pub with_disk : {D : Type 0} → Openings D → Opening → Openings D
with_disk o x = record o { disk = x ∷ o.disk }

abbrev pub with_output : {D : Type 0} → Openings D → Opening → Openings D
with_output o x = record o { output = x ∷ o.output }

abbrev pub with_input : {D : Type 0} → Openings D → Opening → Openings D
with_input o x = record o { input = x ∷ o.input }

abbrev pub with_history : {D : Type 0} → Openings D → Opening → Openings D
with_history o x = record o { history = x ∷ o.history }

abbrev pub with_making : {D : Type 0} → Openings D → Opening → Openings D
with_making o x = record o { making = x ∷ o.making }

-- one disk or core more that was given a name, with how that went
abbrev pub with_named : {D : Type 0} → Openings D → Opening → D → Openings D
with_named o x disk = record o { naming = x ∷ o.naming; named = disk ∷ o.named }

-- one disk or core more that was given up
abbrev pub with_abandoned : {D : Type 0} → Openings D → D → Openings D
with_abandoned o disk = record o { abandoned = disk ∷ o.abandoned }

-- one disk more that was to be made longer
abbrev pub with_lengthened : {D : Type 0} → Openings D → D → Openings D
with_lengthened o disk = record o { lengthened = disk ∷ o.lengthened }

-- one disk more that was closed, one output, and one input and one history, where there is one
abbrev pub with_closed : {D : Type 0} → Openings D → D → Openings D
with_closed o disk = record o { closed = disk ∷ o.closed }

abbrev pub with_closed_output : {D : Type 0} → Openings D → D → Openings D
with_closed_output o output = record o { closed_output = output ∷ o.closed_output }

abbrev pub with_closed_input : {D : Type 0} → Openings D → Option D → Openings D
with_closed_input o None = o
with_closed_input o (Some input) = record o { closed_input = input ∷ o.closed_input }

abbrev pub with_closed_history : {D : Type 0} → Openings D → Option D → Openings D
with_closed_history o None = o
with_closed_history o (Some history) =
    record o { closed_history = history ∷ o.closed_history }

-- a disk, and the input beside it, where there is one
abbrev pub with_both_closed : {D : Type 0} → Openings D → (input : Option D) → (disk : D)
    → Openings D
with_both_closed o input disk = with_closed (with_closed_input o input) disk

-- and the history, where there is one
abbrev pub with_all_closed : {D : Type 0} → Openings D → (history input : Option D) → (disk : D)
    → Openings D
with_all_closed o history input disk =
    with_both_closed (with_closed_history o history) input disk
