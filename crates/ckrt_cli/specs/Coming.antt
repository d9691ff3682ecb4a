-- How the job of a drive comes to its drive, of a disk onto the file of an output: by what is said of the job.
use Rattle.std.proofs.Common.{inl, inr, subst, refl}
use Rattle.std.specs.Prelude.{◌≡◌, ℕ, Bool, true, false, List, Option, Some, None, Result, Ok, Err, is_err}
use Rattle.ckrt_disk.specs.Frame.{IsOnlyRead}
use Rattle.ckrt_disk.specs.declared.disk.DeviceFault.{DeviceFault}
use Rattle.ckrt_disk.specs.declared.disk.Disk.{Ghosts}
use Rattle.ckrt_drive.specs.declared.options.Options.{Options}
use Rattle.ckrt_cli_words.specs.Jobs.{Driving}
use Rattle.ckrt_cli_disk.specs.Driving.{DrivesBehindNote, DrivesEquipped, DrivesFound, DrivesInRange, DrivesInto, DrivesLooked, DrivesOpened, DrivesOpenedOutput, DrivesPath, DrivesSupplied, DrivesToward, IsAsked, Means, Setting, ready, setting_of}
use Rattle.ckrt_recovery.specs.Recovered.{IsRecovered}
use Rattle.ckrt_cli_disk.specs.Equipping.{Equips}
use Rattle.ckrt_cli_disk.specs.Feeding.{Supplies}
use Rattle.ckrt_cli_disk.specs.Noting.{Notes, asked_schedule}
use Rattle.ckrt_cli_disk.specs.declared.equipping.Equipped.{Equipped}
use Rattle.ckrt_cli_disk.specs.declared.feeding.Intake.{Intake}
use Rattle.ckrt_cli_disk.specs.declared.feeding.Supplied.{Supplied}
use Rattle.ckrt_cli_files.specs.Openings.{Openings, opened, with_output}
use Rattle.ckrt_cli_files.specs.Sources.{Gives}
use Rattle.ckrt_cli_files.specs.declared.output.OpenedOutput.{OpenedOutput}
use Rattle.ckrt_cli_reports.specs.Lengths.{fits, lengths_of}
use Rattle.ckrt_cli_reports.specs.Ranges.{is_in_range}
use Rattle.ckrt_cli_reports.specs.declared.driven.Driven.{Driven}
use Rattle.ckrt_cli_reports.specs.declared.fault.JobFault.{JobFault}
use Rattle.ckrt_cli.specs.Runs.{ProgramRun}
use Rattle.ckrt_recovery.specs.declared.session.Session.{Session}

-- A job came to its drive, onto the output of this path.
pub record Came {D : Type 0} (d : Ghosts D) (gives : Gives D) (j : Driving) (path : List ℕ)
    : Type 0 where
  -- the disk that it came by, and that disk once its sizes and its schedule were read
  pub found : D
  pub looked : D
  pub sized : IsOnlyRead d found looked false
  -- the drive, with the options of the words: of that disk and its input, as both were supplied
  pub run : ProgramRun d d
  pub asks : IsAsked j run.options
  pub before : Openings D
  pub asked : Openings D
  pub supplied : D
  pub intake : Option (Intake D)
  pub supplies : Supplies d gives j.input j.input_from looked before asked
      (Ok (record { disk = supplied; intake = intake }))
  -- once the schedule of the words was noted on it
  pub noted : D
  pub notes : Notes d (asked_schedule j) supplied noted (Ok tt)
  -- and its history, where the words name one, was given what that lacked of it
  pub joined : Openings D
  pub equips : Equips d gives j.history (record { disk = noted; intake = intake }) asked joined
      (Ok (record { disk = run.start; beside = run.beside }))
  -- it began with what that disk recovers to
  pub recovered : IsRecovered d run.start run.before
  -- and with this output, whose length fits it
  pub output : OpenedOutput D
  pub is_opened : gives.Outputs path output
  pub onto : run.output ≡ output.output
  pub fit : fits (lengths_of output.length run.before) ≡ true

-- FROM A JOB TO ITS DRIVE

-- Before that: a disk was found, and has the sizes and the schedule of the words, with whose options it is to be driven.
pub record Sized {D : Type 0} (d : Ghosts D) (j : Driving) : Type 0 where
  pub options : Options
  pub asks : IsAsked j options
  pub found : D
  pub looked : D
  pub sized : IsOnlyRead d found looked false

-- and it was supplied with the input of the words
pub record Fed {D : Type 0} (d : Ghosts D) (gives : Gives D) (j : Driving) : Type 0 where
  pub sized : Sized d j
  pub before : Openings D
  pub asked : Openings D
  pub it : Supplied D
  pub supplies : Supplies d gives j.input j.input_from sized.looked before asked (Ok it)
  -- and notes the schedule of the words
  pub disk : D
  pub notes : Notes d (asked_schedule j) it.disk disk (Ok tt)

-- that disk, with the input
abbrev pub noted : {D : Type 0} {d : Ghosts D} {gives : Gives D} {j : Driving} → Fed d gives j
    → Supplied D
noted fed = record { disk = fed.disk; intake = fed.it.intake }

-- and its history, where the words name one, was given what that lacked of it
pub record Furnished {D : Type 0} (d : Ghosts D) (gives : Gives D) (j : Driving) : Type 0 where
  pub fed : Fed d gives j
  pub joined : Openings D
  pub it : Equipped D d
  pub equips : Equips d gives j.history (noted fed) fed.asked joined (Ok it)

-- where a job of these words has come to its drive, that, by what is said of it; none where it ended before
module _ {D W : Type 0} {d : Ghosts D} (means : Means d W) (j : Driving) (path : List ℕ)
    (named : j.output ≡ Some path) (result : Result Driven JobFault) where
  abbrev pub Comes : Type 0
  Comes = Option (Came d means.sources j path)

  abbrev pub set : Options → Setting d W
  set options = setting_of {d = d} means.stream means.Lent means.sources j options

  -- of a disk that has its history
  module _ (there : Furnished d means.sources j) (new : Openings D) where
    abbrev pub onto_fitting : (session : Session D d) → IsRecovered d there.it.disk session
        → (output : OpenedOutput D) → means.sources.Outputs path output
        → DrivesOpenedOutput output there.fed.sized.options (ready session there.it.beside)
        (with_output there.joined (opened path)) new result
        → Comes
    onto_fitting session recovered output is_opened (inl refuses) = None
    onto_fitting session recovered output is_opened (inr takes) = Some (record {
      found = there.fed.sized.found;
      looked = there.fed.sized.looked;
      sized = there.fed.sized.sized;
      run = record {
        start = there.it.disk;
        options = there.fed.sized.options;
        beside = there.it.beside;
        left = takes.drives.left;
        before = session;
        after = takes.drives.after;
        output = output.output;
        end = takes.drives.end;
        answer = takes.drives.answer;
        drives = takes.drives.drives;
      };
      asks = there.fed.sized.asks;
      before = there.fed.before;
      asked = there.fed.asked;
      supplied = there.fed.it.disk;
      intake = there.fed.it.intake;
      supplies = there.fed.supplies;
      noted = there.fed.disk;
      notes = there.fed.notes;
      joined = there.joined;
      equips = there.equips;
      recovered = recovered;
      output = output;
      is_opened = is_opened;
      onto = refl;
      fit = takes.fit;
    })

    abbrev pub onto_opened : (session : Session D d) → IsRecovered d there.it.disk session
        → DrivesInto (means.sources.Outputs path) path there.fed.sized.options
        (ready session there.it.beside) there.joined new result
        → Comes
    onto_opened session recovered (inl lacks) = None
    onto_opened session recovered (inr opens) =
        onto_fitting session recovered opens.output opens.is_opened opens.drives

    abbrev pub of_furnished : DrivesOpened (set there.fed.sized.options) there.it there.joined new
        result → Comes
    of_furnished (inl lacks) = None
    of_furnished (inr drives) =
        onto_opened drives.session drives.recovered
        (subst
        (DrivesToward (set there.fed.sized.options) (ready drives.session there.it.beside)
        there.joined new result)
        named drives.drives)

  -- of one that notes its schedule
  abbrev pub of_fed : (fed : Fed d means.sources j) → (joined new : Openings D)
      → (found : Result (Equipped D d) JobFault)
      → Equips d means.sources j.history (noted fed) fed.asked joined found
      → DrivesEquipped (set fed.sized.options) joined new result found → Comes
  of_fed fed joined new (Err fault) equips ends = None
  of_fed fed joined new (Ok it) equips ends =
      of_furnished (record { fed = fed; joined = joined; it = it; equips = equips }) new ends

  -- of one that has its input
  abbrev pub of_noted : (sized : Sized d j) → (before asked new : Openings D) → (it : Supplied D)
      → Supplies d means.sources j.input j.input_from sized.looked before asked (Ok it)
      → (disk : D) → (answer : Result (Unit {0}) DeviceFault)
      → Notes d (asked_schedule j) it.disk disk answer
      → DrivesBehindNote (set sized.options) (record { disk = disk; intake = it.intake }) asked new
      result answer
      → Comes
  of_noted sized before asked new it supplies disk (Err failed) notes ends = None
  of_noted sized before asked new it supplies disk (Ok done) notes ends =
      of_fed
      (record {
        sized = sized;
        before = before;
        asked = asked;
        it = it;
        supplies = supplies;
        disk = disk;
        notes = notes;
      })
      ends.asked new ends.found ends.equips ends.drives

  -- of one that fits the words
  abbrev pub of_sized : (sized : Sized d j) → (before asked new : Openings D)
      → (got : Result (Supplied D) JobFault)
      → Supplies d means.sources j.input j.input_from sized.looked before asked got
      → DrivesSupplied (set sized.options) asked new result got → Comes
  of_sized sized before asked new (Err fault) supplies ends = None
  of_sized sized before asked new (Ok it) supplies ends =
      of_noted sized before asked new it supplies ends.disk ends.answer ends.notes ends.drives

  -- of one that was found
  module _ (options : Options) (asks : IsAsked j options) (found looked : D) where
    abbrev pub of_looked : (old new : Openings D) → (other : Result (Option JobFault) DeviceFault)
        → IsOnlyRead d found looked (is_err other)
        → DrivesLooked (set options) looked old new result other → Comes
    of_looked old new (Err failed) sized ends = None
    of_looked old new (Ok (Some other)) sized ends = None
    of_looked old new (Ok None) sized fed =
        of_sized
        (record { options = options; asks = asks; found = found; looked = looked; sized = sized })
        old fed.asked new fed.found fed.supplies fed.drives

  abbrev pub of_found : (old new : Openings D) → (found : Result D JobFault)
      → DrivesFound means j old new result found → Comes
  of_found old new (Err fault) ends = None
  of_found old new (Ok found) it =
      of_looked it.options it.asked found it.drives.disk old new it.drives.found it.drives.read
      it.drives.drives

  abbrev pub in_range : (old new : Openings D) → (b : Bool)
      → DrivesInRange means j old new result b → Comes
  in_range old new false ends = None
  in_range old new true it = of_found it.asked new it.found it.drives

  abbrev pub of_path : (old new : Openings D) → DrivesPath means j old new result → Comes
  of_path old new drives = in_range old new (is_in_range j) drives
