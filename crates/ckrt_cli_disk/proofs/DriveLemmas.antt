-- The drive of a disk, where less is known of what sources may give.
use Rattle.std.proofs.Common.{◌≡◌, ℕ, true, sym, subst, List, Option, Some, None, Result, Ok, Err, IfErr, inl, inr}
use Rattle.ckrt_machine.specs.Steps.{State}
use Rattle.ckrt_disk.specs.declared.disk.DeviceFault.{DeviceFault}
use Rattle.ckrt_disk.specs.declared.disk.Disk.{Ghosts}
use Rattle.ckrt_history.specs.declared.keeping_fault.KeepingFault.{KeepingFault}
use Rattle.ckrt_drive.specs.declared.options.Options.{Options}
use Rattle.ckrt_schedule.specs.declared.next.ScheduleEnd.{ScheduleEnd}
use Rattle.ckrt_drive.specs.declared.stream.StreamOutput.{StreamOutput}
use Rattle.ckrt_stored.specs.declared.fault.RecoverFault.{RecoverFault}
use Rattle.ckrt_cli_words.specs.Jobs.{Driving}
use Rattle.ckrt_cli_disk.specs.Driving.{DrivesBehindNote, DrivesEquipped, DrivesFed, DrivesInRange, DrivesJoined, DrivesLooked, DrivesNoted, DrivesOpened, DrivesPath, DrivesSized, DrivesSupplied, DrivesToward, IsAsked, Ready, Setting, driven_of, means_of, ready, setting_of}
use Rattle.ckrt_cli_reports.specs.Ranges.{is_in_range, config_for}
use Rattle.ckrt_cli_disk.specs.Equipping.{Equips}
use Rattle.ckrt_cli_disk.specs.Feeding.{EndsWithRoom, MakesRoom, Supplies, SuppliesOpened, SuppliesTaken, made_size}
use Rattle.ckrt_cli_disk.specs.Missing.{FindsDisk}
use Rattle.ckrt_cli_files.specs.Openings.{Openings}
use Rattle.ckrt_cli_files.specs.Sources.{Gives, GivesNoMore}
use Rattle.ckrt_cli_reports.specs.declared.driven.Driven.{Driven}
use Rattle.ckrt_cli_reports.specs.declared.fault.JobFault.{JobFault}
use Rattle.ckrt_cli_disk.specs.declared.equipping.Equipped.{Equipped}
use Rattle.ckrt_cli_disk.specs.declared.feeding.Intake.{Intake}
use Rattle.ckrt_cli_disk.specs.declared.feeding.Supplied.{Supplied}
use Rattle.ckrt_cli_disk.specs.declared.feeding.Unready.{Unready}

-- what is true of a run's fault is true of the drive's
pub err_kept : (s : State) (r : Result (Option ScheduleEnd) KeepingFault) (P : KeepingFault → Type 0) → IfErr r P → IfErr (driven_of s r) P
err_kept s (Ok ending) P h = tt
err_kept s (Err fault) P h = h

module _ {D : Type 0} (d : Ghosts D) (before after : Gives D) (are : GivesNoMore before after) where
  room_weaker : (disk : D) (old new : Openings D) (made : Result D (Unready D)) (size : Result ℕ RecoverFault)
      → EndsWithRoom d after.Longer disk old new made size → EndsWithRoom d before.Longer disk old new made size
  room_weaker disk old new made (Err fault) ended = ended
  room_weaker disk old new made (Ok size) (inl has) = inl has
  room_weaker disk old new made (Ok size) (inr (inl gets)) = inr (inl (record { short = gets.short; longer = gets.longer; is = gets.is; is_longer = are.longer disk size gets.longer gets.is_longer; long = gets.long; asks = gets.asks }))
  room_weaker disk old new made (Ok size) (inr (inr lacks)) = inr (inr lacks)

  makes_room_weaker : (disk : D) (old new : Openings D) (made : Result D (Unready D)) → MakesRoom d after.Longer disk old new made → MakesRoom d before.Longer disk old new made
  makes_room_weaker disk old new made makes = record { disk = makes.disk; size = makes.size; read = makes.read; exact = makes.exact; memory = makes.memory; ends = room_weaker makes.disk old new made makes.size makes.ends }

  pub input_weaker : (disk : D) (it : Intake D) (old new : Openings D) (found : Result (Supplied D) JobFault)
      → SuppliesOpened d after.Longer disk it old new found → SuppliesOpened d before.Longer disk it old new found
  input_weaker disk it old new found (inl refuses) = inl refuses
  input_weaker disk it old new found (inr takes) =
      inr (record { long = takes.long; made = takes.made; asked = takes.asked; room = makes_room_weaker disk old takes.asked takes.made takes.room; ends = takes.ends })

  taken_weaker : (path : List ℕ) (disk : D) (old new : Openings D) (found : Result (Supplied D) JobFault) (taken : Result ℕ JobFault)
      → SuppliesTaken d after path disk old new found taken → SuppliesTaken d before path disk old new found taken
  taken_weaker path disk old new found (Err fault) closed = closed
  taken_weaker path disk old new found (Ok taken) (inl lacks) = inl lacks
  taken_weaker path disk old new found (Ok taken) (inr opens) = inr (record {
    input = opens.input;
    is_opened = are.inputs path opens.input opens.is_opened;
    ends = input_weaker disk _ _ new found opens.ends;
  })

  supplies_weaker : (path : Option (List ℕ)) (from : Option ℕ) (start : D) (old new : Openings D) (found : Result (Supplied D) JobFault)
      → Supplies d after path from start old new found → Supplies d before path from start old new found
  supplies_weaker None from start old new found as_it_is = as_it_is
  supplies_weaker (Some path) from start old new found s =
      record { disk = s.disk; taken = s.taken; looks = s.looks; ends = taken_weaker path s.disk old new found s.taken s.ends }

  equips_weaker : (path : Option (List ℕ)) (start : Supplied D) (old new : Openings D) (found : Result (Equipped D d) JobFault) → Equips d after path start old new found → Equips d before path start old new found
  equips_weaker None start old new found as_it_is = as_it_is
  equips_weaker (Some path) start old new found (inl lacks) = inl lacks
  equips_weaker (Some path) start old new found (inr opens) = inr (record { output = opens.output; is_opened = are.outputs path opens.output opens.is_opened; equips = opens.equips })

  module _ {W : Type 0} (o : Ghosts (StreamOutput W)) (Lent : (stream end : StreamOutput W) → Type 0) (j : Driving) (options : Options) (new : Openings D) (result : Result Driven JobFault) where
    abbrev set : Gives D → Setting d W
    set gives = setting_of o Lent gives j options

    toward_weaker : (old : Openings D) (to : Option (List ℕ)) (it : Ready d) → DrivesToward (set after) it old new result to → DrivesToward (set before) it old new result to
    toward_weaker old (Some path) it (inl lacks) = inl lacks
    toward_weaker old (Some path) it (inr opens) = inr (record { output = opens.output; is_opened = are.outputs path opens.output opens.is_opened; drives = opens.drives })
    toward_weaker old None it s = record {
      stream = s.stream;
      begins = s.begins;
      after = s.after;
      end = s.end;
      left = s.left;
      kept = s.kept;
      answer = s.answer;
      drives = s.drives;
      lent = s.lent;
      why = s.why;
      gives = s.gives;
      closes = s.closes;
    }

    pub opened_weaker : (old : Openings D) (start : Equipped D d) → DrivesOpened (set after) start old new result → DrivesOpened (set before) start old new result
    opened_weaker old start (inl lacks) = inl lacks
    opened_weaker old start (inr drives) =
        inr (record { session = drives.session; recovered = drives.recovered; drives = toward_weaker old j.output (ready drives.session start.beside) drives.drives })

    equipped_weaker : (old : Openings D) (found : Result (Equipped D d) JobFault) → DrivesEquipped (set after) old new result found → DrivesEquipped (set before) old new result found
    equipped_weaker old (Ok it) drives = opened_weaker old it drives
    equipped_weaker old (Err fault) same = same

    joined_weaker : (old : Openings D) (start : Supplied D) → DrivesJoined (set after) start old new result → DrivesJoined (set before) start old new result
    joined_weaker old start joined = record {
      found = joined.found;
      asked = joined.asked;
      equips = equips_weaker j.history start old joined.asked joined.found joined.equips;
      drives = equipped_weaker joined.asked joined.found joined.drives;
    }

    pub noted_weaker : (old : Openings D) (start : Supplied D) → DrivesNoted (set after) start old new result → DrivesNoted (set before) start old new result
    noted_weaker old start noted = record { disk = noted.disk; answer = noted.answer; notes = noted.notes; drives = behind_weaker noted.answer noted.drives }
      where
        behind_weaker : (answer : Result (Unit {0}) DeviceFault) → DrivesBehindNote (set after) (record { disk = noted.disk; intake = start.intake }) old new result answer
            → DrivesBehindNote (set before) (record { disk = noted.disk; intake = start.intake }) old new result answer
        behind_weaker (Err failed) closed = closed
        behind_weaker (Ok done) drives = joined_weaker old (record { disk = noted.disk; intake = start.intake }) drives

    supplied_weaker : (old : Openings D) (found : Result (Supplied D) JobFault) → DrivesSupplied (set after) old new result found → DrivesSupplied (set before) old new result found
    supplied_weaker old (Ok it) drives = noted_weaker old it drives
    supplied_weaker old (Err fault) same = same

    fed_weaker : (old : Openings D) (disk : D) → DrivesFed (set after) disk old new result → DrivesFed (set before) disk old new result
    fed_weaker old disk fed = record {
      found = fed.found;
      asked = fed.asked;
      supplies = supplies_weaker j.input j.input_from disk old fed.asked fed.found fed.supplies;
      drives = supplied_weaker fed.asked fed.found fed.drives;
    }

    looked_weaker : (old : Openings D) (disk : D) (found : Result (Option JobFault) DeviceFault) → DrivesLooked (set after) disk old new result found → DrivesLooked (set before) disk old new result found
    looked_weaker old disk (Err failed) closed = closed
    looked_weaker old disk (Ok (Some other)) closed = closed
    looked_weaker old disk (Ok None) drives = fed_weaker old disk drives

    pub sized_weaker : (old : Openings D) (start : D) → DrivesSized (set after) j start old new result → DrivesSized (set before) j start old new result
    sized_weaker old start sized = record {
      disk = sized.disk;
      found = sized.found;
      read = sized.read;
      exact = sized.exact;
      drives = looked_weaker old sized.disk sized.found sized.drives;
    }

module _ {D W : Type 0} (d : Ghosts D) (o : Ghosts (StreamOutput W)) (Lent : (stream end : StreamOutput W) → Type 0) (images : List ℕ → Option (List ℕ)) (Opens : List ℕ → D → Type 0) (Fills : List ℕ → ℕ → D → Type 0) (before : Gives D) (j : Driving) (inside : is_in_range j ≡ true) where
  -- a disk that was found and driven is that of the job's path, where less is known of what sources may give
  pub found_driven : (after : Gives D) → GivesNoMore before after → (options : Options) (start : D) (old asked new : Openings D) (result : Result Driven JobFault) → IsAsked j options
      → FindsDisk d (config_for j.sizes) images (Opens j.disk) (Fills j.disk (made_size j)) j.disk j.image old asked (Ok start)
      → DrivesSized (setting_of {d = d} o Lent after j options) j start asked new result → DrivesPath (means_of d o Lent images Opens Fills before j) j old new result
  found_driven after are options start old asked new result as_asked finds sized =
      subst (λ b. DrivesInRange (means_of d o Lent images Opens Fills before j) j old new result b) (sym inside) (record {
        found = Ok start;
        asked = asked;
        finds = finds;
        drives = record { options = options; asked = as_asked; drives = sized_weaker d before after are o Lent j options new result asked start sized };
      })
