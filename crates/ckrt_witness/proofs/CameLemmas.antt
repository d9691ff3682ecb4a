-- A run whose job didn't fail came to its drive.
use Rattle.std.proofs.Common.{◌≡◌, inl, inr, ℕ, Bool, true, false, List, Option, Some, None, Result, Ok, Err, refl, sym, ◌∙◌, ap, subst}
use Rattle.std.specs.Prelude.{◌≢◌}
use Rattle.ckrt_disk.specs.Frame.{IsOnlyRead}
use Rattle.ckrt_disk.specs.declared.disk.DeviceFault.{DeviceFault}
use Rattle.ckrt_disk.specs.declared.disk.Disk.{Ghosts}
use Rattle.std.specs.Prelude.{is_err, is_some}
use Rattle.ckrt_drive.specs.declared.options.Options.{Options}
use Rattle.ckrt_cli_disk.specs.Driving.{DrivesBehindNote, DrivesEquipped, DrivesFound, DrivesInRange, DrivesInto, DrivesLooked, DrivesOpened, DrivesOpenedOutput, DrivesPath, DrivesSupplied, DrivesToward, HistoryHolds, IsAsked, Means, answer_of, driven_of, ready}
use Rattle.ckrt_recovery.specs.Recovered.{IsRecovered}
use Rattle.ckrt_cli_disk.specs.Equipping.{Equips, with_left_closed}
use Rattle.ckrt_cli_disk.specs.Feeding.{Supplies}
use Rattle.ckrt_cli_disk.specs.Missing.{FindsDisk}
use Rattle.ckrt_cli_disk.specs.Noting.{Notes, asked_schedule}
use Rattle.ckrt_cli_disk.specs.declared.equipping.Equipped.{Equipped}
use Rattle.ckrt_cli_disk.specs.declared.feeding.Supplied.{Supplied}
use Rattle.ckrt_cli_reports.specs.Outside.{Outside}
use Rattle.ckrt_cli_reports.specs.Ranges.{config_for, is_in_range}
use Rattle.ckrt_cli_reports.specs.Statuses.{status_of, status_of_words}
use Rattle.ckrt_cli_reports.specs.declared.driven.Driven.{Driven}
use Rattle.ckrt_cli_reports.specs.declared.fault.JobFault.{JobFault}
use Rattle.ckrt_cli.specs.Performing.{Reach, RunsRequest, RunsWords, Said, means_in, outcome_with_end}
use Rattle.ckrt_recovery.specs.declared.session.Session.{Session}
use Rattle.ckrt_cli_files.specs.Openings.{Openings, opened, with_closed_output, with_output}
use Rattle.ckrt_cli_files.specs.declared.output.OpenedOutput.{OpenedOutput}
use Rattle.ckrt_cli_words.specs.Jobs.{Driving, drive, request_of_words}
use Rattle.ckrt_cli_words.specs.declared.job.WordsFault.{WordsFault}
use Rattle.ckrt_cli_words.specs.declared.job.WordsFault.TheVariants as words
use Rattle.ckrt_history.specs.declared.keeping_fault.KeepingFault.{KeepingFault}
use Rattle.ckrt_history.specs.declared.keeping_fault.KeepingFault.TheVariants.{Device, Drive, Full}
use Rattle.ckrt_machine.specs.Steps.{State}
use Rattle.ckrt_schedule.specs.declared.next.ScheduleEnd.{ScheduleEnd}
use Rattle.ckrt_cli_files.specs.declared.reason.OutputReason.{OutputReason}
use Rattle.ckrt_cli.specs.Coming.{Came, Fed, Furnished, Sized, in_range, noted, of_fed, of_found, of_furnished, of_looked, of_noted, of_path, of_sized, onto_fitting, onto_opened, set}
use Rattle.ckrt_cli.specs.Commands.{asked_or, of_request, of_words}

-- where a job didn't fail, the history of its drive didn't
holds_by : (result : Result Driven JobFault) → ((fault : JobFault) → result ≡ Err fault → ⊥) → (why : OutputReason) (answer : Result Driven KeepingFault) → result ≡ answer_of why answer → (state : State) (told : Result (Option ScheduleEnd) KeepingFault)
    → answer ≡ driven_of state told → HistoryHolds told
holds_by result well why answer is state (Ok ending) gives = tt
holds_by result well why answer is state (Err (Drive fault)) gives = tt
holds_by result well why answer is state (Err Device) gives = absurd (well _ (is ∙ ap (answer_of why) gives))
holds_by result well why answer is state (Err Full) gives = absurd (well _ (is ∙ ap (answer_of why) gives))

module _ {D W : Type 0} {d : Ghosts D} (means : Means d W) (j : Driving) where
  abbrev pub Finds : D → Type 0
  Finds x = (old : Openings D) × (asked : Openings D) × FindsDisk d (config_for j.sizes) means.images means.Opens means.Fills j.disk j.image old asked (Ok x)

  -- what is known of a drive that a run came to, besides
  pub record Facts (path : List ℕ) (new : Openings D) (came : Came d means.sources j path) : Type 0 where
    pub finds : Finds came.found
    pub asked : Openings D
    pub closes : new ≡ with_left_closed (with_closed_output asked came.run.end) came.run.left came.run.after.disk
    pub kept : is_some came.run.left.input ≡ is_some came.run.beside.intake
    pub holds : HistoryHolds came.run.drives.told

  module _ (path : List ℕ) (named : j.output ≡ Some path) (result : Result Driven JobFault) (new : Openings D) where
    -- there is a drive, of which this is known where the job didn't fail; or it failed
    abbrev pub Says : Option (Came d means.sources j path) → Type 0
    Says None = (fault : JobFault) × (result ≡ Err fault)
    Says (Some came) = ((fault : JobFault) → result ≡ Err fault → ⊥) → Facts path new came

    by_fitting : (there : Furnished d means.sources j) → Finds there.fed.sized.found → (session : Session D d) → (recovered : IsRecovered d there.it.disk session) → (output : OpenedOutput D) → (is_opened : means.sources.Outputs path output)
        → (drives : DrivesOpenedOutput output there.fed.sized.options (ready session there.it.beside) (with_output there.joined (opened path)) new result)
        → Says (onto_fitting means j path named result there new session recovered output is_opened drives)
    by_fitting there finds session recovered output is_opened (inl refuses) = (_, refuses.is)
    by_fitting there finds session recovered output is_opened (inr takes) = λ well. record {
      finds = finds;
      asked = with_output there.joined (opened path);
      closes = takes.drives.closes;
      kept = takes.drives.kept;
      holds = holds_by result well takes.drives.why takes.drives.answer takes.drives.gives takes.drives.after.progress.machine.state takes.drives.drives.told takes.drives.drives.gives;
    }

    by_output : (there : Furnished d means.sources j) → Finds there.fed.sized.found → (session : Session D d) → (recovered : IsRecovered d there.it.disk session)
        → (drives : DrivesInto (means.sources.Outputs path) path there.fed.sized.options (ready session there.it.beside) there.joined new result)
        → Says (onto_opened means j path named result there new session recovered drives)
    by_output there finds session recovered (inl lacks) = (_, lacks.is)
    by_output there finds session recovered (inr opens) = by_fitting there finds session recovered opens.output opens.is_opened opens.drives

    by_furnished : (there : Furnished d means.sources j) → Finds there.fed.sized.found → (drives : DrivesOpened (set means j path named result there.fed.sized.options) there.it there.joined new result) → Says (of_furnished means j path named result there new drives)
    by_furnished there finds (inl lacks) = (_, lacks.is)
    by_furnished there finds (inr drives) =
        by_output there finds drives.session drives.recovered
        (subst
        (DrivesToward (set means j path named result there.fed.sized.options) (ready drives.session there.it.beside) there.joined new
        result)
        named drives.drives)

    by_fed : (fed : Fed d means.sources j) → Finds fed.sized.found → (joined : Openings D) → (found : Result (Equipped D d) JobFault) → (equips : Equips d means.sources j.history (noted fed) fed.asked joined found)
        → (ends : DrivesEquipped (set means j path named result fed.sized.options) joined new result found)
        → Says (of_fed means j path named result fed joined new found equips ends)
    by_fed fed finds joined (Err fault) equips ends = (_, ends.0)
    by_fed fed finds joined (Ok it) equips ends = by_furnished (record { fed = fed; joined = joined; it = it; equips = equips }) finds ends

    by_noted : (sized : Sized d j) → Finds sized.found → (before asked : Openings D) → (it : Supplied D) → (supplies : Supplies d means.sources j.input j.input_from sized.looked before asked (Ok it))
        → (disk : D) → (answer : Result (Unit {0}) DeviceFault) → (notes : Notes d (asked_schedule j) it.disk disk answer)
        → (ends : DrivesBehindNote (set means j path named result sized.options) (record { disk = disk; intake = it.intake }) asked new result answer)
        → Says (of_noted means j path named result sized before asked new it supplies disk answer notes ends)
    by_noted sized finds before asked it supplies disk (Err failed) notes ends = (_, ends.0)
    by_noted sized finds before asked it supplies disk (Ok done) notes ends =
        by_fed (record { sized = sized; before = before; asked = asked; it = it; supplies = supplies; disk = disk; notes = notes }) finds ends.asked ends.found ends.equips ends.drives

    by_sized : (sized : Sized d j) → Finds sized.found → (before asked : Openings D) → (got : Result (Supplied D) JobFault)
        → (supplies : Supplies d means.sources j.input j.input_from sized.looked before asked got)
        → (ends : DrivesSupplied (set means j path named result sized.options) asked new result got)
        → Says (of_sized means j path named result sized before asked new got supplies ends)
    by_sized sized finds before asked (Err fault) supplies ends = (_, ends.0)
    by_sized sized finds before asked (Ok it) supplies ends = by_noted sized finds before asked it supplies ends.disk ends.answer ends.notes ends.drives

    by_looked : (options : Options) (asks : IsAsked j options) (found looked : D) → Finds found → (old : Openings D) → (other : Result (Option JobFault) DeviceFault)
        → (sized : IsOnlyRead d found looked (is_err other))
        → (drives : DrivesLooked (set means j path named result options) looked old new result other)
        → Says (of_looked means j path named result options asks found looked old new other sized drives)
    by_looked options asks found looked finds old (Err failed) sized ends = (_, ends.0)
    by_looked options asks found looked finds old (Ok (Some other)) sized ends = (_, ends.0)
    by_looked options asks found looked finds old (Ok None) sized fed =
        by_sized
        (record { options = options; asks = asks; found = found; looked = looked; sized = sized }) finds
        old fed.asked fed.found fed.supplies fed.drives

    by_found : (first old : Openings D) → (found : Result D JobFault) → FindsDisk d (config_for j.sizes) means.images means.Opens means.Fills j.disk j.image first old found
        → (it : DrivesFound means j old new result found) → Says (of_found means j path named result old new found it)
    by_found first old (Err fault) finds ends = (_, ends.0)
    by_found first old (Ok found) finds it =
        by_looked it.options it.asked found it.drives.disk (first, old, finds) old it.drives.found it.drives.read it.drives.drives

    by_range : (old : Openings D) → (b : Bool) → (it : DrivesInRange means j old new result b) → Says (in_range means j path named result old new b it)
    by_range old false ends = (_, ends.0)
    by_range old true it = by_found old it.asked it.found it.finds it.drives

    by_path : (old : Openings D) → (drives : DrivesPath means j old new result) → Says (of_path means j path named result old new drives)
    by_path old drives = by_range old (is_in_range j) drives

    some : (o : Option (Came d means.sources j path)) → Says o → ((fault : JobFault) → result ≡ Err fault → ⊥) → (came : Came d means.sources j path) × (o ≡ Some came) × Facts path new came
    some None failed well = absurd (well failed.0 failed.1)
    some (Some came) facts well = (came, refl, facts well)

not_refused : (f : WordsFault) (status : ℕ) → status ≡ status_of_words f → status ≢ 1 → status ≢ 2 → ⊥
not_refused (words.Usage text) status is one two = two is
not_refused words.OutOfMemory status is one two = one is

module _ {D W : Type 0} {d : Ghosts D} (it : Reach d W) (ws : List (List ℕ)) (j : Driving) (path : List ℕ) (asks : request_of_words ws ≡ Some (drive j)) (named : j.output ≡ Some path)
    (old new : Outside D) (said : Said) (status : ℕ) (done : status ≢ 1) (taken : status ≢ 2) where
  by_request : (run : RunsRequest it (drive j) old new said status) → (came : Came d it.others j path) × (of_request it ws j path asks named old new said status run ≡ Some came) × Facts (means_in it old new j) j path new.openings came
  by_request run =
      some (means_in it old new j) j path named run.performs.0.0 new.openings
      (of_path (means_in it old new j) j path named run.performs.0.0 old.openings new.openings run.performs.0.2)
      (by_path (means_in it old new j) j path named run.performs.0.0 new.openings old.openings run.performs.0.2)
      (λ fault is. done (run.gives ∙ ap status_of (run.performs.0.1 ∙ ap outcome_with_end is)))

  pub came_by_words : (runs : RunsWords it ws old new said status) → (came : Came d it.others j path) × (of_words it ws j path asks named old new said status runs ≡ Some came) × Facts (means_in it old new j) j path new.openings came
  came_by_words (inr refuses) = absurd (not_refused refuses.fault status refuses.gives done taken)
  came_by_words (inl runs) =
      by_request
      (subst (λ q. RunsRequest it q old new said status)
      (ap (asked_or (drive j)) (sym runs.1 ∙ asks)) runs.2)
