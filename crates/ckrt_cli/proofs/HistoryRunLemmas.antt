-- Runs of the program that keep a history, as runs of the law of a history beside many runs.
use Rattle.std.proofs.Common.{◌≡◌, inl, inr, ℕ, ◌≤◌, false, List, [], ◌∷◌, Option, Some, None, Result, Ok, Err, refl, sym, ◌∙◌, ap, subst, arith}
use Rattle.std.specs.Prelude.{IfOk, IfSome, IsOk}
use Rattle.ckrt_disk.specs.Disk.{IsImage}
use Rattle.ckrt_disk.specs.declared.disk.Disk.{Ghosts}
use Rattle.ckrt_drive.specs.Drives.{IsDrive, StopLeaves}
use Rattle.ckrt_drive.specs.Stages.{Stage}
use Rattle.ckrt_drive.specs.Together.{IsLeftSince}
use Rattle.ckrt_drive.specs.declared.options.Options.{Options}
use Rattle.ckrt_drive.proofs.DriveLemmas.{disk_honest}
use Rattle.ckrt_drive.proofs.LengtheningLemmas.{AreReadied, as_it_was, readied_through}
use Rattle.ckrt_schedule.specs.declared.next.ScheduleEnd.{ScheduleEnd}
use Rattle.ckrt_stored.specs.Write.{IsDurable}
use Rattle.ckrt_history.specs.Keeping.{EndsKeeping, GoesKeeping, KeepingStage, stages_with}
use Rattle.ckrt_history.specs.Many.{AdvancesAll, IsDriveBeside, IsKeepingRun, IsOpeningRun, IsReadyingRun, KeepsTheAcknowledged, StopLeavesBeside, StopsOpening, Three}
use Rattle.ckrt_history.specs.Opening.{IsOpening, file_after}
use Rattle.ckrt_history.specs.declared.keeping_fault.KeepingFault.{KeepingFault}
use Rattle.ckrt_history.specs.declared.keeping_fault.KeepingFault.TheVariants.{Device, Drive, Full}
use Rattle.ckrt_history.specs.declared.kept.KeptHistory.{KeptHistory}
use Rattle.ckrt_history.specs.declared.kept.Unkept.{Unkept}
use Rattle.ckrt_history.proofs.BesideLemmas.{AreHonest, all_honest}
use Rattle.ckrt_history.proofs.RanLemmas.{advances_by, stop_behind}
use Rattle.ckrt_cli_words.specs.Jobs.{Driving}
use Rattle.ckrt_cli_files.specs.Openings.{Openings}
use Rattle.ckrt_cli_files.specs.Sources.{Gives}
use Rattle.ckrt_cli_reports.specs.declared.fault.JobFault.{JobFault}
use Rattle.ckrt_cli_disk.specs.Driving.{HistoryHolds, Way, unfed, with_intake}
use Rattle.ckrt_cli_disk.specs.Equipping.{Equips, EquipsSo, OpensKept}
use Rattle.ckrt_cli_disk.specs.declared.equipping.Beside.{Beside}
use Rattle.ckrt_cli_disk.specs.declared.equipping.Equipped.{Equipped}
use Rattle.ckrt_cli_disk.specs.declared.feeding.Intake.{Intake}
use Rattle.ckrt_cli_disk.specs.declared.feeding.Supplied.{Supplied}
use Rattle.ckrt_cli.specs.Coming.{Came, Fed, noted}
use Rattle.ckrt_cli.specs.HistoryRuns.{HasPending, History, IsDriven, IsKeptBy, IsMadeReady, IsOpened, IsSound, LeadsTo, LeavesBy, LeavesDriving, LeavesOpening, Opening, Opens, RunsKeepHistories, RunsKeepTheAcknowledged, fed_of, first_of, history_of, last_of, opening_of, stages_of, three}
use Rattle.ckrt_cli.specs.Promise.{Drove, as_drive}
use Rattle.ckrt_cli.specs.Runs.{IsJoined, IsRun, drive_of}
use Rattle.ckrt_cli.proofs.DriveRunLemmas.{is_run}
use Rattle.ckrt_cli.proofs.JoinedLemmas.{Joins, honest_before, joins}
use Rattle.ckrt_cli.proofs.SupplyLemmas.{by_input, by_joined, by_notes, by_reads}

-- A DRIVE WITH ITS HISTORY

pub keeps_history : {D O : Type 0} (d : Ghosts D) (o : Ghosts O) → RunsKeepHistories d o
keeps_history d o r h noted file bytes opens recovered honest whole file_honest read at left stop =
    let v = drive_of r at in
    let told = r.drives.told in
    let kept = h.keeps.goes in
    let first = first_of r h in
    let last = last_of r h in
    let all = stages_of r h in
    let goes : AdvancesAll v.options all first last = advances_by v.options told kept.stages first kept.last last kept.goes kept.ends in
    let were : AreHonest first = all_honest v.options all first last goes (record { disk = honest; output = whole; file = file_honest }) in
    let was = recovered.disk.same.honest were.disk in
    record {
      disk = r.start;
      opened = h.it;
      opening = opens.order.0;
      synced = opens.order.1 refl;
      is_opened = opens.opened was were.file;
      durable = opens.durable were.file;
      options = v.options;
      input = v.file;
      first = v.first;
      output = refl;
      stages = all;
      last = last;
      at = at;
      drive = subst (λ (l : List (Stage d o)). IsDrive (record { start = r.start; options = v.options; file = v.file; first = v.first; stages = l; last = v.last; at = at })) h.keeps.same ((is_run d o r recovered honest whole read).is at);
      keeps = goes;
      honest = file_honest;
      stop = stop;
    }

-- where the history didn't fail all its appends went well
well_kept : {D O : Type 0} {d : Ghosts D} {o : Ghosts O} (options : Options) (told : Result (Option ScheduleEnd) KeepingFault) → HistoryHolds told → (stages : List (KeepingStage d o d)) (x last y : KeepingStage d o d) → GoesKeeping options stages x last → EndsKeeping options last y told
    → GoesKeeping options (stages_with stages y told) x y
well_kept options (Ok ended) holds stages x last y goes ends = subst (GoesKeeping options stages x) (sym ends) goes
well_kept options (Err (Drive fault)) holds stages x last y goes ends = subst (GoesKeeping options stages x) (sym ends) goes
well_kept options (Err Device) holds stages x last y goes ends = absurd holds
well_kept options (Err Full) holds stages x last y goes ends = absurd holds

-- what isn't called any more is left as it is
left_as_it_is : {D : Type 0} (d : Ghosts D) → ((disk : D) (t : ℕ) (image : List ℕ) → d.is_honest disk → t ≤ d.moment disk → IsImage (d.content disk) (d.pending disk) image → d.left_since disk t image) → (disk : D) → IsSound d disk → IsLeftSince d disk disk disk
left_as_it_is d counts disk is = record { images = λ image may. counts disk (d.moment disk) image is.honest (omega arith) may; inside = is.inside }

module _ {D O : Type 0} (d : Ghosts D) (o : Ghosts O) (counts : (disk : D) (t : ℕ) (image : List ℕ) → d.is_honest disk → t ≤ d.moment disk → IsImage (d.content disk) (d.pending disk) image → d.left_since disk t image)
    (output_counts : (disk : O) (t : ℕ) (image : List ℕ) → o.is_honest disk → t ≤ o.moment disk → IsImage (o.content disk) (o.pending disk) image → o.left_since disk t image) where
  pub keeps_acknowledged : KeepsTheAcknowledged d o d → RunsKeepTheAcknowledged d o
  unfolding keeps_history
  keeps_acknowledged law before r h noted file bytes opens recovered whole output_whole file_whole read holds stands =
      let v = drive_of r (last_of r h).stage in
      let told = r.drives.told in
      let kept = h.keeps.goes in
      let end : Three D O D = three r.after.disk r.end h.end in
      let goes = advances_by v.options told kept.stages (first_of r h) kept.last (last_of r h) kept.goes kept.ends in
      let stop = stop_behind v.options (stages_of r h) (first_of r h) (last_of r h) end goes (left_as_it_is d counts r.after.disk whole) (left_as_it_is o output_counts r.end output_whole) (left_as_it_is d counts h.end file_whole) in
      law before (three noted r.output file) end (keeps_history d o r h noted file bytes opens recovered whole.honest output_whole.honest file_whole.honest read (last_of r h).stage end stop) stands
      (well_kept v.options told holds kept.stages (first_of r h) kept.last (last_of r h) kept.goes kept.ends)

-- THE DISK BEFORE IT

module _ {D : Type 0} (d : Ghosts D) where
  readied_on : (found a b : D) → AreReadied d a b → AreReadied d found a → AreReadied d found b
  readied_on found a b are before image may =
      let m = are image may in
      let s = before m.0 m.1 in
      (s.0, s.1, readied_through s.0 m.0 image s.2 m.2)

  -- one that was made ready is as it was found, perhaps with zeros behind it, and with its schedule noted
  made_ready : {gives : Gives D} {j : Driving} (disk : D) (fed : Fed d gives j) → IsMadeReady disk fed → d.is_honest fed.disk → AreReadied d disk fed.disk
  made_ready {gives = gives} {j = j} disk fed is honest =
      let fine = fed.notes.within.same.honest honest in
      let begins : AreReadied d disk fed.sized.found = subst (λ (q : D). AreReadied d disk q) (sym is.found) (λ image may. (image, may, as_it_was image)) in
      let there = by_input d (AreReadied d disk) (readied_on disk) gives fed.it j.input j.input_from fed.sized.looked fed.before fed.asked fed.supplies is.longer fine
      (λ whole. by_reads d (AreReadied d disk) (readied_on disk) fed.sized.found fed.sized.looked _ fed.sized.sized whole begins) in
      by_notes d (AreReadied d disk) (readied_on disk) _ fed.it.disk fed.disk fed.notes honest there.holds

  -- with a history it has all bytes that are pending, too
  joined_pending : (noted start : D) → IsJoined d noted start → d.is_honest start → HasPending d noted → HasPending d start
  joined_pending noted start (inl same) honest inside = subst (HasPending d) (sym same) inside
  joined_pending noted start (inr read) honest inside = λ i pending. absurd ((read.settled refl honest).durable i pending)

  -- THE HISTORY OF ITS WORDS

  way_history : (way : Way d) (intake : Option (Intake D)) (input : Option D) → (with_intake d way intake input).history ≡ way.history
  way_history way None input = refl
  way_history way (Some it) None = refl
  way_history way (Some it) (Some end) = refl

  -- a drive's history was opened so, and this is known of the opening
  module _ (gives : Gives D) (start : Supplied D) (it : Equipped D d) (history : KeptHistory D d) (kept : it.beside.history ≡ Some history) where
    record Opened (Known : Opening d start.disk → Type 0) : Type 0 where
      pub opening : Opening d start.disk
      pub known : Known opening
      pub opens : OpensKept d opening.file.length start.disk it.disk opening.file.output (Ok history)

    by_made : (Known : Opening d start.disk → Type 0) (opening : Opening d start.disk) → Known opening → (made : Result (KeptHistory D d) (Unkept D)) → OpensKept d opening.file.length start.disk opening.end opening.file.output made
        → (asked new : Openings D) → EquipsSo (record { disk = opening.end; intake = start.intake }) asked new (Ok it) made → Opened Known
    by_made Known opening known (Err unkept) opens asked new ends = let no = ends.0 in absurd (cc)
    by_made Known opening known (Ok other) opens asked new ends =
        let beside : Beside D d = record { intake = start.intake; history = Some other } in
        let found : ◌≡◌ {A = Result (Equipped D d) JobFault} (Ok it) (Ok (record { disk = opening.end; beside = beside })) = ends.0 in
        let whole : it ≡ record { disk = opening.end; beside = beside } = cc in
        let both : ◌≡◌ {A = Option (KeptHistory D d)} (Some history) (Some other) = sym kept ∙ ap (λ (q : Equipped D d). q.beside.history) whole in
        let same : history ≡ other = cc in
        record {
          opening = opening;
          known = known;
          opens = subst (λ (q : KeptHistory D d). OpensKept d opening.file.length start.disk it.disk opening.file.output (Ok q)) (sym same)
              (subst (λ (q : D). OpensKept d opening.file.length start.disk q opening.file.output (Ok other)) (sym (ap (λ (q : Equipped D d). q.disk) whole)) opens);
        }

    was_opened : (Known : Opening d start.disk → Type 0) (path : Option (List ℕ)) (old new : Openings D) (equips : Equips d gives path start old new (Ok it)) → IfSome (opening_of gives path start old new (Ok it) equips) Known → Opened Known
    was_opened Known None old new equips known =
        let beside : Beside D d = record { intake = start.intake; history = None } in
        let found : ◌≡◌ {A = Result (Equipped D d) JobFault} (Ok it) (Ok (record { disk = start.disk; beside = beside })) = equips.0 in
        let whole : it ≡ record { disk = start.disk; beside = beside } = cc in
        let no : ◌≡◌ {A = Option (KeptHistory D d)} (Some history) None = sym kept ∙ ap (λ (q : Equipped D d). q.beside.history) whole in
        absurd (cc)
    was_opened Known (Some path) old new (inl lacks) known = let no = lacks.is in absurd (cc)
    was_opened Known (Some path) old new (inr opens) known =
        by_made Known (record { file = opens.output; end = opens.equips.disk; made = opens.equips.made; opens = opens.equips.opens }) known opens.equips.made opens.equips.opens _ new opens.equips.ends

-- ONE RUN

durable_after : {D : Type 0} (d : Ghosts D) (made : Result (KeptHistory D d) (Unkept D)) → IsOk made → IfOk made (λ it. d.is_honest it.file → IsDurable d it.file) → d.is_honest (file_after made) → IsDurable d (file_after made)
durable_after d (Ok it) ok durable honest = durable honest
durable_after d (Err unkept) ok durable honest = absurd (cc)

module _ {D : Type 0} (d : Ghosts D) (counts : (disk : D) (t : ℕ) (image : List ℕ) → d.is_honest disk → t ≤ d.moment disk → IsImage (d.content disk) (d.pending disk) image → d.left_since disk t image) where
  -- what wasn't called is left as it is
  left_here : (disk : D) → IsSound d disk → IsLeftSince d disk disk disk
  left_here disk is = left_as_it_is d counts disk is

  -- a disk was made ready, while output and file weren't called
  readying : (x : Three D D D) (disk output file : D) → IsSound d x.output → IsSound d x.file → output ≡ x.output → file ≡ x.file → AreReadied d x.disk disk → HasPending d disk → IsReadyingRun d d d x (three disk output file)
  readying x disk output file whole file_whole same same_file are inside = record {
    disk = record { images = are; inside = inside };
    output_honest = whole.honest;
    output = subst (λ (q : D). IsLeftSince d x.output x.output q) (sym same) (left_here x.output whole);
    file_honest = file_whole.honest;
    file = subst (λ (q : D). IsLeftSince d x.file x.file q) (sym same_file) (left_here x.file file_whole);
  }

  module _ {gives : Gives D} {j : Driving} (x : Three D D D) (whole : IsSound d x.output) (file_whole : IsSound d x.file) where
    -- ITS OPENING

    module _ (it : Opens d gives j) (is : IsOpened x it) where
      abbrev opening : IsOpening d d it.fed.disk it.opening.end it.opening.file.output (file_after it.opening.made)
      opening = it.opening.opens.order.0

      mid_honest : d.is_honest opening.mid
      mid_honest = opening.reads.1.same.honest is.disk_honest

      was_honest : d.is_honest it.fed.disk
      was_honest = opening.synced.same.honest mid_honest

      abbrev before : Three D D D
      before = three it.fed.disk x.output it.opening.file.output

      readied : IsReadyingRun d d d x before
      readied = readying x it.fed.disk x.output it.opening.file.output whole file_whole refl is.found_file (made_ready d x.disk it.fed is.readied was_honest) is.readied.inside

      opening_run : (left : Three D D D) → StopsOpening it.fed.disk it.opening.end it.opening.file.output (file_after it.opening.made) opening left.disk left.file → IsLeftSince d x.output x.output left.output → IsOpeningRun d d d before left
      opening_run left stop same = record {
        end = it.opening.end;
        after = file_after it.opening.made;
        honest = is.disk_honest;
        file_honest = is.file_honest;
        opening = opening;
        stop = stop;
        output_honest = whole.honest;
        output = same;
      }

      -- a stop behind it
      stops_behind : IsOk it.opening.made → StopsOpening it.fed.disk it.opening.end it.opening.file.output (file_after it.opening.made) opening it.opening.end (file_after it.opening.made)
      stops_behind ok =
          let synced : opening.failed ≡ false = it.opening.opens.order.1 ok in
          let settled = opening.synced.settled synced mid_honest in
          let durable = durable_after d it.opening.made ok it.opening.opens.durable is.file_honest in
          inr (
            synced,
            record {
              images = λ image may. counts it.opening.end (d.moment opening.mid) image is.disk_honest (opening.reads.1.any_moment is.disk_honest).later may;
              inside = λ i pending. absurd (settled.durable i ((opening.reads.1.pending is.disk_honest i).0 pending));
            },
            record {
              images = λ image may. counts (file_after it.opening.made) (d.moment it.opening.file.output) image is.file_honest (opening.joins is.disk_honest is.file_honest).later may;
              inside = λ i pending. absurd (durable i pending);
            },
          )

    by_opening : (opens : Option (Opens d gives j)) (left : Three D D D) → IfSome opens (IsOpened x) → LeavesOpening opens x.output left → LeadsTo d d d x left
    by_opening None left is none = absurd none
    by_opening (Some it) left is (inl stop) = (before it is ∷ [], (inl (readied it is), (inr (inl (opening_run it is left stop.0 stop.1)), tt)))
    by_opening (Some it) left is (inr behind) =
        let opened = three it.opening.end x.output (file_after it.opening.made) in (
          before it is ∷ opened ∷ [],
          (inl (readied it is), (inr (inl (opening_run it is opened (stops_behind it is behind.0) (left_here x.output whole))), (inl behind.1, tt))),
        )

    -- ITS DRIVE

    module _ {path : List ℕ} (it : Drove d gives j path) (is : IsDriven x it) where
      abbrev came : Came d gives j path
      came = it.came

      begins : d.is_honest came.run.start
      begins = came.recovered.disk.same.honest (disk_honest d d (as_drive it).options (as_drive it).stages (as_drive it).first (as_drive it).last came.run.drives.by_steps.goes is.disk_honest)

      had : Joins d gives (noted (fed_of came)) (record { disk = came.run.start; beside = came.run.beside })
      had = joins d gives (noted (fed_of came)) (record { disk = came.run.start; beside = came.run.beside }) j.history came.asked came.joined came.equips

      noted_honest : d.is_honest came.noted
      noted_honest = honest_before d came.noted came.run.start had.joined begins

      are : AreReadied d x.disk came.noted
      are = made_ready d x.disk (fed_of came) is.readied noted_honest

      run : IsRun came.run
      run = is_run d d came.run came.recovered is.disk_honest is.output_honest is.input_honest

      -- without a history
      alone : (left : Three D D D) → StopLeaves (as_drive it).stages (as_drive it).first it.at left.disk left.output → IsLeftSince d x.file x.file left.file → LeadsTo d d d x left
      alone left stop same =
          let mid = three came.run.start came.run.output x.file in
          let ready = readying x came.run.start came.run.output x.file whole file_whole is.found_output refl (by_joined d (AreReadied d x.disk) (readied_on d x.disk) came.noted came.run.start had.joined begins are)
          (joined_pending d came.noted came.run.start had.joined begins is.readied.inside) in
          let drive : IsDriveBeside d d d mid left = record { drive = as_drive it; is = run.is it.at; start = refl; output = refl; stop = stop; file_honest = file_whole.honest; file = same } in
          (mid ∷ [], (inl ready, (inr (inr (inr drive)), tt)))

      -- with one
      keeping : (h : History came.run) → d.is_honest h.end → (left : Three D D D) → StopLeavesBeside (stages_of came.run h) (first_of came.run h) it.at left → LeadsTo d d d x left
      keeping h honest left stop =
          let had_history : came.run.beside.history ≡ Some h.it = sym (way_history d (unfed came.run.options came.run.beside.history came.run.left.history) came.run.beside.intake came.run.left.input) ∙ h.is in
          let opened = was_opened d gives (noted (fed_of came)) (record { disk = came.run.start; beside = came.run.beside }) h.it had_history (λ o. o.file.output ≡ x.file) j.history came.asked came.joined came.equips is.found_file in
          let mid = three came.noted came.run.output opened.opening.file.output in
          let ready = readying x came.noted came.run.output opened.opening.file.output whole file_whole is.found_output opened.known are is.readied.inside in
          let keeps : IsKeepingRun d d d mid left = keeps_history d d came.run h came.noted opened.opening.file.output opened.opening.file.length opened.opens came.recovered is.disk_honest is.output_honest honest is.input_honest it.at left stop in
          (mid ∷ [], (inl ready, (inr (inr (inl keeps)), tt)))

      by_driving : (h : Option (History came.run)) → IfSome h (λ q. d.is_honest q.end) → (left : Three D D D) → LeavesDriving it h x.file left → LeadsTo d d d x left
      by_driving None honest left leaves = alone left leaves.0 leaves.1
      by_driving (Some h) honest left leaves = keeping h honest left leaves

    pub leads : {path : List ℕ} (opens : Option (Opens d gives j)) (drove : Option (Drove d gives j path)) (left : Three D D D) → IsKeptBy opens drove x → LeavesBy opens drove x left → LeadsTo d d d x left
    leads opens (Some it) left driven leaves = by_driving it driven (history_of it.came.run) driven.file_honest left leaves
    leads opens None left opened (inl ready) = ([], (inl ready, tt))
    leads opens None left opened (inr stop) = by_opening opens left opened stop
