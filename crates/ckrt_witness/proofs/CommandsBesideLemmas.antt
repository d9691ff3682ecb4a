-- Two runs by their words that keep a history, the second on what a stop behind the first left.
use Rattle.std.proofs.Common.{◌≡◌, ◌≤◌, inl, inr, ℕ, Bool, false, List, [], ◌∷◌, Option, Some, None, Result, Ok, Err, refl, sym, ◌∙◌, ap, subst, arith}
use Rattle.std.specs.Prelude.{IfSome}
use Rattle.ckrt_disk.specs.declared.disk.Disk.{Ghosts}
use Rattle.ckrt_drive.specs.Stages.{GoesBySteps, Stage, stage}
use Rattle.ckrt_drive.specs.Lengthening.{IsLengthened}
use Rattle.ckrt_drive.specs.Together.{IsLeftSince, Past}
use Rattle.ckrt_drive.specs.declared.options.Options.{Options}
use Rattle.ckrt_look_recording.specs.Recording.{Recorded}
use Rattle.ckrt_schedule.specs.declared.next.ScheduleEnd.{ScheduleEnd}
use Rattle.ckrt_stored.specs.Programs.{Program, RecoversToStart}
use Rattle.ckrt_history.specs.History.{HasHistory}
use Rattle.ckrt_history.specs.Many.{IsReadyingRun, RunsStandBeside, StandBeside, Three}
use Rattle.ckrt_history.specs.declared.keeping_fault.KeepingFault.{KeepingFault}
use Rattle.ckrt_history.specs.declared.kept.KeptHistory.{KeptHistory}
use Rattle.ckrt_history.specs.declared.kept.Unkept.{Unkept}
use Rattle.ckrt_history.proofs.RanLemmas.{advances_by, stop_behind}
use Rattle.ckrt_cli_words.specs.Jobs.{Driving}
use Rattle.ckrt_cli_files.specs.Openings.{Openings, with_closed_history, with_closed_input, with_closed_output}
use Rattle.ckrt_cli_files.specs.Sources.{Gives}
use Rattle.ckrt_cli_files.specs.declared.output.OpenedOutput.{OpenedOutput}
use Rattle.ckrt_cli_reports.specs.declared.fault.JobFault.{JobFault}
use Rattle.ckrt_cli_disk.specs.Driving.{GetsHistory, Way, unfed, with_intake}
use Rattle.ckrt_cli_disk.specs.Equipping.{Equips, EquipsSo, OpensKept}
use Rattle.ckrt_cli_disk.specs.Feeding.{Supplies}
use Rattle.ckrt_cli_disk.specs.Noting.{asked_schedule}
use Rattle.ckrt_cli_disk.specs.declared.equipping.Beside.{Beside}
use Rattle.ckrt_cli_disk.specs.declared.equipping.Equipped.{Equipped}
use Rattle.ckrt_cli_disk.specs.declared.feeding.Intake.{Intake}
use Rattle.ckrt_cli_disk.specs.declared.feeding.Supplied.{Supplied}
use Rattle.ckrt_cli.specs.Coming.{Came}
use Rattle.ckrt_cli.specs.Commands.{Paths, Run, drive_in, of_words}
use Rattle.ckrt_cli.specs.HistoryRuns.{GoOnBeside, History, IsDriven, IsKeptBeside, IsKeptBy, IsSound, LeavesBeside, LeavesBy, LeavesDriving, RunBeside, RunsKeepHistories, RunsKeepTheAcknowledged, RunsStandOn, WithHistory, fed_of, first_of, found_by, history_of, last_of, opening_before, opening_in, opening_of, stages_of, with_history}
use Rattle.ckrt_cli.specs.Performing.{Reach, means_in}
use Rattle.ckrt_cli.specs.Promise.{Drove, LeaveItLonger, drove}
use Rattle.ckrt_cli.specs.Runs.{way_of_run}
use Rattle.ckrt_witness.specs.Beside.{three}
use Rattle.ckrt_witness.specs.CommandsBeside.{AsksHistory, CommandsWitness, DroveKeeping, KeepsWitness, RanBeside, RanTwice}
use Rattle.ckrt_witness.proofs.BesideLemmas.{CountsNow, Reads}
use Rattle.ckrt_witness.proofs.CameLemmas.{Facts, came_by_words}
use Rattle.ckrt_witness.proofs.RunsLemmas.{closed_before, found_there, history_before, no_more, was_read}
use Rattle.ckrt_witness.proofs.WitnessLemmas.{again, only_image}

all_some : {A : Type 0} (P : A → Type 0) → ((x : A) → P x) → (o : Option A) → IfSome o P
all_some P all None = tt
all_some P all (Some x) = all x

-- WITHOUT AN INPUT

-- a disk comes as it is
comes_as_it_is : {D : Type 0} (d : Ghosts D) (gives : Gives D) (input : Option (List ℕ)) → input ≡ None → (from : Option ℕ) (looked : D) (before asked : Openings D) (it : Supplied D) → Supplies d gives input from looked before asked (Ok it) → it.disk ≡ looked
comes_as_it_is {D = D} d gives None is from looked before asked it supplies =
    let found : ◌≡◌ {A = Result (Supplied D) JobFault} (Ok it) (Ok (record { disk = looked; intake = None })) = supplies.0 in
    let whole : it ≡ record { disk = looked; intake = None } = cc in
    ap (λ (q : Supplied D). q.disk) whole
comes_as_it_is d gives (Some path) is from looked before asked it supplies = let no : ◌≡◌ {A = Option (List ℕ)} (Some path) None = is in absurd (cc)

-- and nothing is made longer
not_longer : {D : Type 0} (d : Ghosts D) (gives : Gives D) (input : Option (List ℕ)) → input ≡ None → (from : Option ℕ) (looked : D) (before asked : Openings D) (it : Supplied D) → Supplies d gives input from looked before asked (Ok it)
    → (other : D) → asked.lengthened ≡ other ∷ before.lengthened → ⊥
not_longer d gives None is from looked before asked it supplies other more = no_more other before.lengthened asked.lengthened (ap (λ (q : Openings _). q.lengthened) supplies.1) more
not_longer d gives (Some path) is from looked before asked it supplies other more = let no : ◌≡◌ {A = Option (List ℕ)} (Some path) None = is in absurd (cc)

-- THE FILE OF THE HISTORY

-- what was opened for it
opened_there : {D : Type 0} (d : Ghosts D) (gives : Gives D) (path : List ℕ) (file : D) → ((o : OpenedOutput D) → gives.Outputs path o → o.output ≡ file) → (named : Option (List ℕ)) → named ≡ Some path
    → (start : Supplied D) (old new : Openings D) (found : Result (Equipped D d) JobFault) (equips : Equips d gives named start old new found)
    → IfSome (opening_of gives named start old new found equips) (λ o. o.file.output ≡ file)
opened_there d gives path file files None is start old new found equips = let no : ◌≡◌ {A = Option (List ℕ)} None (Some path) = is in absurd (cc)
opened_there d gives path file files (Some other) is start old new found (inl lacks) = tt
opened_there d gives path file files (Some other) is start old new found (inr opens) =
    let same : other ≡ path = cc in
    files opens.output (subst (λ (q : List ℕ). gives.Outputs q opens.output) same opens.is_opened)

module _ {D : Type 0} (d : Ghosts D) where
  abbrev Kept : Type 0
  Kept = KeptHistory D d

  -- it was opened so, of this file, for a disk
  record IsBeside (start : D) (it : Equipped D d) (x : D) : Type 0 where
    pub history : Kept
    pub is : it.beside.history ≡ Some history
    pub file : D
    pub same : file ≡ x
    pub bytes : ℕ
    pub opens : OpensKept d bytes start it.disk file (Ok history)

  by_made : (start disk file x : D) (bytes : ℕ) (intake : Option (Intake D)) (it : Equipped D d) (asked new : Openings D) → file ≡ x → (made : Result Kept (Unkept D)) → OpensKept d bytes start disk file made
      → EquipsSo (record { disk = disk; intake = intake }) asked new (Ok it) made → IsBeside start it x
  by_made start disk file x bytes intake it asked new same (Err unkept) opens ends = let no = ends.0 in absurd (cc)
  by_made start disk file x bytes intake it asked new same (Ok history) opens ends =
      let beside : Beside D d = record { intake = intake; history = Some history } in
      let found : ◌≡◌ {A = Result (Equipped D d) JobFault} (Ok it) (Ok (record { disk = disk; beside = beside })) = ends.0 in
      let whole : it ≡ record { disk = disk; beside = beside } = cc in
      record {
        history = history;
        is = ap (λ (q : Equipped D d). q.beside.history) whole;
        file = file;
        same = same;
        bytes = bytes;
        opens = subst (λ (q : D). OpensKept d bytes start q file (Ok history)) (sym (ap (λ (q : Equipped D d). q.disk) whole)) opens;
      }

  is_beside : (gives : Gives D) (path : List ℕ) (x : D) → ((o : OpenedOutput D) → gives.Outputs path o → o.output ≡ x) → (named : Option (List ℕ)) → named ≡ Some path → (start : Supplied D) (old new : Openings D) (it : Equipped D d)
      → Equips d gives named start old new (Ok it) → IsBeside start.disk it x
  is_beside gives path x files None is start old new it equips = let no : ◌≡◌ {A = Option (List ℕ)} None (Some path) = is in absurd (cc)
  is_beside gives path x files (Some other) is start old new it (inl lacks) = let no = lacks.is in absurd (cc)
  is_beside gives path x files (Some other) is start old new it (inr opens) =
      let same : other ≡ path = cc in
      by_made start.disk opens.equips.disk opens.output.output x opens.output.length start.intake it _ new (files opens.output (subst (λ (q : List ℕ). gives.Outputs q opens.output) same opens.is_opened)) opens.equips.made opens.equips.opens opens.equips.ends

  -- an input has no say in it
  way_history : (way : Way d) (intake : Option (Intake D)) (input : Option D) → (with_intake d way intake input).history ≡ way.history
  way_history way None input = refl
  way_history way (Some it) None = refl
  way_history way (Some it) (Some end) = refl

  way_kept : (way : Way d) (intake : Option (Intake D)) (input : Option D) → (with_intake d way intake input).kept ≡ way.kept
  way_kept way None input = refl
  way_kept way (Some it) None = refl
  way_kept way (Some it) (Some end) = refl

  -- a drive kept it
  module _ {O : Type 0} {o : Ghosts O} {options : Options} {IsRead : Type 0} {file : Option (List ℕ)} {x y : Stage d o} (steps : GoesBySteps options IsRead file x y) (told : Result (Option ScheduleEnd) KeepingFault) where
    is_kept : (history : Option Kept) (it : Kept) → history ≡ Some it → (kept : Option D) (gets : GetsHistory steps history kept told)
        → (h : WithHistory steps history told) × (with_history steps history kept told gets ≡ Some h) × (kept ≡ Some h.end) × (it ≡ h.it)
    is_kept None it is kept gets = let no : ◌≡◌ {A = Option Kept} None (Some it) = is in absurd (cc)
    is_kept (Some other) it is None gets = absurd gets
    is_kept (Some other) it is (Some end) gets = (record { it = other; is = refl; end = end; keeps = gets }, refl, refl, cc)

-- and gave it back
given_back : {D : Type 0} (asked : Openings D) (history input : Option D) (end left : D) (more : List D) → history ≡ Some end → (with_closed_input (with_closed_history asked history) input).closed_history ≡ left ∷ more → end ≡ left
given_back asked None input end left more is closed = let no : ◌≡◌ {A = Option _} None (Some end) = is in absurd (cc)
given_back asked (Some other) None end left more is closed = cc
given_back asked (Some other) (Some input) end left more is closed = cc

-- ONE RUN

module _ {S D W : Type 0} {d : Ghosts D} (reach : S → Reach d W) (words : List (List ℕ)) (path : List ℕ) (asked : AsksHistory words path) (sound : (disk : D) → IsSound d disk) where
  abbrev j : Driving
  j = asked.driving

  abbrev paths : Paths
  paths = record { disk = j.disk; output = asked.output; input = j.input }

  module _ (x end : Three D D D) (ran : RanBeside reach words path x end) where
    abbrev it : Reach d W
    it = reach ran.sources

    came_here : (came : Came d it.others j asked.output) × (of_words it words j asked.output asked.asks asked.to ran.old ran.new ran.said ran.status ran.runs ≡ Some came)
        × Facts (means_in it ran.old ran.new j) j asked.output ran.new.openings came
    came_here = came_by_words it words j asked.output asked.asks asked.to ran.old ran.new ran.said ran.status ran.done ran.named ran.runs

    abbrev came : Came d it.others j asked.output
    came = came_here.0

    abbrev at_end : Stage d d
    at_end = stage d came.run.drives.left came.run.drives.taken came.run.after came.run.end

    -- a stop comes behind its last step
    abbrev run : Run reach paths
    run = record {
      words = words;
      driving = j;
      asks = asked.asks;
      onto = record { disk = refl; output = asked.to; input = refl };
      sources = ran.sources;
      old = ran.old;
      new = ran.new;
      said = ran.said;
      status = ran.status;
      runs = ran.runs;
      disk = x.disk;
      output = x.output;
      stopped = Some at_end;
    }

    abbrev beside : RunBeside reach paths path
    beside = record { run = run; keeps = inr asked.keeps; file = x.file }

    abbrev drive : Drove d it.others j asked.output
    drive = record { came = came; at = at_end }

    drove_there : drive_in run ≡ Some drive
    drove_there = ap (λ o. drove o run.stopped) came_here.1

    -- what it left of disk and output
    its_disk : came.run.after.disk ≡ end.disk
    its_disk =
        let f = came_here.2 in
        let both = sym (ap (λ (o : Openings D). o.closed) f.closes) ∙ ran.closed.1 in
        cc

    its_output : came.run.end ≡ end.output
    its_output =
        let f = came_here.2 in
        let r = came.run in
        let asked_for = with_closed_output f.asked r.end in
        let both = sym (ap (λ (o : Openings D). o.closed_output) f.closes ∙ (closed_before (with_closed_history asked_for r.left.history) r.left.input ∙ history_before asked_for r.left.history)) ∙ ran.closed_output.1 in
        cc

    -- its history
    opened_for : IsBeside d came.noted (record { disk = came.run.start; beside = came.run.beside }) x.file
    opened_for = is_beside d it.others path x.file ran.gives.files j.history asked.keeps (record { disk = came.noted; intake = came.intake }) came.asked came.joined (record { disk = came.run.start; beside = came.run.beside }) came.equips

    kept_by : (h : History came.run) × (history_of came.run ≡ Some h) × ((way_of_run came.run).kept ≡ Some h.end) × (opened_for.history ≡ h.it)
    kept_by =
        let r = came.run in
        is_kept d r.drives.by_steps r.drives.told (way_of_run r).history opened_for.history
        (way_history d (unfed r.options r.beside.history r.left.history) r.beside.intake r.left.input ∙ opened_for.is)
        (way_of_run r).kept r.drives.gets

    -- and what it left of that
    its_file : kept_by.0.end ≡ end.file
    its_file =
        let f = came_here.2 in
        let r = came.run in
        let left : r.left.history ≡ Some kept_by.0.end = sym (way_kept d (unfed r.options r.beside.history r.left.history) r.beside.intake r.left.input) ∙ kept_by.2 in
        given_back (with_closed_output f.asked r.end) r.left.history r.left.input kept_by.0.end end.file ran.closed_history.0 left
        (sym (ap (λ (o : Openings D). o.closed_history) f.closes) ∙ ran.closed_history.1)

    driven : IsDriven x drive
    driven =
        let r = came.run in
        record {
          readied = record {
            found = found_there (means_in it ran.old ran.new j) j x.disk (ran.gives.disks j.disk) (ran.gives.fills j.disk _) came.found asked.without_image came_here.2.finds;
            longer = λ looked more. absurd (not_longer d it.others j.input asked.without_input j.input_from came.looked came.before came.asked (record { disk = came.supplied; intake = came.intake }) came.supplies looked more);
            inside = (sound came.noted).inside;
          };
          found_output = came.onto ∙ ran.gives.outputs asked.output came.output asked.other came.is_opened;
          found_file = opened_there d it.others path x.file ran.gives.files j.history asked.keeps _ came.asked came.joined _ came.equips;
          disk_honest = (sound r.after.disk).honest;
          output_honest = (sound r.end).honest;
          input_honest = was_read d (λ disk. (sound disk).honest) r.options r.beside.history r.left.history r.beside.intake r.left.input;
          file_honest = all_some (λ (h : History r). d.is_honest h.end) (λ h. (sound h.end).honest) (history_of r);
        }

    kept : IsKeptBeside beside
    kept = record {
      output = sound x.output;
      file = sound x.file;
      kept = subst (λ o. IsKeptBy (opening_in beside) o (found_by beside)) (sym drove_there) driven;
    }

    abbrev came_to_keep : DroveKeeping beside end.file
    came_to_keep = record { drove = drive; is = drove_there; history = kept_by.0; keeps = kept_by.1; leaves = its_file }

    module _ (counts : CountsNow d) (reads : Reads d) where
      left_driving : (next : Three D D D) → IsLeftSince d end.disk end.disk next.disk → IsLeftSince d end.output end.output next.output → IsLeftSince d end.file end.file next.file → LeavesDriving drive (Some kept_by.0) x.file next
      left_driving next disk output file =
          let r = came.run in
          let h = kept_by.0 in
          let goes = h.keeps.goes in
          stop_behind (way_of_run r).options (stages_of r h) (first_of r h) (last_of r h) next
          (advances_by (way_of_run r).options r.drives.told goes.stages (first_of r h) goes.last (last_of r h) goes.goes goes.ends)
          (subst (λ (q : D). IsLeftSince d q q next.disk) (sym its_disk) disk)
          (subst (λ (q : D). IsLeftSince d q q next.output) (sym its_output) output)
          (subst (λ (q : D). IsLeftSince d q q next.file) (sym its_file) file)

      leaves : (next : Three D D D) → IsLeftSince d end.disk end.disk next.disk → IsLeftSince d end.output end.output next.output → IsLeftSince d end.file end.file next.file → LeavesBeside beside next
      leaves next disk output file =
          subst (λ o. LeavesBy (opening_in beside) o (found_by beside) next) (sym drove_there)
          (subst (λ h. LeavesDriving drive h x.file next) (sym kept_by.1) (left_driving next disk output file))

    -- THE LAW OF SUCH A RUN

    module _ (counts : CountsNow d) (reads : Reads d) (before : LeaveItLonger d) (on : RunsStandBeside d d d) where
      as_it_is : (old new : D) → d.moment old ≤ d.moment new → IsLeftSince d old new new
      as_it_is old new later = record { images = λ image may. counts new (d.moment old) image (sound new).honest later may; inside = (sound new).inside }

      itself : (disk other : D) → other ≡ disk → IsLeftSince d disk disk other
      itself disk other same = subst (λ (q : D). IsLeftSince d disk disk q) (sym same) (as_it_is disk disk (omega arith))

      -- the disk was made ready for it
      longer : IsLengthened d x.disk came.noted
      longer =
          let read = before.reading came.found came.looked came.looked false came.sized (sound came.looked).honest (as_it_is came.found came.looked (came.sized.any_moment (sound came.looked).honest).later) in
          let noted = before.noting (asked_schedule j) came.supplied came.noted came.noted (Ok tt) came.notes (sound came.noted).honest (as_it_is came.supplied came.noted (came.notes.any_moment (sound came.noted).honest).later) in
          let same = comes_as_it_is d it.others j.input asked.without_input j.input_from came.looked came.before came.asked (record { disk = came.supplied; intake = came.intake }) came.supplies in
          subst (λ (q : D). IsLengthened d q came.noted) driven.readied.found (before.through came.found came.looked came.noted read (subst (λ (q : D). IsLengthened d q came.noted) same noted))

      abbrev readied : Three D D D
      readied = three came.noted came.run.output opened_for.file

      readying : IsReadyingRun d d d x readied
      readying = record {
        disk = longer;
        output_honest = (sound x.output).honest;
        output = itself x.output came.run.output driven.found_output;
        file_honest = (sound x.file).honest;
        file = itself x.file opened_for.file opened_for.same;
      }

      -- and stands as before
      stands : (h : Past) → StandBeside d d d h x → (now : Past) × StandBeside d d d now readied
      stands h stand = let all = on h x (readied ∷ []) stand (inl readying, tt) in (all.0, all.2)

      module _ (keep : RunsKeepHistories d d) (acknowledge : RunsKeepTheAcknowledged d d) where
        keeps : (h : Past) → StandBeside d d d h x → (next : Three D D D) → IsLeftSince d end.disk end.disk next.disk → IsLeftSince d end.output end.output next.output → IsLeftSince d end.file end.file next.file → KeepsWitness came.run kept_by.0
        keeps h stand next disk output file =
            let r = came.run in
            let there = stands h stand in
            let opens = subst (λ (q : KeptHistory D d). OpensKept d opened_for.bytes came.noted r.start opened_for.file (Ok q)) kept_by.3 opened_for.opens in
            let stop = left_driving counts reads next disk output file in
            record {
              before = there.0;
              noted = came.noted;
              file = opened_for.file;
              bytes = opened_for.bytes;
              opens = opens;
              recovered = came.recovered;
              disk = sound r.after.disk;
              output = sound r.end;
              end = sound kept_by.0.end;
              read = driven.input_honest;
              holds = came_here.2.holds;
              stand = there.1;
              at = at_end;
              left = next;
              stop = stop;
              keep = keep r kept_by.0 came.noted opened_for.file opened_for.bytes opens came.recovered (sound r.after.disk).honest (sound r.end).honest (sound kept_by.0.end).honest driven.input_honest at_end next stop;
              acknowledged = acknowledge there.0 r kept_by.0 came.noted opened_for.file opened_for.bytes opens came.recovered (sound r.after.disk) (sound r.end) (sound kept_by.0.end) driven.input_honest came_here.2.holds there.1;
            }

-- BOTH

pub two_commands : {S D W : Type 0} {d : Ghosts D} (reach : S → Reach d W) → CountsNow d → Reads d → RunsStandOn reach → LeaveItLonger d → RunsStandBeside d d d → RunsKeepHistories d d → RunsKeepTheAcknowledged d d → (p : Program) (count : ℕ) → RanTwice reach p count → CommandsWitness reach count
two_commands {D = D} {d = d} reach counts reads law before stand_on keep acknowledge p count t =
    let first = beside reach t.words t.path t.asked t.sound t.x t.end t.one in
    let second = beside reach t.words t.path t.asked t.sound t.next t.whole t.other in
    let on : GoOnBeside p first (second ∷ []) t.last = record {
      formatted = λ image may. subst (λ (l : List ℕ). RecoversToStart p l) (sym (only_image d t.x.disk image t.settled may)) t.formatted;
      durable = t.durable;
      none = λ image had may has. t.none had (subst (λ (l : List ℕ). HasHistory l had) (only_image d t.x.file image t.kept may) has);
      kept = (
        kept reach t.words t.path t.asked t.sound t.x t.end t.one,
        (kept reach t.words t.path t.asked t.sound t.next t.whole t.other, tt),
      );
      follow = (
        leaves reach t.words t.path t.asked t.sound t.x t.end t.one counts reads t.next (again d counts reads t.end.disk t.next.disk t.again.disk) (again d counts reads t.end.output t.next.output t.again.output) (again d counts reads t.end.file t.next.file t.again.file),
        leaves reach t.words t.path t.asked t.sound t.next t.whole t.other counts reads t.last (again d counts reads t.whole.disk t.last.disk t.behind.disk) (again d counts reads t.whole.output t.last.output t.behind.output) (again d counts reads t.whole.file t.last.file t.behind.file),
      );
    } in
    let stand = law (paths reach t.words t.path t.asked t.sound) t.path p first (second ∷ []) t.last on in
    record {
      paths = paths reach t.words t.path t.asked t.sound;
      path = t.path;
      program = p;
      first = first;
      second = second;
      last = t.last;
      on = on;
      stand = stand;
      left = t.end.file;
      whole = t.whole.file;
      one = came_to_keep reach t.words t.path t.asked t.sound t.x t.end t.one;
      other = came_to_keep reach t.words t.path t.asked t.sound t.next t.whole t.other;
      keeps = keeps reach t.words t.path t.asked t.sound t.next t.whole t.other counts reads before stand_on keep acknowledge stand.0 stand.2 t.last
          (again d counts reads t.whole.disk t.last.disk t.behind.disk) (again d counts reads t.whole.output t.last.output t.behind.output) (again d counts reads t.whole.file t.last.file t.behind.file);
      has = t.has;
    }
