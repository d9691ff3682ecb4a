-- Two runs by their words, the second on what a stop behind the first left.
use Rattle.std.proofs.Common.{◌≡◌, inl, inr, ℕ, ◌≤◌, List, ◌∷◌, length, Option, Some, None, Result, Ok, Err, refl, sym, ◌∙◌, ap, subst, arith}
use Rattle.std.specs.Prelude.{IfSome, is_some}
use Rattle.ckrt_disk.specs.Disk.{IsImage}
use Rattle.ckrt_disk.specs.declared.disk.Disk.{Ghosts}
use Rattle.ckrt_drive.specs.Stages.{stage}
use Rattle.ckrt_drive.specs.declared.options.Options.{Options}
use Rattle.ckrt_history.specs.declared.kept.KeptHistory.{KeptHistory}
use Rattle.ckrt_cli_disk.specs.Driving.{Means, unfed, with_intake}
use Rattle.ckrt_cli_disk.specs.Feeding.{EndsWithRoom, Supplies, SuppliesOpened, SuppliesRoomy, SuppliesTaken}
use Rattle.ckrt_cli_disk.specs.Missing.{MakesMissing}
use Rattle.ckrt_cli_disk.specs.Programs.{Compares}
use Rattle.ckrt_cli_disk.specs.declared.feeding.Intake.{Intake}
use Rattle.ckrt_cli_disk.specs.declared.feeding.Supplied.{Supplied}
use Rattle.ckrt_cli_disk.specs.declared.feeding.Unready.{Unready}
use Rattle.ckrt_cli_reports.specs.Ranges.{config_for}
use Rattle.ckrt_cli_reports.specs.declared.fault.JobFault.{JobFault}
use Rattle.ckrt_cli.specs.Performing.{Reach, means_in}
use Rattle.ckrt_schedule.specs.declared.schedule.Schedule.{Schedule}
use Rattle.ckrt_cli_files.specs.Openings.{Openings, opened, with_disk, with_closed_history, with_closed_input, with_closed_output, with_input}
use Rattle.ckrt_cli_files.specs.Sources.{Gives}
use Rattle.ckrt_stored.specs.Programs.{Program, RecoversToStart}
use Rattle.ckrt_stored.specs.declared.fault.RecoverFault.{RecoverFault}
use Rattle.ckrt_cli_words.specs.Jobs.{Driving}
use Rattle.ckrt_drive.specs.Together.{IsLeftSince}
use Rattle.ckrt_cli.specs.Coming.{Came}
use Rattle.ckrt_cli.specs.Commands.{Leaves, Paths, Run, drive_in, of_words}
use Rattle.ckrt_cli.proofs.JoinedLemmas.{joins}
use Rattle.ckrt_cli.specs.Promise.{Common, Drove, IsKept, as_drive, drove}
use Rattle.ckrt_witness.specs.Runs.{AsksDrive, CameToDrive, Ran, RanTwice, RunsWitness}
use Rattle.ckrt_witness.proofs.CameLemmas.{Facts, Finds, came_by_words}
use Rattle.ckrt_witness.proofs.WitnessLemmas.{again, only_image, stop_at_end}

pub no_more : {D : Type 0} (x : D) (xs ys : List D) → ys ≡ xs → ys ≡ x ∷ xs → ⊥
no_more x xs ys same more = omega (arith, ap length (sym same ∙ more))

pub closed_before : {D : Type 0} (o : Openings D) (input : Option D) → (with_closed_input o input).closed_output ≡ o.closed_output
closed_before o None = refl
closed_before o (Some input) = refl

pub history_before : {D : Type 0} (o : Openings D) (history : Option D) → (with_closed_history o history).closed_output ≡ o.closed_output
history_before o None = refl
history_before o (Some history) = refl

-- ITS INPUT

module _ {D : Type 0} (d : Ghosts D) (gives : Gives D) (name : List ℕ) (none : (x : D) (size : ℕ) (y : D) → gives.Longer x size y → ⊥) where
  -- what was supplied has the input of this path, and nothing was made longer for it
  record HasInput (s : Supplied D) (before asked : Openings D) : Type 0 where
    pub intake : Intake D
    pub is : s.intake ≡ Some intake
    pub given : gives.Inputs name intake.file
    pub short : (looked : D) → asked.lengthened ≡ looked ∷ before.lengthened → ⊥

  no_longer : (before asked : Openings D) (room : D) (made : Result D (Unready D)) (disk : D) → made ≡ Ok disk → (size : Result ℕ RecoverFault) → EndsWithRoom d gives.Longer room before asked made size → asked ≡ before
  no_longer before asked room made disk well (Err fault) ends = let no = sym ends.0 ∙ well in absurd (cc)
  no_longer before asked room made disk well (Ok size) (inl has) = has.unasked
  no_longer before asked room made disk well (Ok size) (inr (inl gets)) = absurd (none room size gets.longer gets.is_longer)
  no_longer before asked room made disk well (Ok size) (inr (inr lacks)) = let no = sym lacks.is ∙ well in absurd (cc)

  by_roomy : (s : Supplied D) (it : Intake D) (given : gives.Inputs name it.file) (start : D) (before between asked : Openings D) (made : Result D (Unready D)) → SuppliesRoomy it between asked (Ok s) made
      → (size : Result ℕ RecoverFault) (room : D) → EndsWithRoom d gives.Longer room before between made size → HasInput s before asked
  by_roomy s it given start before between asked (Err unready) ends size room made = let no : ◌≡◌ {A = Result (Supplied D) JobFault} (Ok s) (Err unready.fault) = ends.0 in absurd (cc)
  by_roomy s it given start before between asked (Ok disk) ends size room made =
      let found : ◌≡◌ {A = Result (Supplied D) JobFault} (Ok s) (Ok (record { disk = disk; intake = Some it })) = ends.0 in
      let whole : s ≡ record { disk = disk; intake = Some it } = cc in
      let same : asked ≡ before = ends.1 ∙ no_longer before between room (Ok disk) disk refl size made in
      record {
        intake = it;
        is = ap (λ (q : Supplied D). q.intake) whole;
        given = given;
        short = λ looked more. no_more looked before.lengthened asked.lengthened (ap (λ (q : Openings D). q.lengthened) same) more;
      }

  by_opened : (s : Supplied D) (it : Intake D) (given : gives.Inputs name it.file) (disk : D) (before asked : Openings D) → SuppliesOpened d gives.Longer disk it before asked (Ok s) → HasInput s before asked
  by_opened s it given disk before asked (inl refuses) = let no = refuses.is in absurd (cc)
  by_opened s it given disk before asked (inr takes) = by_roomy s it given disk before takes.asked asked takes.made takes.ends takes.room.size takes.room.disk takes.room.ends

  by_taken : (s : Supplied D) (disk : D) (before asked : Openings D) (taken : Result ℕ JobFault) → SuppliesTaken d gives name disk before asked (Ok s) taken → HasInput s before asked
  by_taken s disk before asked (Err fault) ends = let no : ◌≡◌ {A = Result (Supplied D) JobFault} (Ok s) (Err fault) = ends.0 in absurd (cc)
  by_taken s disk before asked (Ok n) (inl lacks) = let no = lacks.is in absurd (cc)
  by_taken s disk before asked (Ok n) (inr opens) =
      let r = by_opened s (record { file = opens.input; taken = n }) opens.is_opened disk (with_input before (opened name)) asked opens.ends in
      record { intake = r.intake; is = r.is; given = r.given; short = r.short }

  has_input : (s : Supplied D) (input : Option (List ℕ)) → input ≡ Some name → (from : Option ℕ) (looked : D) (before asked : Openings D) → Supplies d gives input from looked before asked (Ok s) → HasInput s before asked
  has_input s None other from looked before asked supplies = absurd (cc)
  has_input s (Some path) is from looked before asked supplies =
      let same : path ≡ name = cc in
      let there = subst (λ p. Supplies d gives (Some p) from looked before asked (Ok s)) same supplies in
      by_taken s there.disk before asked there.taken there.ends

-- how it was read
pub was_read : {D : Type 0} (d : Ghosts D) (honest : (x : D) → d.is_honest x) (options : Options) (history : Option (KeptHistory D d)) (kept : Option D) (intake : Option (Intake D)) (input : Option D) → (with_intake d (unfed options history kept) intake input).IsRead
was_read d honest options history kept None input = tt
was_read d honest options history kept (Some it) None = tt
was_read d honest options history kept (Some it) (Some end) = honest end

its_file : {D : Type 0} (d : Ghosts D) (options : Options) (history : Option (KeptHistory D d)) (kept : Option D) (it : Intake D) (intake : Option (Intake D)) (input : Option D) → intake ≡ Some it → is_some input ≡ is_some intake
    → (with_intake d (unfed options history kept) intake input).file ≡ Some (d.content it.file)
its_file {D = D} d options history kept it None input is same_kind = absurd (cc)
its_file {D = D} d options history kept it (Some other) None is same_kind = absurd (cc)
its_file {D = D} d options history kept it (Some other) (Some end) is same_kind = let same : other ≡ it = cc in ap (λ (q : Intake D). Some (d.content q.file)) same

-- ITS DISK

module _ {D W : Type 0} {d : Ghosts D} (means : Means d W) (j : Driving) (start : D) (opens : (x : D) → means.Opens x → x ≡ start) (fills : (x : D) → means.Fills x → ⊥) where
  not_made : (x : D) (from : List ℕ) (old asked : Openings D) → MakesMissing d (config_for j.sizes) (means.images from) means.Fills from j.disk old asked (Ok x) → x ≡ start
  not_made x from old asked (inl sizes) = let no = sizes.1 in absurd (cc)
  not_made x from old asked (inr (inl image)) = let no = image.is in absurd (cc)
  not_made x from old asked (inr (inr (inl making))) = let no = making.lacks.is in absurd (cc)
  not_made x from old asked (inr (inr (inr it))) = absurd (fills it.start it.is_opened)

  pub found_there : (x : D) → j.image ≡ None → Finds means j x → x ≡ start
  found_there x none (old, asked, inl there) =
      let compared = subst (λ (image : Option (List ℕ)). Compares d means.images image there.start (with_disk old (opened j.disk)) asked (Ok x)) none there.compares in
      let is : ◌≡◌ {A = Result D JobFault} (Ok x) (Ok there.start) = compared.0 in
      let same : x ≡ there.start = cc in
      same ∙ opens there.start there.is_opened
  found_there x none (old, asked, inr (inl lacks)) = let no = lacks.is in absurd (cc)
  found_there x none (old, asked, inr (inr makes)) = not_made x makes.from _ asked makes.makes

-- ONE RUN

module _ {S D W : Type 0} {d : Ghosts D} (reach : S → Reach d W) (words : List (List ℕ)) (asked : AsksDrive words) (file : List ℕ) (honest : (x : D) → d.is_honest x) where
  abbrev j : Driving
  j = asked.driving

  abbrev paths : Paths
  paths = record { disk = j.disk; output = asked.output; input = j.input }

  abbrev u : Schedule
  u = record { turn = j.turn; seed = j.seed }

  abbrev c : Common
  c = record { file = Some file; schedule = Some u }

  module _ (disk output end left : D) (ran : Ran reach words disk output file end left) where
    abbrev it : Reach d W
    it = reach ran.sources

    came_here : (came : Came d it.others j asked.output) × (of_words it words j asked.output asked.asks asked.to ran.old ran.new ran.said ran.status ran.runs ≡ Some came)
        × Facts (means_in it ran.old ran.new j) j asked.output ran.new.openings came
    came_here = came_by_words it words j asked.output asked.asks asked.to ran.old ran.new ran.said ran.status ran.done ran.named ran.runs

    -- a stop comes behind its last step
    abbrev run : Run reach paths
    run = record {
      words = words;
      driving = j;
      asks = asked.asks;
      onto = record { disk = refl; output = asked.to; input = refl };
      sources = ran.sources;
      old = ran.old;
      new = ran.new;
      said = ran.said;
      status = ran.status;
      runs = ran.runs;
      disk = disk;
      output = output;
      stopped = Some (stage d came_here.0.run.drives.left came_here.0.run.drives.taken came_here.0.run.after came_here.0.run.end);
    }

    abbrev x : Drove d it.others j asked.output
    x = record { came = came_here.0; at = stage d came_here.0.run.drives.left came_here.0.run.drives.taken came_here.0.run.after came_here.0.run.end }

    drove_there : drive_in run ≡ Some x
    drove_there = ap (λ o. drove o run.stopped) came_here.1

    its_disk : came_here.0.run.after.disk ≡ end
    its_disk =
        let f = came_here.2 in
        let both = sym (ap (λ (o : Openings D). o.closed) f.closes) ∙ ran.closed.1 in
        cc

    its_output : came_here.0.run.end ≡ left
    its_output =
        let f = came_here.2 in
        let r = came_here.0.run in
        let asked_for = with_closed_output f.asked r.end in
        let both = sym (ap (λ (o : Openings D). o.closed_output) f.closes ∙ (closed_before (with_closed_history asked_for r.left.history) r.left.input ∙ history_before asked_for r.left.history)) ∙ ran.closed_output.1 in
        cc

    keeps : IsKept c disk output x
    keeps =
        let f = came_here.2 in
        let r = came_here.0.run in
        let i = has_input d it.others asked.input ran.gives.longer (record { disk = came_here.0.supplied; intake = came_here.0.intake }) j.input asked.with_input j.input_from came_here.0.looked came_here.0.before came_here.0.asked came_here.0.supplies in
        let had = joins d it.others (record { disk = came_here.0.noted; intake = came_here.0.intake }) (record { disk = r.start; beside = r.beside }) j.history came_here.0.asked came_here.0.joined came_here.0.equips in
        record {
          found_disk = found_there (means_in it ran.old ran.new j) j disk (ran.gives.disks j.disk) (ran.gives.fills j.disk _) came_here.0.found asked.without_image f.finds;
          found_output = came_here.0.onto ∙ ran.gives.outputs asked.output came_here.0.output came_here.0.is_opened;
          disk_honest = honest r.after.disk;
          output_honest = honest r.end;
          input_honest = was_read d honest r.options r.beside.history r.left.history r.beside.intake r.left.input;
          same_input = its_file d r.options r.beside.history r.left.history i.intake r.beside.intake r.left.input (had.same_intake ∙ i.is) f.kept ∙ ap Some (ran.gives.inputs asked.input i.intake.file i.given);
          longer = λ looked more. absurd (i.short looked more);
        }

    kept : IfSome (drive_in run) (IsKept c disk output)
    kept = subst (λ o. IfSome o (IsKept c disk output)) (sym drove_there) keeps

    came : CameToDrive run left
    came = record { drove = x; is = drove_there; leaves = its_output }

    module _ (counts : (disk : D) (t : ℕ) (image : List ℕ) → d.is_honest disk → t ≤ d.moment disk → IsImage (d.content disk) (d.pending disk) image → d.left_since disk t image)
        (reads : (disk : D) → d.is_honest disk → IsImage (d.content disk) (d.pending disk) (d.content disk)) where
      follows : (next other : D) → IsLeftSince d end end next → IsLeftSince d left left other → Leaves run (drive_in run) next other
      follows next other disk_left output_left =
          let r = came_here.0.run in
          let v = as_drive x in
          subst (λ o. Leaves run o next other) (sym drove_there)
          (stop_at_end d d v.options v.stages v.first v.last next other r.drives.by_steps.goes
          (subst (λ (q : D). IsLeftSince d q q next) (sym its_disk) disk_left)
          (subst (λ (q : D). IsLeftSince d q q other) (sym its_output) output_left))

-- BOTH

pub two_runs : {S D W : Type 0} {d : Ghosts D} (reach : S → Reach d W)
    → (counts : (disk : D) (t : ℕ) (image : List ℕ) → d.is_honest disk → t ≤ d.moment disk → IsImage (d.content disk) (d.pending disk) image → d.left_since disk t image)
    → (reads : (disk : D) → d.is_honest disk → IsImage (d.content disk) (d.pending disk) (d.content disk))
    → (p : Program) (file : List ℕ) → RanTwice reach p file → RunsWitness reach file
two_runs {d = d} reach counts reads p file t = record {
  paths = paths reach t.words t.asked file t.honest;
  schedule = u reach t.words t.asked file t.honest;
  program = p;
  first = run reach t.words t.asked file t.honest t.start t.output t.end t.left t.one;
  second = run reach t.words t.asked file t.honest t.next t.opened t.finish t.whole t.other;
  on = record {
    begin = record {
      formatted = λ image may. subst (RecoversToStart p) (sym (only_image d t.start image t.settled may)) t.formatted;
      durable = t.durable;
    };
    kept = (
      record { kept = kept reach t.words t.asked file t.honest t.start t.output t.end t.left t.one; schedule = record { turn = refl; seed = refl } },
      (record { kept = kept reach t.words t.asked file t.honest t.next t.opened t.finish t.whole t.other; schedule = record { turn = refl; seed = refl } }, tt),
    );
    follow = (
      follows reach t.words t.asked file t.honest t.start t.output t.end t.left t.one counts reads t.next t.opened
          (again d counts reads t.end t.next t.disk_again) (again d counts reads t.left t.opened t.output_again),
      tt,
    );
  };
  left = t.left;
  whole = t.whole;
  one = came reach t.words t.asked file t.honest t.start t.output t.end t.left t.one;
  other = came reach t.words t.asked file t.honest t.next t.opened t.finish t.whole t.other;
  some_input = t.some_input;
  some_output = t.some_output;
}
