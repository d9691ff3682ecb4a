-- What one drive keeps, and what it leaves to the next run.
use Rattle.std.proofs.Common.{◌≡◌, ℕ, List, [], length, Option, Some, None, Result, Ok, refl, sym, ◌∙◌, ap, subst}
use Rattle.std.specs.Prelude.{IfSome}
use Rattle.ckrt_disk.specs.Disk.{IsImage}
use Rattle.ckrt_disk.specs.declared.disk.Disk.{Ghosts}
use Rattle.ckrt_events.specs.declared.event.Event.{Event}
use Rattle.ckrt_drive.specs.Output.{HoldsOutput}
use Rattle.ckrt_drive.specs.Plan.{schedule_of}
use Rattle.ckrt_drive.specs.declared.options.Options.{Options}
use Rattle.ckrt_schedule.specs.Next.{AreGiven}
use Rattle.ckrt_drive.specs.Offset.{offset_from}
use Rattle.ckrt_schedule.specs.declared.schedule.Schedule.{Schedule}
use Rattle.ckrt_stored.specs.Programs.{output_after, start_of}
use Rattle.ckrt_cli_words.specs.Jobs.{Driving}
use Rattle.ckrt_history.specs.declared.kept.KeptHistory.{KeptHistory}
use Rattle.ckrt_cli_disk.specs.Driving.{Way, unfed, with_intake}
use Rattle.ckrt_cli_disk.specs.Feeding.{Supplies, SuppliesFrom}
use Rattle.ckrt_cli_disk.specs.declared.feeding.Intake.{Intake}
use Rattle.ckrt_cli_disk.specs.declared.feeding.Supplied.{Supplied}
use Rattle.ckrt_cli_reports.specs.declared.fault.JobFault.{JobFault}
use Rattle.ckrt_cli_files.specs.Sources.{Gives}
use Rattle.ckrt_drive.specs.ByPlan.{IsByPlan, IsByPlanFrom, IsUnbroken, course}
use Rattle.ckrt_drive.specs.Drives.{HasEnded, IsTold, IsToldByRecord, Keeps, OneDrive, StopLeaves, course_of, past_behind}
use Rattle.ckrt_drive.specs.Giving.{GiveFile}
use Rattle.ckrt_drive.specs.Lengthening.{IsLengthened}
use Rattle.ckrt_cli.specs.Runs.{IsRun, TellsIfLonger, way_of_run}
use Rattle.ckrt_drive.specs.Together.{Past, StandsFed}
use Rattle.ckrt_drive.proofs.ByPlanLemmas.{end_unbroken, list_by_plan}
use Rattle.ckrt_drive.proofs.DriveLemmas.{disk_honest, drive_keeps}
use Rattle.ckrt_drive.proofs.TakenLemmas.{drive_given, gives, is_told}
use Rattle.ckrt_drive.proofs.LengtheningLemmas.{AreReadied, tells_longer, zeros_only}
use Rattle.ckrt_cli.proofs.DriveRunLemmas.{is_run, told_by_record}
use Rattle.ckrt_cli.proofs.JoinedLemmas.{Joins, honest_before, joins}
use Rattle.ckrt_cli.specs.Promise.{Common, Drove, HasSchedule, Holds, IsAsBefore, IsKept, as_drive}
use Rattle.ckrt_cli.proofs.LongLemmas.{long_as_all}
use Rattle.ckrt_cli.proofs.SupplyLemmas.{Reaches, Stands, by_input, by_joined, by_notes, by_reads, stands_on}

-- WHAT IT WAS TOLD

unfed_told : {D : Type 0} (d : Ghosts D) (options : Options) (history : Option (KeptHistory D d)) (kept : Option D) (start : D) (intake : Option (Intake D)) (input : Option D) → intake ≡ None
    → IfSome (with_intake d (unfed options history kept) intake input).file (λ bytes. (said : Option ℕ) × (offset_from said (d.content start) ≡ Ok (Some (with_intake d (unfed options history kept) intake input).taken)))
unfed_told {D = D} d options history kept start intake input none =
    subst (λ (i : Option (Intake D)). IfSome (with_intake d (unfed options history kept) i input).file (λ bytes. (said : Option ℕ) × (offset_from said (d.content start) ≡ Ok (Some (with_intake d (unfed options history kept) i input).taken)))) (sym none) tt

-- HOW IT WENT

way_options : {D : Type 0} (d : Ghosts D) (way : Way d) (intake : Option (Intake D)) (input : Option D) → (with_intake d way intake input).options ≡ way.options
way_options d way None input = refl
way_options d way (Some it) None = refl
way_options d way (Some it) (Some end) = refl

same_schedule : (o : Options) (u : Schedule) → o.turn ≡ u.turn → o.seed ≡ u.seed → schedule_of o ≡ u
same_schedule o u turn seed = ap (λ n. record { turn = n; seed = o.seed }) turn ∙ ap (λ s. record { turn = u.turn; seed = s }) seed

-- what a list of runs keeps from one to the next
pub record Before {D : Type 0} (d : Ghosts D) (c : Common) (h : Past) (disk output : D) : Type 0 where
  pub stands : Stands d h c.file output disk
  pub given : IfSome c.file (λ bytes. AreGiven h.accepted bytes (start_of h.program))
  pub by_plan : IfSome c.schedule (λ u. IsByPlan (course u c.file) h.program h.accepted)

-- where a run had no drive
pub left_alone : {D : Type 0} (d : Ghosts D) (c : Common) (h : Past) (disk output left other : D) → Before d c h disk output → IsLengthened d disk left → IsAsBefore d output other → Before d c h left other
left_alone d c h disk output left other before longer same =
    let s = stands_on d h c.file output disk left longer.images before.stands in
    record {
      stands = record {
        together = record {
          images = λ image may.
              let t = s.together.images image may in
              record { all = t.all; begins = t.begins; within = t.within; to = t.to; recovers = t.recovers; reached = t.reached; has = λ o might. t.has o (same.images o might); spares = λ o might. t.spares o (same.images o might) };
          inside = same.inside;
        };
        fed = s.fed;
      };
      given = before.given;
      by_plan = before.by_plan;
    }

module _ {D : Type 0} (d : Ghosts D) (law : (disk : D) (image : List ℕ) → d.is_honest disk → d.left_since disk (d.moment disk) image → IsImage (d.content disk) (d.pending disk) image)
    (reads : (disk : D) → d.is_honest disk → IsImage (d.content disk) (d.pending disk) (d.content disk)) where
  module _ {sources : Gives D} {j : Driving} {path : List ℕ} (c : Common) (h : Past) (disk output : D) (x : Drove d sources j path) (before : Before d c h disk output) (kept : IsKept c disk output x) (scheduled : IfSome c.schedule (λ u. HasSchedule u j)) where
    abbrev v : OneDrive d d
    v = as_drive x

    ready : d.is_honest x.came.run.before.disk
    ready = disk_honest d d v.options v.stages v.first v.last x.came.run.drives.by_steps.goes kept.disk_honest

    fine : d.is_honest x.came.run.start
    fine = x.came.recovered.disk.same.honest ready

    found : Stands d h c.file x.came.run.output x.came.found
    found = subst (λ o. Stands d h c.file o x.came.found) (sym kept.found_output) (subst (Stands d h c.file output) (sym kept.found_disk) before.stands)

    -- its history was given what it lacked of the disk
    had : Joins d sources (record { disk = x.came.noted; intake = x.came.intake }) (record { disk = x.came.run.start; beside = x.came.run.beside })
    had = joins d sources (record { disk = x.came.noted; intake = x.came.intake }) (record { disk = x.came.run.start; beside = x.came.run.beside }) j.history x.came.asked x.came.joined x.came.equips

    fine_noted : d.is_honest x.came.noted
    fine_noted = honest_before d x.came.noted x.came.run.start had.joined fine

    -- the disk as it is supplied, and the one that was made longer for it
    fine_supplied : d.is_honest x.came.supplied
    fine_supplied = x.came.notes.within.same.honest fine_noted

    abbrev there : D → Type 0
    there = Stands d h c.file x.came.run.output

    goes_on : (a b : D) → AreReadied d a b → there a → there b
    goes_on = stands_on d h c.file x.came.run.output

    reaches : Reaches d there goes_on x.came.before x.came.asked x.came.supplied
    reaches = by_input d there goes_on sources (record { disk = x.came.supplied; intake = x.came.intake }) j.input j.input_from x.came.looked x.came.before x.came.asked x.came.supplies kept.longer fine_supplied
        (λ whole. by_reads d there goes_on x.came.found x.came.looked _ x.came.sized whole found)

    -- and as it is recovered, with its schedule
    stands_there : Stands d h c.file x.came.run.output x.came.run.start
    stands_there = by_joined d there goes_on x.came.noted x.came.run.start had.joined fine
        (by_notes d there goes_on _ x.came.supplied x.came.noted x.came.notes fine_noted reaches.holds)

    -- so it tells as before where it was made longer, with an input
    tells : (bytes : List ℕ) → c.file ≡ Some bytes → TellsIfLonger d x.came.before x.came.asked x.came.supplied
    tells bytes some looked more =
        let zeros = kept.longer looked more in
        record {
          honest = λ _. zeros.honest;
          told = λ said. tells_longer d reads h bytes looked x.came.supplied zeros.honest (subst (λ f. StandsFed d f h looked) some (reaches.longer looked more).fed) (zeros_only (d.content looked) (d.content x.came.supplied) zeros.reads) said;
        }

    told_by : (input : Option (List ℕ)) → Supplies d sources input j.input_from x.came.looked x.came.before x.came.asked (Ok (record { disk = x.came.supplied; intake = x.came.intake })) → (f : Option (List ℕ)) → c.file ≡ f → IsToldByRecord v
    told_by None supplies f some =
        let same : ◌≡◌ {A = Result (Supplied D) JobFault} (Ok (record { disk = x.came.supplied; intake = x.came.intake })) (Ok (record { disk = x.came.looked; intake = None })) = supplies.0 in
        let whole : ◌≡◌ {A = Supplied D} (record { disk = x.came.supplied; intake = x.came.intake }) (record { disk = x.came.looked; intake = None }) = cc in
        let r = x.came.run in
        unfed_told d r.options r.beside.history r.left.history r.start r.beside.intake r.left.input (had.same_intake ∙ ap (λ (q : Supplied D). q.intake) whole)
    told_by (Some name) supplies None none =
        subst (λ (f : Option (List ℕ)). IfSome f (λ bytes. (said : Option ℕ) × (offset_from said (d.content x.came.run.start) ≡ Ok (Some (way_of_run x.came.run).taken)))) (sym (kept.same_input ∙ none)) tt
    told_by (Some name) supplies (Some bytes) some =
        let given = subst (λ (i : Option (Intake D)). SuppliesFrom d sources name j.input_from x.came.looked x.came.before x.came.asked (Ok (record { disk = x.came.supplied; intake = i }))) (sym had.same_intake) supplies in
        told_by_record d sources j.input_from d x.came.run x.came.looked x.came.supplied x.came.noted name x.came.before x.came.asked _ (tells bytes some) given x.came.notes had.joined x.came.recovered kept.disk_honest x.at

    by_record : IsToldByRecord v
    by_record = told_by j.input x.came.supplies c.file refl

    run : IsRun x.came.run
    run = is_run d d x.came.run x.came.recovered kept.disk_honest kept.output_honest kept.input_honest

    keeps : Keeps h v
    keeps = drive_keeps d d h.program h.old law law h.acknowledged h.accepted v stands_there.together (run.is x.at)

    fed_there : StandsFed d v.file h v.start
    fed_there = subst (λ f. StandsFed d f h v.start) (sym kept.same_input) stands_there.fed

    told : IsTold v.file v.first.taken keeps.opened
    told = is_told h v keeps fed_there by_record

    -- THE INPUT

    given_after : (f : Option (List ℕ)) → c.file ≡ f → IfSome f (λ bytes. AreGiven h.accepted bytes (start_of h.program)) → IfSome f (λ bytes. AreGiven keeps.all bytes (start_of h.program))
    given_after None none given = tt
    given_after (Some bytes) some given = drive_given bytes h v keeps (kept.same_input ∙ some) told given

    gives_file : (f : Option (List ℕ)) → IfSome f (λ bytes. AreGiven keeps.all bytes (start_of h.program)) → IfSome f (GiveFile keeps.all)
    gives_file None given = tt
    gives_file (Some bytes) given = gives bytes keeps.all h.program given

    all_given : IfSome c.file (λ bytes. AreGiven keeps.all bytes (start_of h.program))
    all_given = given_after c.file refl before.given

    -- ONE LIST

    on_course : (u : Schedule) → HasSchedule u j → course_of v ≡ course u c.file
    on_course u has =
        let o = x.came.run.options in
        let same = way_options d (unfed o x.came.run.beside.history x.came.run.left.history) x.came.run.beside.intake x.came.run.left.input in
        let asked = same_schedule o u (x.came.asks.turn ∙ has.turn) (x.came.asks.seed ∙ has.seed) in
        ap (λ (q : Options). course (schedule_of q) v.file) same ∙ (ap (λ s. course s v.file) asked ∙ ap (course u) kept.same_input)

    planned : (s : Option Schedule) → IfSome s (λ u. HasSchedule u j) → IfSome s (λ u. IsByPlan (course u c.file) h.program h.accepted) → IfSome s (λ u. IsByPlan (course u c.file) h.program keeps.all)
    planned None has by_plan = tt
    planned (Some u) has by_plan = list_by_plan (course u c.file) [] h v keeps (h.acknowledged, refl) by_plan (on_course u has) told

    all_planned : IfSome c.schedule (λ u. IsByPlan (course u c.file) h.program keeps.all)
    all_planned = planned c.schedule scheduled before.by_plan

    ended : (s : Option Schedule) → IfSome s (λ u. HasSchedule u j) → IfSome s (λ u. IsByPlan (course u c.file) h.program keeps.all)
        → IfSome s (λ u. HasEnded v → (whole : List Event) → IsUnbroken (course u c.file) h.program [] whole → (keeps.all ≡ whole) × HoldsOutput d 0 (length (output_after h.program whole)) (output_after h.program whole) v.last.output)
    ended None has by_plan = tt
    ended (Some u) has by_plan = λ over whole unbroken.
        let same = sym (on_course u has) in
        end_unbroken [] whole h v keeps (subst (λ q. IsByPlanFrom q h.program [] keeps.all) same by_plan) told over (subst (λ q. IsUnbroken q h.program [] whole) same unbroken)

    -- ALL OF IT

    holds : Holds c h x
    holds = record {
      run = run;
      keeps = keeps;
      long = long_as_all h.program x.came.run kept.disk_honest keeps.opened keeps.all (x.came.recovered.represents ready h.program keeps.opened keeps.from keeps.recovers) keeps.represents x.came.output.length x.came.fit;
      gives_input = gives_file c.file all_given;
      by_plan = all_planned;
      unbroken = ended c.schedule scheduled all_planned;
    }

    -- and so it is of what the next one finds
    next : (left other : D) → StopLeaves v.stages v.first x.at left other → Before d c (past_behind v keeps) left other
    next left other stop = record {
      stands = record {
        together = keeps.any_moment x.at left other stop;
        fed = subst (λ f. StandsFed d f (past_behind v keeps) left) kept.same_input (keeps.fed fed_there told x.at left other stop);
      };
      given = all_given;
      by_plan = all_planned;
    }

    pub held : (k : Holds c h x) × ((left other : D) → StopLeaves v.stages v.first x.at left other → Before d c (past_behind v k.keeps) left other)
    unfolding holds
    held = (holds, λ left other stop. next left other stop)
