-- What holds of a disk before its drive: it was found, was read, and got room for its record, and its schedule was noted.
use Rattle.std.proofs.Common.{◌≡◌, inl, inr, ℕ, Bool, List, ◌∷◌, length, Option, Some, None, Result, Ok, Err, refl, sym, ◌∙◌, ap, subst, arith}
use Rattle.std.specs.Prelude.{slice_index}
use Rattle.ckrt_disk.specs.Frame.{IsOnlyRead, MayBeLeft}
use Rattle.ckrt_disk.specs.declared.disk.Disk.{Ghosts}
use Rattle.ckrt_stored.specs.declared.fault.RecoverFault.{RecoverFault}
use Rattle.ckrt_stored.specs.declared.schedule.ScheduleNote.{ScheduleNote}
use Rattle.ckrt_stored.proofs.ScheduleLemmas.{left_before}
use Rattle.ckrt_cli_disk.specs.Noting.{Notes}
use Rattle.ckrt_cli_disk.specs.Feeding.{EndsWithRoom, Supplies, SuppliesOpened, SuppliesRoomy, SuppliesTaken}
use Rattle.ckrt_cli_disk.specs.declared.feeding.Intake.{Intake}
use Rattle.ckrt_cli_disk.specs.declared.feeding.Supplied.{Supplied}
use Rattle.ckrt_cli_disk.specs.declared.feeding.Unready.{Unready}
use Rattle.ckrt_cli_reports.specs.declared.fault.JobFault.{JobFault}
use Rattle.ckrt_cli_reports.specs.declared.fault.JobFault.TheVariants as job
use Rattle.ckrt_cli_files.specs.Openings.{Openings}
use Rattle.ckrt_cli_files.specs.Sources.{Gives}
use Rattle.ckrt_drive.specs.Together.{Past, StandTogether, StandsFed}
use Rattle.ckrt_drive.proofs.LengtheningLemmas.{AreReadied, as_it_was, fed_stands_readied, noted_only, stands_readied}
use Rattle.ckrt_cli.specs.Promise.{HasZerosBehind}
use Rattle.ckrt_cli.specs.Runs.{IsJoined}

no_more : {D : Type 0} (x : D) (xs ys : List D) → ys ≡ xs → ys ≡ x ∷ xs → ⊥
no_more x xs ys same more = omega (arith, ap length (sym same ∙ more))

-- a disk stands with an output, and keeps what its events took
pub record Stands {D : Type 0} (d : Ghosts D) (h : Past) (file : Option (List ℕ)) (out disk : D) : Type 0 where
  pub together : StandTogether d d h disk out
  pub fed : StandsFed d file h disk

-- so does one that was made ready
pub stands_on : {D : Type 0} (d : Ghosts D) (h : Past) (file : Option (List ℕ)) (out a b : D) → AreReadied d a b → Stands d h file out a → Stands d h file out b
stands_on d h file out a b are stands = record { together = stands_readied d d h a b out are stands.together; fed = fed_stands_readied d d h file a b are stands.fed }

-- what holds of a disk and goes on where it is made ready
module _ {D : Type 0} (d : Ghosts D) (Holds : D → Type 0) (goes_on : (a b : D) → AreReadied d a b → Holds a → Holds b) where
  by_fewer : (a b : D) → ((image : List ℕ) → MayBeLeft d b image → MayBeLeft d a image) → Holds a → Holds b
  by_fewer a b less holds = goes_on a b (λ image may. (image, less image may, as_it_was image)) holds

  -- it goes on where the disk was only read
  pub by_reads : (a b : D) (failed : Bool) → IsOnlyRead d a b failed → d.is_honest b → Holds a → Holds b
  by_reads a b failed read honest holds = by_fewer a b (λ image may. record {
    size = may.size ∙ ap length (read.content honest);
    same = λ i out. may.same i (λ is. out ((read.pending honest i).0 is)) ∙ ap (λ (l : List ℕ). slice_index l i) (read.content honest);
  }) holds

  -- where a schedule was noted
  pub by_notes : (schedule : ScheduleNote) (a b : D) → Notes d schedule a b (Ok tt) → d.is_honest b → Holds a → Holds b
  by_notes schedule a b notes honest holds =
      let are : AreReadied d a b = λ image may.
      let was = left_before d a image (record {
        size = may.size ∙ (notes.within.torn honest).size;
        same = λ i out. may.same i (λ is. out (notes.within.pending honest i is)) ∙ (notes.within.torn honest).same i out;
      }) in
      (was.was, was.might, noted_only was.was image was.same) in
      goes_on a b are holds

  -- and where its history was given what it lacked of it
  pub by_joined : (a b : D) → IsJoined d a b → d.is_honest b → Holds a → Holds b
  by_joined a b (inl same) honest holds = subst Holds (sym same) holds
  by_joined a b (inr read) honest holds =
      let settled = read.settled refl honest in
      by_fewer a b (λ image may. record {
        size = may.size ∙ ap length settled.content;
        same = λ i out. may.same i (settled.durable i) ∙ ap (λ (l : List ℕ). slice_index l i) settled.content;
      }) holds

  -- WITH ITS INPUT

  -- where a disk is supplied it holds, and so it did of the one that was made longer for it
  pub record Reaches (before asked : Openings D) (disk : D) : Type 0 where
    pub holds : Holds disk
    pub longer : (looked : D) → asked.lengthened ≡ looked ∷ before.lengthened → Holds looked

  abbrev IsZeros : (before asked : Openings D) → D → Type 0
  IsZeros before asked disk = (looked : D) → asked.lengthened ≡ looked ∷ before.lengthened → HasZerosBehind d looked disk

  module _ (gives : Gives D) where
    by_room : (size : Result ℕ RecoverFault) (room disk : D) (before asked : Openings D) → EndsWithRoom d gives.Longer room before asked (Ok disk) size → IsZeros before asked disk → d.is_honest disk → (d.is_honest room → Holds room) → Reaches before asked disk
    by_room (Err fault) room disk before asked ends law honest were = let no : ◌≡◌ {A = Result D (Unready D)} (Ok disk) (Err (record { disk = room; fault = job.Recover fault })) = ends.0 in absurd (cc)
    by_room (Ok size) room disk before asked (inl has) law honest were =
        let made : ◌≡◌ {A = Result D (Unready D)} (Ok disk) (Ok room) = has.is in
        let same : disk ≡ room = cc in
        record {
          holds = subst Holds (sym same) (were (subst d.is_honest same honest));
          longer = λ looked more. absurd (no_more looked before.lengthened asked.lengthened (ap (λ (q : Openings D). q.lengthened) has.unasked) more);
        }
    by_room (Ok size) room disk before asked (inr (inl gets)) law honest were =
        let more : asked.lengthened ≡ room ∷ before.lengthened = ap (λ (q : Openings D). q.lengthened) gets.asks in
        let zeros = law room more in
        let there = were zeros.honest in
        record {
          holds = goes_on room disk zeros.left.images there;
          longer = λ looked also. let both : ◌≡◌ {A = List D} (room ∷ before.lengthened) (looked ∷ before.lengthened) = sym more ∙ also in let same : room ≡ looked = cc in subst Holds same there;
        }
    by_room (Ok size) room disk before asked (inr (inr lacks)) law honest were = let no = lacks.is in absurd (cc)

    by_roomy : (s : Supplied D) (it : Intake D) (start : D) (before between asked : Openings D) (made : Result D (Unready D)) → SuppliesRoomy it between asked (Ok s) made → (size : Result ℕ RecoverFault) (room : D) (failed : Bool)
        → IsOnlyRead d start room failed → EndsWithRoom d gives.Longer room before between made size → IsZeros before asked s.disk → d.is_honest s.disk → (d.is_honest start → Holds start) → Reaches before asked s.disk
    by_roomy s it start before between asked (Err unready) ends size room failed read made law honest were = let no : ◌≡◌ {A = Result (Supplied D) JobFault} (Ok s) (Err unready.fault) = ends.0 in absurd (cc)
    by_roomy s it start before between asked (Ok disk) ends size room failed read made law honest were =
        let found : ◌≡◌ {A = Result (Supplied D) JobFault} (Ok s) (Ok (record { disk = disk; intake = Some it })) = ends.0 in
        let whole : s ≡ record { disk = disk; intake = Some it } = cc in
        let same : s.disk ≡ disk = ap (λ (q : Supplied D). q.disk) whole in
        let made' : EndsWithRoom d gives.Longer room before asked (Ok disk) size = subst (λ (q : Openings D). EndsWithRoom d gives.Longer room before q (Ok disk) size) (sym ends.1) made in
        let r = by_room size room disk before asked made' (λ looked more. subst (HasZerosBehind d looked) same (law looked more)) (subst d.is_honest same honest)
        (λ fine. by_reads start room failed read fine (were (read.same.honest fine))) in
        subst (Reaches before asked) (sym same) r

    by_opened : (s : Supplied D) (it : Intake D) (disk : D) (before asked : Openings D) → SuppliesOpened d gives.Longer disk it before asked (Ok s) → IsZeros before asked s.disk → d.is_honest s.disk → (d.is_honest disk → Holds disk) → Reaches before asked s.disk
    by_opened s it disk before asked (inl refuses) law honest were = let no = refuses.is in absurd (cc)
    by_opened s it disk before asked (inr takes) law honest were =
        by_roomy s it disk before takes.asked asked takes.made takes.ends takes.room.size takes.room.disk _ takes.room.read takes.room.ends law honest were

    by_taken : (s : Supplied D) (path : List ℕ) (disk : D) (before asked : Openings D) (taken : Result ℕ JobFault) → SuppliesTaken d gives path disk before asked (Ok s) taken → IsZeros before asked s.disk → d.is_honest s.disk → (d.is_honest disk → Holds disk)
        → Reaches before asked s.disk
    by_taken s path disk before asked (Err fault) ends law honest were = let no : ◌≡◌ {A = Result (Supplied D) JobFault} (Ok s) (Err fault) = ends.0 in absurd (cc)
    by_taken s path disk before asked (Ok n) (inl lacks) law honest were = let no = lacks.is in absurd (cc)
    by_taken s path disk before asked (Ok n) (inr opens) law honest were =
        let r = by_opened s (record { file = opens.input; taken = n }) disk _ asked opens.ends law honest were in
        record { holds = r.holds; longer = r.longer }

    pub by_input : (s : Supplied D) (input : Option (List ℕ)) (from : Option ℕ) (looked : D) (before asked : Openings D) → Supplies d gives input from looked before asked (Ok s) → IsZeros before asked s.disk → d.is_honest s.disk → (d.is_honest looked → Holds looked)
        → Reaches before asked s.disk
    by_input s None from looked before asked supplies law honest were =
        let found : ◌≡◌ {A = Result (Supplied D) JobFault} (Ok s) (Ok (record { disk = looked; intake = None })) = supplies.0 in
        let whole : s ≡ record { disk = looked; intake = None } = cc in
        let same : s.disk ≡ looked = ap (λ (q : Supplied D). q.disk) whole in
        record {
          holds = subst Holds (sym same) (were (subst d.is_honest same honest));
          longer = λ q more. absurd (no_more q before.lengthened asked.lengthened (ap (λ (r : Openings D). r.lengthened) supplies.1) more);
        }
    by_input s (Some path) from looked before asked supplies law honest were =
        by_taken s path supplies.disk before asked supplies.taken supplies.ends law honest (λ fine. by_reads looked supplies.disk _ supplies.looks.read fine (were (supplies.looks.read.same.honest fine)))
