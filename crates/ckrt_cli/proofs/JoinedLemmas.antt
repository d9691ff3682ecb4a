-- A disk whose history was given what it lacked of it.
use Rattle.std.proofs.Common.{◌≡◌, inl, inr, ℕ, List, false, Option, Some, None, Result, Ok, Err, refl, sym, ap, subst}
use Rattle.ckrt_disk.specs.declared.disk.Disk.{Ghosts}
use Rattle.ckrt_history.specs.Joining.{is_disk_fault}
use Rattle.ckrt_history.specs.Opening.{fault_of}
use Rattle.ckrt_history.specs.declared.kept.KeptHistory.{KeptHistory}
use Rattle.ckrt_history.specs.declared.kept.Unkept.{Unkept}
use Rattle.ckrt_recovery.specs.Opening.{IsSyncedAndRead}
use Rattle.ckrt_cli_disk.specs.Equipping.{Equips, EquipsSo}
use Rattle.ckrt_cli_disk.specs.declared.equipping.Beside.{Beside}
use Rattle.ckrt_cli_disk.specs.declared.equipping.Equipped.{Equipped}
use Rattle.ckrt_cli_disk.specs.declared.feeding.Supplied.{Supplied}
use Rattle.ckrt_cli_files.specs.Openings.{Openings}
use Rattle.ckrt_cli_files.specs.Sources.{Gives}
use Rattle.ckrt_cli_reports.specs.declared.fault.JobFault.{JobFault}
use Rattle.ckrt_cli.specs.Runs.{IsJoined}

module _ {D : Type 0} (d : Ghosts D) where
  -- it was as honest before
  pub honest_before : (noted start : D) → IsJoined d noted start → d.is_honest start → d.is_honest noted
  honest_before noted start (inl same) honest = subst d.is_honest same honest
  honest_before noted start (inr read) honest = read.same.honest honest

  -- and reads as before
  pub reads_as_before : (noted start : D) → IsJoined d noted start → d.is_honest start → d.content start ≡ d.content noted
  reads_as_before noted start (inl same) honest = ap d.content same
  reads_as_before noted start (inr read) honest = (read.settled refl honest).content

  -- what comes with a history, or without one, by the words
  module _ (gives : Gives D) (start : Supplied D) (it : Equipped D d) where
    pub record Joins : Type 0 where
      pub joined : IsJoined d start.disk it.disk
      pub same_intake : it.beside.intake ≡ start.intake

    by_made : (disk : D) (asked new : Openings D) (made : Result (KeptHistory D d) (Unkept D)) → IsSyncedAndRead d start.disk disk (is_disk_fault (fault_of made)) → EquipsSo (record { disk = disk; intake = start.intake }) asked new (Ok it) made → Joins
    by_made disk asked new (Err unkept) read ends = let no = ends.0 in absurd (cc)
    by_made disk asked new (Ok history) read ends =
        let beside : Beside D d = record { intake = start.intake; history = Some history } in
        let found : ◌≡◌ {A = Result (Equipped D d) JobFault} (Ok it) (Ok (record { disk = disk; beside = beside })) = ends.0 in
        let whole : it ≡ record { disk = disk; beside = beside } = cc in
        record {
          joined = inr (subst (λ (q : D). IsSyncedAndRead d start.disk q false) (sym (ap (λ (q : Equipped D d). q.disk) whole)) read);
          same_intake = ap (λ (q : Equipped D d). q.beside.intake) whole;
        }

    pub joins : (path : Option (List ℕ)) (old new : Openings D) → Equips d gives path start old new (Ok it) → Joins
    joins None old new equips =
        let beside : Beside D d = record { intake = start.intake; history = None } in
        let found : ◌≡◌ {A = Result (Equipped D d) JobFault} (Ok it) (Ok (record { disk = start.disk; beside = beside })) = equips.0 in
        let whole : it ≡ record { disk = start.disk; beside = beside } = cc in
        record { joined = inl (ap (λ (q : Equipped D d). q.disk) whole); same_intake = ap (λ (q : Equipped D d). q.beside.intake) whole }
    joins (Some path) old new (inl lacks) = let no = lacks.is in absurd (cc)
    joins (Some path) old new (inr opens) = by_made opens.equips.disk _ new opens.equips.made opens.equips.opens.synced opens.equips.ends
