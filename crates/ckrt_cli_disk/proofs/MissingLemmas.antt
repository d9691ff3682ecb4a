-- The making of a missing disk, where less is known of the disks.
use Rattle.std.proofs.Common.{◌≡◌, ℕ, List, Option, Some, None, Result, subst, inl, inr}
use Rattle.ckrt_disk.specs.declared.disk.Disk.{Ghosts}
use Rattle.ckrt_stored.specs.declared.config.Config.{Config}
use Rattle.ckrt_cli_disk.specs.Missing.{MakesMissing}
use Rattle.ckrt_cli_disk.specs.Programs.{Compares, LooksAtProgram}
use Rattle.ckrt_cli_files.specs.Openings.{Openings}
use Rattle.ckrt_cli_reports.specs.declared.fault.JobFault.{JobFault}

pub makes_weaker : {D : Type 0} (d : Ghosts D) (config : Config) (known : Option (List ℕ)) (Fills Weaker : D → Type 0) (image disk : List ℕ) (old new : Openings D) (result : Result D JobFault)
    → ((x : D) → Fills x → Weaker x) → MakesMissing d config known Fills image disk old new result → MakesMissing d config known Weaker image disk old new result
makes_weaker d config known Fills Weaker image disk old new result are (inl refuses) = inl refuses
makes_weaker d config known Fills Weaker image disk old new result are (inr (inl lacks)) = inr (inl (record { valid = lacks.valid; why = lacks.why; is = lacks.is; unfit = lacks.unfit }))
makes_weaker d config known Fills Weaker image disk old new result are (inr (inr (inl lacks))) = inr (inr (inl (record { valid = lacks.valid; fit = lacks.fit; lacks = lacks.lacks })))
makes_weaker d config known Fills Weaker image disk old new result are (inr (inr (inr makes))) = inr (inr (inr (record {
  valid = makes.valid;
  fit = makes.fit;
  guest = makes.guest;
  is_guest = makes.is_guest;
  start = makes.start;
  is_opened = are makes.start makes.is_opened;
  makes = makes.makes;
})))

-- the look at a disk that stands at its path, where the bytes of images are known elsewhere as well
pub compares_same : {D : Type 0} (d : Ghosts D) (before after : List ℕ → Option (List ℕ)) (image : Option (List ℕ)) (start : D) (old new : Openings D) (result : Result D JobFault)
    → ((path : List ℕ) → after path ≡ before path) → Compares d after image start old new result → Compares d before image start old new result
compares_same d before after None start old new result same as_it_is = as_it_is
compares_same d before after (Some path) start old new result same looks = subst (λ k. LooksAtProgram d k path start old new result) (same path) looks
