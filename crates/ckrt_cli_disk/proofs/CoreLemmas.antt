-- The core of a disk or of a history, where less is known of the files that may be made for it, and more of what was opened.
use Rattle.std.proofs.Common.{◌≡◌, ℕ, Bool, true, false, List, Result, Ok, Err, inl, inr, sym, subst}
use Rattle.ckrt_disk.specs.declared.disk.Disk.{Ghosts}
use Rattle.ckrt_history.specs.declared.fault.HistoryFault.{HistoryFault}
use Rattle.ckrt_look_recording.specs.Recording.{Recorded}
use Rattle.ckrt_look_recording.specs.declared.recording.Recording.{Recording}
use Rattle.ckrt_machine.specs.Events.{Machine}
use Rattle.ckrt_stored.specs.declared.progress.Progress.{Progress}
use Rattle.ckrt_inspect.specs.declared.fault.InspectFault.{InspectFault}
use Rattle.ckrt_cli_words.specs.Jobs.{CoreMaking}
use Rattle.ckrt_cli_disk.specs.CoreFiles.{Cores, CoresAt, CoresFound, CoresProgram, CoresRead, CoresRecorded, MakesCore, moment_stretch}
use Rattle.ckrt_cli_disk.specs.Near.{ReadsNear}
use Rattle.ckrt_cli_files.specs.Openings.{Openings}
use Rattle.ckrt_cli_reports.specs.declared.fault.JobFault.{JobFault}

module _ {D : Type 0} (d : Ghosts D) (Fills Weaker : ℕ → D → Type 0) (are : (n : ℕ) (x : D) → Fills n x → Weaker n x) (result : Result (Unit {0}) JobFault) where
  module _ (old new : Openings D) where
    makes_weaker : (core path : List ℕ) → MakesCore d Fills core path old new result → MakesCore d Weaker core path old new result
    makes_weaker core path (inl none) = inl none
    makes_weaker core path (inr (inl lacks)) = inr (inl lacks)
    makes_weaker core path (inr (inr makes)) = inr (inr (record { start = makes.start; is_opened = are _ _ makes.is_opened; writes = makes.writes }))

    found_weaker : (path : List ℕ) (f : Result Progress InspectFault) → CoresFound d Fills path old new f result → CoresFound d Weaker path old new f result
    found_weaker path (Ok p) makes = makes_weaker _ path makes
    found_weaker path (Err f) is = is

    cores_weaker : (c : CoreMaking) (disk end : D) → Cores d Fills c disk end old new result → Cores d Weaker c disk end old new result
    cores_weaker c disk end it = record { found = it.found; read = it.read; tells = it.tells; makes = found_weaker c.file it.found it.makes }

    program_weaker : (path : List ℕ) (f : Result Machine JobFault) → CoresProgram d Fills path old new f result → CoresProgram d Weaker path old new f result
    program_weaker path (Ok m) makes = makes_weaker _ path makes
    program_weaker path (Err f) is = is

    recorded_weaker : (c : CoreMaking) (r : Recorded) → CoresRecorded d Fills c r old new result → CoresRecorded d Weaker c r old new result
    recorded_weaker c r (found, at, makes) = (found, at, program_weaker c.file found makes)

    pub read_weaker : (c : CoreMaking) (r : Result Recording HistoryFault) → CoresRead d Fills c old new r result → CoresRead d Weaker c old new r result
    read_weaker c (Ok r) it = recorded_weaker c _ it
    read_weaker c (Err f) is = is

  -- what was opened is what may be opened there, after what had been asked for
  module _ (Opens : D → Type 0) (x : D) (opens : Opens x) (c : CoreMaking) (told asked new : Openings D) (same : told ≡ asked) where
    pub cores_of_opened : (is_history : Bool) → CoresAt is_history d (λ start. start ≡ x) Fills c told new result → CoresAt is_history d Opens Weaker c asked new result
    cores_of_opened true o = record {
      start = o.start;
      is_opened = subst Opens (sym o.is_opened) opens;
      end = o.end;
      near = o.near;
      openings = o.openings;
      reads = subst (λ y. ReadsNear d (moment_stretch c.at) o.start o.end y o.openings o.near) same o.reads;
      made = o.made;
      cores = read_weaker o.openings o.made c o.near.answer o.cores;
      closes = o.closes;
    }
    cores_of_opened false o = record {
      start = o.start;
      is_opened = subst Opens (sym o.is_opened) opens;
      end = o.end;
      made = o.made;
      cores = subst (λ y. Cores d Weaker c o.start o.end y o.made result) same (cores_weaker told o.made c o.start o.end o.cores);
      closes = o.closes;
    }
