-- What meets the premises of the promise of many drives.
use Rattle.std.specs.Prelude.{◌≡◌, ◌≢◌, ℕ, List, [], ◌∷◌, Option, Some, Ok}
use Rattle.ckrt_disk.specs.declared.disk.Disk.{Ghosts}
use Rattle.ckrt_drive.specs.Stages.{GoesBySteps, Stage, stage}
use Rattle.ckrt_drive.specs.declared.options.Options.{Options}
use Rattle.ckrt_drive.specs.Offset.{offset_from}
use Rattle.ckrt_recovery.specs.declared.session.Session.{Session}
use Rattle.ckrt_stored.specs.Programs.{Program, RecoversToStart}
use Rattle.ckrt_drive.specs.Drives.{AllHaveInput, AllToldByRecord, ComeBehind, IsDrive, IsToldByRecord, OneDrive}
use Rattle.ckrt_drive.specs.Theorem.{Begin}

-- from x on a drive went by steps, with this input, up to this session and this output
pub record Went {D O : Type 0} {d : Ghosts D} {o : Ghosts O} (options : Options) (IsRead : Type 0)
    (file : Option (List ℕ)) (x : Stage d o) (session : Session D d) (output : O) : Type 0 where
  pub left : ℕ
  pub taken : ℕ
  pub steps : GoesBySteps options IsRead file x (stage o left taken session output)

-- There was a drive of this disk onto this output, with these bytes as its input, which left these two; a stop comes behind its last step. It
-- was told what the record of its disk says.
pub record Drove {D O : Type 0} (d : Ghosts D) (o : Ghosts O) (start : D) (output : O)
    (file : List ℕ) (end : D) (left : O) : Type 0 where
  pub drive : OneDrive d o
  pub is : IsDrive drive
  pub told : IsToldByRecord drive
  pub begins : drive.start ≡ start
  pub opens : drive.first.output ≡ output
  pub fed : drive.file ≡ Some file
  pub stops : drive.at ≡ drive.last
  pub ends : drive.last.session.disk ≡ end
  pub leaves : drive.last.output ≡ left

-- the record of this disk tells so much of its input
abbrev pub Records : {D : Type 0} → Ghosts D → D → ℕ → Type 0
Records d disk taken = (said : Option ℕ) × (offset_from said (d.content disk) ≡ Ok (Some taken))

-- a device is made anew with the bytes as they read of another one: what a power cut may have left of that
pub record IsReopened {D : Type 0} (d : Ghosts D) (end next : D) : Type 0 where
  pub honest : d.is_honest end
  pub same : d.content next ≡ d.content end
  pub settled : (i : ℕ) → ¬ d.pending next i

-- Two drives of a disk that was formatted, one after the other, with one input; the second on what a stop behind the first left.
pub record DroveTwice {D O : Type 0} (d : Ghosts D) (o : Ghosts O) (p : Program) (file : List ℕ)
    : Type 0 where
  pub start : D
  pub output : O
  pub end : D
  pub left : O
  pub one : Drove d o start output file end left
  pub next : D
  pub opened : O
  pub finish : D
  pub whole : O
  pub other : Drove d o next opened file finish whole
  pub formatted : RecoversToStart p (d.content start)
  pub settled : (i : ℕ) → ¬ d.pending start i
  pub durable : (i : ℕ) → ¬ o.pending output i
  pub disk_again : IsReopened d end next
  pub output_again : IsReopened o left opened
  pub some_input : file ≢ []
  pub some_output : o.content output ≢ []

-- two drives with a stop between, an input, and an output that isn't empty, for which all premises hold
pub record Witness {D O : Type 0} (d : Ghosts D) (o : Ghosts O) (file : List ℕ) : Type 0 where
  pub program : Program
  pub first : OneDrive d o
  pub second : OneDrive d o
  pub begin : Begin d o program first.start first.first.output
  pub is : IsDrive first
  pub behind : ComeBehind first (second ∷ [])
  pub fed : AllHaveInput (Some file) (first ∷ second ∷ [])
  pub told : AllToldByRecord (first ∷ second ∷ [])
  pub some_input : file ≢ []
  pub some_output : o.content first.first.output ≢ []
