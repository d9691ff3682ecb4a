-- What a drive that kept a history left, as a run beside a history.
use Rattle.std.proofs.Common.{inr, List, [], ◌∷◌, ◌++◌, Option, Result, Ok, Err, refl, sym, ap, subst, ℕ}
use Rattle.std.specs.Prelude.{map}
use Rattle.ckrt_disk.specs.declared.disk.Disk.{Ghosts}
use Rattle.ckrt_recovery.specs.Recovered.{IsRecovered}
use Rattle.ckrt_drive.specs.Stages.{Stage, stage}
use Rattle.ckrt_drive.specs.declared.options.Options.{Options}
use Rattle.ckrt_drive.specs.Drives.{IsDrive}
use Rattle.ckrt_drive.specs.Together.{IsLeftSince}
use Rattle.ckrt_history.specs.Keeping.{Advances, EndsKeeping, GoesKeeping, KeepingStage, RanKeeping, keeping_stage, stages_with}
use Rattle.ckrt_history.specs.Many.{AdvancesAll, StopLeavesBeside, Three}
use Rattle.ckrt_history.specs.declared.keeping.Kept.{Kept}
use Rattle.ckrt_history.specs.declared.keeping_fault.KeepingFault.{KeepingFault}
use Rattle.ckrt_history.specs.declared.keeping_fault.KeepingFault.TheVariants.{Device, Drive, Full}

module _ {D O K : Type 0} {d : Ghosts D} {o : Ghosts O} {k : Ghosts K} (options : Options) where
  -- STEPS

  -- all appends went well
  advances_well : (stages : List (KeepingStage d o k)) (x y : KeepingStage d o k) → GoesKeeping options stages x y → AdvancesAll options stages x y
  advances_well [] x y goes = goes
  advances_well (z ∷ []) x y goes = ((Ok tt, goes.0), goes.1)
  advances_well (z ∷ w ∷ more) x y goes = (goes.0, advances_well (w ∷ more) z y goes.1)

  -- but for the one behind the last
  advances_but_last : (stages : List (KeepingStage d o k)) (x last y : KeepingStage d o k) (kept : Result (Unit {0}) KeepingFault) → GoesKeeping options stages x last → Advances options last y kept → AdvancesAll options (stages ++ y ∷ []) x y
  advances_but_last [] x last y kept goes advances = ((kept, subst (λ (q : KeepingStage d o k). Advances options q y kept) goes advances), refl)
  advances_but_last (z ∷ []) x last y kept goes advances = (goes.0, advances_but_last [] z last y kept goes.1 advances)
  advances_but_last (z ∷ w ∷ more) x last y kept goes advances = (goes.0, advances_but_last (w ∷ more) z last y kept goes.1 advances)

  pub advances_by : {X : Type 0} (answer : Result X KeepingFault) (stages : List (KeepingStage d o k)) (x last y : KeepingStage d o k) → GoesKeeping options stages x last → EndsKeeping options last y answer → AdvancesAll options (stages_with stages y answer) x y
  advances_by (Ok a) stages x last y goes ends = subst (AdvancesAll options stages x) (sym ends) (advances_well stages x last goes)
  advances_by (Err (Drive fault)) stages x last y goes ends = subst (AdvancesAll options stages x) (sym ends) (advances_well stages x last goes)
  advances_by (Err Device) stages x last y goes ends = advances_but_last stages x last y (Err Device) goes ends
  advances_by (Err Full) stages x last y goes ends = advances_but_last stages x last y (Err Full) goes ends

  -- A STOP BEHIND THE LAST

  pub stop_behind : (stages : List (KeepingStage d o k)) (x y : KeepingStage d o k) (left : Three D O K) → AdvancesAll options stages x y → IsLeftSince d y.stage.session.disk y.stage.session.disk left.disk
      → IsLeftSince o y.stage.output y.stage.output left.output → IsLeftSince k y.file y.file left.file → StopLeavesBeside stages x y.stage left
  stop_behind [] x y left advances disk output file = (
    ap (λ (q : KeepingStage d o k). q.stage) advances,
    subst (λ (q : KeepingStage d o k). IsLeftSince d q.stage.session.disk q.stage.session.disk left.disk) advances disk,
    subst (λ (q : KeepingStage d o k). IsLeftSince o q.stage.output q.stage.output left.output) advances output,
    subst (λ (q : KeepingStage d o k). IsLeftSince k q.file q.file left.file) advances file,
  )
  stop_behind (z ∷ []) x y left advances disk output file = inr (inr (stop_behind [] z y left advances.1 disk output file))
  stop_behind (z ∷ w ∷ more) x y left advances disk output file = inr (inr (stop_behind (w ∷ more) z y left advances.1 disk output file))

-- THE WHOLE RUN

module _ {D O F K : Type 0} {d : Ghosts D} {o : Ghosts O} {k : Ghosts K} (options : Options) (IsRead : Type 0) (file : Option (List ℕ)) (steps : ℕ) (x : KeepingStage d o k) (ran : Kept D O F K d) (h : RanKeeping options IsRead file steps x ran) where
  -- where it stands in the end
  abbrev pub end : KeepingStage d o k
  end = keeping_stage k (stage o h.left h.taken ran.session ran.output) ran.file h.place

  abbrev pub stages : List (KeepingStage d o k)
  stages = stages_with h.runs.by_keeping.stages end ran.answer

  pub advances : AdvancesAll options stages x end
  advances = advances_by options ran.answer h.runs.by_keeping.stages x h.runs.by_keeping.last end h.runs.by_keeping.goes h.runs.by_keeping.ends

  -- it is a drive of the disk that was recovered
  pub is_drive : (start : D) (at : Stage d o) → IsRecovered d start x.stage.session → IsRead → d.is_honest ran.session.disk → o.is_honest ran.output
      → IsDrive (record { start = start; options = options; file = file; first = x.stage; stages = map (λ (z : KeepingStage d o k). z.stage) stages; last = end.stage; at = at })
  is_drive start at recovered read honest output_honest =
      subst (λ (l : List (Stage d o)). IsDrive (record { start = start; options = options; file = file; first = x.stage; stages = l; last = end.stage; at = at })) h.runs.same (record {
        recovered = recovered;
        goes = h.runs.by_steps.goes;
        supplied = h.runs.by_steps.supplied read;
        honest = honest;
        output_honest = output_honest;
      })
