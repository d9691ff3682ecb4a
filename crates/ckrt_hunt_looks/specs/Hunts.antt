-- A hunt from its image to its table, with what its runs are looked at for.
use Rattle.std.specs.Prelude.{ℕ, Bool, false, if◌then◌else◌, List, [], ◌++◌}
use Rattle.ckrt_hunt_schedules.specs.Kinds.{verdict_of}
use Rattle.ckrt_hunt_schedules.specs.Table.{done_text}
use Rattle.ckrt_hunt_schedules.specs.Seeds.{IsBeginning}
use Rattle.ckrt_hunt_schedules.specs.Tallies.{Hunted, IsHunted, IsTallyOf, hunted_of}
use Rattle.ckrt_hunt_schedules.specs.declared.plan.Input.{Input}
use Rattle.ckrt_hunt_schedules.specs.declared.seeds.Seeds.{Seeds}
use Rattle.ckrt_hunt_schedules.specs.declared.table.Asked.{Asked}
use Rattle.ckrt_hunt_schedules.specs.declared.table.Look.{Look}
use Rattle.ckrt_hunt_schedules.specs.declared.table.Look.TheVariants as look
use Rattle.ckrt_hunt_schedules.specs.declared.verdict.Verdict.{Verdict}
use Rattle.ckrt_hunt_schedules.specs.declared.verdict.Verdict.TheVariants.{Several}
use Rattle.ckrt_hunt_looks.specs.declared.telling.HuntFound.{HuntFound}
use Rattle.ckrt_hunt_looks.specs.declared.telling.HuntFound.TheVariants as found
use Rattle.ckrt_hunt_looks.specs.declared.telling.HuntTold.{HuntTold}
use Rattle.ckrt_hunt_looks.specs.declared.telling.LookDone.{LookDone}
use Rattle.ckrt_hunt_looks.specs.Errors.{error_look, has_error}
use Rattle.ckrt_hunt_looks.specs.FoundTable.{errors_text, races_text}
use Rattle.ckrt_hunt_looks.specs.Looks.{FillsSome, IsLookOf, Looking}
use Rattle.ckrt_hunt_looks.specs.Races.{has_race, race_look}

-- the seeds of a program that is hunted were run as it was asked for, and each run was looked at
pub record IsCounted {L T : Type 0} (k : Looking L T) (h : Hunted) (asked : Asked) (it : LookDone T) : Type 0 where
  pub begins : IsBeginning asked.seeds asked.may_end it.done.seeds
  pub tally : IsTallyOf h it.done.seeds it.done.outcomes
  pub looked : IsLookOf k h it.done.seeds it.counted

-- what was found in the runs of these seeds is that for which they are looked at
abbrev pub IsFound : Hunted → Seeds → Look → HuntFound → Type 0
IsFound h seeds look.Outcomes found.Nothing = Unit {0}
IsFound h seeds look.Races (found.Races t) = IsLookOf race_look h seeds t
IsFound h seeds look.Errors (found.Errors t) = IsLookOf error_look h seeds t
IsFound h seeds _ _ = ⊥

-- the program with this image and this input was hunted as it was asked for, with this look
pub record IsHuntedWith (l : Look) (image : List ℕ) (input : Input) (asked : Asked) (told : HuntTold)
    : Type 0 where
  pub hunted : IsHunted image input asked told.done
  pub looked : IsFound (hunted_of image asked.shape input) told.done.seeds l told.found

-- the run of a seed that was asked for fills the room of the look
abbrev pub FillsAsked : Look → (room : ℕ) → Hunted → Seeds → Type 0
FillsAsked look.Outcomes room h seeds = ⊥
FillsAsked look.Races room h seeds = FillsSome race_look room h seeds
FillsAsked look.Errors room h seeds = FillsSome error_look room h seeds

-- WHAT IS TOLD of the seeds that were run: the outcomes, and what was found after them
abbrev pub text_behind : Asked → HuntFound → List ℕ
text_behind a found.Nothing = []
text_behind a (found.Races t) = races_text a t
text_behind a (found.Errors t) = errors_text a t

abbrev pub told_text : Asked → HuntTold → List ℕ
told_text a told =
    done_text a told.done ++ text_behind (record a { seeds = told.done.seeds }) told.found

-- WHAT IT CAME TO: a run with a race, a cycle of locks or an error of memory is told apart, whatever the outcomes are
abbrev pub has_found : HuntFound → Bool
has_found found.Nothing = false
has_found (found.Races t) = has_race t
has_found (found.Errors t) = has_error t

abbrev pub verdict_on : HuntTold → Verdict
verdict_on told =
    if has_found told.found then Several else verdict_of told.done.outcomes.rows.items told.done.outcomes.others
