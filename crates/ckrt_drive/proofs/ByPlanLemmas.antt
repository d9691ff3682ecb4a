-- Lists by plan: there is one, whichever of its beginnings a stop leaves.
use Rattle.std.proofs.Common.{◌≡◌, ◌⊎◌, inl, inr, ⊎_elim, ℕ, ◌+◌, ◌==◌, ◌&&◌, Bool, true, false, if◌then◌else◌, Option, Some, None, List, [], ◌∷◌, ◌++◌, length, take, Result, Ok, Err, refl, sym, ◌∙◌, ap, subst, arith, append_assoc, append-nil, length-append}
use Rattle.std.proofs.lemmas.List.{append_cancel_left}
use Rattle.ckrt_drive.specs.Given.{IsSupplied}
use Rattle.ckrt_schedule.specs.Next.{given_in}
use Rattle.ckrt_schedule.specs.Schedules.{next_event}
use Rattle.ckrt_drive.specs.Plan.{schedule_of}
use Rattle.ckrt_disk.specs.declared.disk.Disk.{Ghosts}
use Rattle.ckrt_drive.specs.Output.{HoldsOutput}
use Rattle.ckrt_drive.specs.Steps.{Steps, accepted_in, aim_of}
use Rattle.ckrt_drive.specs.declared.fault.DriveFault.{DriveFault}
use Rattle.ckrt_drive.specs.declared.options.Options.{Options}
use Rattle.ckrt_schedule.specs.declared.next.Next.{Next}
use Rattle.ckrt_schedule.specs.declared.next.Next.TheVariants.{Submit, End}
use Rattle.ckrt_schedule.specs.declared.next.ScheduleEnd.{ScheduleEnd}
use Rattle.ckrt_schedule.specs.declared.next.ScheduleEnd.TheVariants.{Enough}
use Rattle.ckrt_drive.specs.declared.step_done.StepDone.{StepDone}
use Rattle.ckrt_drive.specs.declared.step_done.StepDone.TheVariants.{Submitted, Committed, Checkpointed, Released, Stopped}
use Rattle.ckrt_drive.specs.declared.supply.Supply.{Supply}
use Rattle.ckrt_drive.proofs.PlannedLemmas.{planned_event}
use Rattle.ckrt_events.specs.declared.event.Event.{Event}
use Rattle.ckrt_stored.specs.Programs.{Program, output_after, state_after}
use Rattle.ckrt_schedule.specs.Taken.{taken_by}
use Rattle.ckrt_drive.proofs.FedLemmas.{taken-append}
use Rattle.ckrt_calls.specs.declared.table.Tables.{Tables}
use Rattle.ckrt_machine.specs.Runs.{is_running}
use Rattle.ckrt_machine.specs.Steps.{State}
use Rattle.ckrt_disk.specs.Lists.{IsBeginningOf}
use Rattle.ckrt_recovery.specs.Represents.{Represents}
use Rattle.ckrt_recovery.specs.View.{view_of}
use Rattle.ckrt_recovery.specs.declared.session.Session.{Session}
use Rattle.ckrt_disk.proofs.ListLemmas.{begins_behind, begins_through}
use Rattle.ckrt_drive.specs.ByPlan.{AreByPlan, Course, IsByPlanFrom, IsUnbroken, course, next_behind}
use Rattle.ckrt_drive.specs.Drives.{AllByPlan, AllKeep, AllOnCourse, AllTold, ComeBehind, HasEnded, IsTold, Keeps, OneDrive, course_of, past_behind}
use Rattle.ckrt_drive.specs.Together.{Past}

same_event : (n : Next) (x y : Event) → n ≡ Submit x → n ≡ Submit y → y ≡ x
same_event n x y is are = cc

no_event_at_end : (n : Next) (x : Event) (ending : ScheduleEnd) → n ≡ Submit x → n ≡ End ending → ⊥
no_event_at_end n x ending is ends = absurd (cc)

begins_both : (x : Event) (xs ys : List Event) → IsBeginningOf xs ys → IsBeginningOf (x ∷ xs) (x ∷ ys)
begins_both x xs ys h = (h.0, ap (λ (l : List Event). x ∷ l) h.1)

module _ (u : Course) (p : Program) where
  -- BEHIND SOME EVENTS

  -- these, and then others
  are_more : (b xs ys : List Event) → AreByPlan u p b xs → AreByPlan u p (b ++ xs) ys → AreByPlan u p b (xs ++ ys)
  are_more b [] ys h k = subst (λ (l : List Event). AreByPlan u p l ys) (append-nil b) k
  are_more b (x ∷ xs) ys h k = (h.0, are_more (b ++ x ∷ []) xs ys h.1 (subst (λ (l : List Event). AreByPlan u p l ys) (sym (append_assoc b (x ∷ []) xs)) k))

  pub are_fewer : (b xs ys : List Event) → AreByPlan u p b (xs ++ ys) → AreByPlan u p b xs
  are_fewer b [] ys h = tt
  are_fewer b (x ∷ xs) ys h = (h.0, are_fewer (b ++ x ∷ []) xs ys h.1)

  next_at : (b xs : List Event) (y : Event) (ys : List Event) → AreByPlan u p b (xs ++ y ∷ ys) → next_behind u p (b ++ xs) ≡ Submit y
  next_at b [] y ys h = subst (λ (l : List Event). next_behind u p l ≡ Submit y) (sym (append-nil b)) h.0
  next_at b (x ∷ xs) y ys h = subst (λ (l : List Event). next_behind u p l ≡ Submit y) (append_assoc b (x ∷ []) xs) (next_at (b ++ x ∷ []) xs y ys h.1)

  -- one is a beginning of the other
  are_one : (b xs ys : List Event) → AreByPlan u p b xs → AreByPlan u p b ys → IsBeginningOf xs ys ⊎ IsBeginningOf ys xs
  are_one b [] ys h k = inl (ys, refl)
  are_one b (x ∷ xs) [] h k = inr (x ∷ xs, refl)
  are_one b (x ∷ xs) (y ∷ ys) h k =
      let same = same_event (next_behind u p b) x y h.0 k.0 in
      let rest = subst (λ (e : Event). AreByPlan u p (b ++ e ∷ []) ys) same k.1 in
      subst (λ (e : Event). IsBeginningOf (x ∷ xs) (e ∷ ys) ⊎ IsBeginningOf (e ∷ ys) (x ∷ xs)) (sym same)
      (⊎_elim (λ (h : _). inl (begins_both x xs ys h)) (λ (h : _). inr (begins_both x ys xs h)) (are_one (b ++ x ∷ []) xs ys h.1 rest))

  -- nothing goes on behind an end
  ends_by : (b xs ys rest : List Event) (ending : ScheduleEnd) → AreByPlan u p b ys → next_behind u p (b ++ xs) ≡ End ending → ys ≡ xs ++ rest → ys ≡ xs
  ends_by b xs ys [] ending h over is = is ∙ append-nil xs
  ends_by b xs ys (z ∷ zs) ending h over is =
      let goes = next_at b xs z zs (subst (AreByPlan u p b) is h) in
      absurd (no_event_at_end (next_behind u p (b ++ xs)) z ending goes over)

  of_whole : (b xs ys : List Event) (ending : ScheduleEnd) → AreByPlan u p b xs → AreByPlan u p b ys → next_behind u p (b ++ xs) ≡ End ending → IsBeginningOf ys xs
  of_whole b xs ys ending h k over = ⊎_elim
      (λ (longer : _). ([], sym (ends_by b xs ys longer.0 ending k over longer.1) ∙ sym (append-nil ys)))
      (λ (shorter : _). shorter)
      (are_one b xs ys h k)

  -- FROM A LIST ON

  pub by_plan_itself : (events : List Event) → IsByPlanFrom u p events events
  by_plan_itself events = record { rest = []; is = sym (append-nil events); by_plan = tt }

  pub by_plan_through : (first mid all : List Event) → IsByPlanFrom u p first mid → IsByPlanFrom u p mid all → IsByPlanFrom u p first all
  by_plan_through first mid all h k = record {
    rest = h.rest ++ k.rest;
    is = k.is ∙ (ap (λ (l : List Event). l ++ k.rest) h.is ∙ append_assoc first h.rest k.rest);
    by_plan = are_more first h.rest k.rest h.by_plan (subst (λ (l : List Event). AreByPlan u p l k.rest) h.is k.by_plan);
  }

  -- so is a list between
  pub by_plan_between : (first mid all : List Event) → IsBeginningOf first mid → IsBeginningOf mid all → IsByPlanFrom u p first all → IsByPlanFrom u p first mid
  by_plan_between first mid all begins within h =
      let whole : first ++ h.rest ≡ first ++ (begins.0 ++ within.0) = sym h.is ∙ (within.1 ∙ (ap (λ (l : List Event). l ++ within.0) begins.1 ∙ append_assoc first begins.0 within.0)) in
      let rest = append_cancel_left first h.rest (begins.0 ++ within.0) whole in
      record {
        rest = begins.0;
        is = begins.1;
        by_plan = are_fewer first begins.0 within.0 (subst (λ (l : List Event). AreByPlan u p first l) rest h.by_plan);
      }

  lists_begin : (first xs ys events others : List Event) → events ≡ first ++ xs → others ≡ first ++ ys → IsBeginningOf xs ys → IsBeginningOf events others
  lists_begin first xs ys events others is are h = subst (λ (l : List Event). IsBeginningOf l others) (sym is) (subst (λ (l : List Event). IsBeginningOf (first ++ xs) l) (sym are) (begins_behind first xs ys h))

  pub one_list : (first events others : List Event) → IsByPlanFrom u p first events → IsByPlanFrom u p first others → IsBeginningOf events others ⊎ IsBeginningOf others events
  one_list first events others h k = ⊎_elim
      (λ (b : _). inl (lists_begin first h.rest k.rest events others h.is k.is b))
      (λ (b : _). inr (lists_begin first k.rest h.rest others events k.is h.is b))
      (are_one first h.rest k.rest h.by_plan k.by_plan)

  pub of_unbroken : (first events whole : List Event) → IsByPlanFrom u p first events → IsUnbroken u p first whole → IsBeginningOf events whole
  of_unbroken first events whole h k =
      let w = k.by_plan in
      let over = subst (λ (l : List Event). next_behind u p l ≡ End k.over.0) w.is k.over.1 in
      lists_begin first h.rest w.rest events whole h.is w.is (of_whole first w.rest h.rest k.over.0 w.by_plan h.by_plan over)

  nothing_more : (xs ys rest others : List Event) → ys ≡ xs ++ rest → xs ≡ ys ++ others → xs ≡ ys
  nothing_more xs ys [] others is are = sym (is ∙ append-nil xs)
  nothing_more xs ys (z ∷ zs) others is are =
      let long = ap length is ∙ length-append xs (z ∷ zs) in
      let longer = ap length are ∙ length-append ys others in
      absurd (omega (arith, long, longer))

  pub unbroken_once : (first events whole : List Event) → IsUnbroken u p first events → IsUnbroken u p first whole → events ≡ whole
  unbroken_once first events whole h k =
      let few = of_unbroken first events whole h.by_plan k in
      let many = of_unbroken first whole events k.by_plan h in
      nothing_more events whole few.0 many.0 few.1 many.1

-- WHAT A STEP ADDS

-- what is given hangs on what the events took
pub told_given : (file : Option (List ℕ)) (taken : ℕ) (events : List Event) (s : Tables) → IsTold file taken events → given_in file taken s ≡ given_in file (taken_by events) s
told_given (Some bytes) taken events s told = ap (λ n. given_in (Some bytes) n s) told
told_given None taken events s told = refl

pub told_more : (file : Option (List ℕ)) (n m : ℕ) (events more : List Event) → m ≡ n + taken_by more → IsTold file n events → IsTold file m (events ++ more)
told_more (Some bytes) n m events more is told = omega (arith, is, told, taken-append events more)
told_more None n m events more is told = tt

module _ {D O : Type 0} {d : Ghosts D} (o : Ghosts O) (options : Options) (file : Option (List ℕ)) (w : Supply) (taken : ℕ) (s t : Session D d) (a b : O) (p : Program) (events : List Event) (reps : Represents p events s)
    (supplied : IsSupplied file taken s.progress.machine.state.tables w) (told : IsTold file taken events) where
  abbrev u : Course
  u = course (schedule_of options) file

  nothing_added : IsByPlanFrom u p events (events ++ [])
  nothing_added = record { rest = []; is = refl; by_plan = tt }

  event_added : (e : Event) → next_event (schedule_of options) w.given s.progress.count s.progress.machine.state.tables ≡ Submit e → IsByPlanFrom u p events (events ++ e ∷ [])
  event_added e is =
      let given = subst (λ g. next_event (schedule_of options) g s.progress.count s.progress.machine.state.tables ≡ Submit e) supplied.given is in
      let at = subst (λ (q : State). next_event (schedule_of options) (given_in file taken q.tables) s.progress.count q.tables ≡ Submit e) reps.state given in
      let there = subst (λ n. next_event (schedule_of options) (given_in file taken (state_after p events).tables) n (state_after p events).tables ≡ Submit e) reps.count at in
      let next = subst (λ g. next_event (schedule_of options) g (length events) (state_after p events).tables ≡ Submit e) (told_given file taken events (state_after p events).tables told) there in
      record { rest = e ∷ []; is = refl; by_plan = (next, tt) }

  -- an event that is taken is the plan's next one
  pub step_by_plan : (r : Result StepDone DriveFault) → Steps o (aim_of options w (view_of s)) s t a b r → IsByPlanFrom (course (schedule_of options) file) p events (events ++ accepted_in r)
  step_by_plan (Ok (Submitted e answer)) h = event_added e (planned_event options w (view_of s) e answer h.done.0)
  step_by_plan (Ok Committed) h = nothing_added
  step_by_plan (Ok Checkpointed) h = nothing_added
  step_by_plan (Ok Released) h = nothing_added
  step_by_plan (Ok (Stopped ending)) h = nothing_added
  step_by_plan (Err fault) h = nothing_added

-- MANY DRIVES

not_enough : (b : Bool) (n : Next) (ending : ScheduleEnd) → (if b then End Enough else n) ≡ End ending → (ending ≡ Enough → ⊥) → n ≡ End ending
not_enough true n ending is other = let same : ending ≡ Enough = cc in absurd (other same)
not_enough false n ending is other = is

module _ {D O : Type 0} {d : Ghosts D} {o : Ghosts O} where
  pub list_by_plan : (u : Course) (first : List Event) (h : Past) (v : OneDrive d o) (k : Keeps h v) → IsBeginningOf first h.acknowledged → IsByPlanFrom u h.program first h.accepted → course_of v ≡ u → IsTold v.file v.first.taken k.opened → IsByPlanFrom u h.program first k.all
  list_by_plan u first h v k begins by_plan same told =
      let opened = by_plan_between u h.program first k.opened h.accepted (begins_through first h.acknowledged k.opened begins k.begins) k.within by_plan in
      by_plan_through u h.program first k.opened k.all opened (subst (λ q. IsByPlanFrom q h.program k.opened k.all) same (k.by_plan told))

  pub go_by_plan : (u : Course) (first : List Event) (h : Past) (v : OneDrive d o) (more : List (OneDrive d o)) → IsBeginningOf first h.acknowledged → IsByPlanFrom u h.program first h.accepted → AllOnCourse u (v ∷ more) → ComeBehind v more
      → (keep : AllKeep h (v ∷ more)) → AllTold h (v ∷ more) keep → AllByPlan u first h (v ∷ more) keep
  go_by_plan u first h v [] begins by_plan same behind keep told = (list_by_plan u first h v keep.0 begins by_plan same.0 told.0, tt)
  go_by_plan u first h v (w ∷ more) begins by_plan same behind keep told =
      let k = keep.0 in
      let all = list_by_plan u first h v k begins by_plan same.0 told.0 in
      let still = begins_through first h.acknowledged (take v.at.session.acknowledged k.all) begins (k.still v.at w.start w.first.output behind.0) in
      (all, go_by_plan u first (past_behind v k) w more still all same.1 behind.2 keep.1 told.1)

  pub end_unbroken : (first whole : List Event) (h : Past) (v : OneDrive d o) (k : Keeps h v) → IsByPlanFrom (course_of v) h.program first k.all → IsTold v.file v.first.taken k.opened → HasEnded v → IsUnbroken (course_of v) h.program first whole
      → (k.all ≡ whole) × HoldsOutput o 0 (length (output_after h.program whole)) (output_after h.program whole) v.last.output
  end_unbroken first whole h v k by_plan told ended unbroken =
      let u = course_of v in
      let s = v.last.session in
      let w = ended.over.supply in
      let reps = k.represents in
      let planned = not_enough (is_running s.progress.machine.state.tables.status && (w.left == 0)) (next_event u.schedule w.given s.progress.count s.progress.machine.state.tables) ended.ending ended.over.planned ended.other in
      let given = subst (λ g. next_event u.schedule g s.progress.count s.progress.machine.state.tables ≡ End ended.ending) ended.over.supplied.given planned in
      let at = subst (λ (q : State). next_event u.schedule (given_in v.file v.last.taken q.tables) s.progress.count q.tables ≡ End ended.ending) reps.state given in
      let there = subst (λ n. next_event u.schedule (given_in v.file v.last.taken (state_after h.program k.all).tables) n (state_after h.program k.all).tables ≡ End ended.ending) reps.count at in
      let over = subst (λ g. next_event u.schedule g (length k.all) (state_after h.program k.all).tables ≡ End ended.ending) (told_given v.file v.last.taken k.all (state_after h.program k.all).tables (k.taken told)) there in
      let same = unbroken_once u h.program first k.all whole (record { by_plan = by_plan; over = (ended.ending, over) }) unbroken in
      (same, subst (λ (l : List Event). HoldsOutput o 0 (length (output_after h.program l)) (output_after h.program l) v.last.output) same (k.whole ended.saved).0)
