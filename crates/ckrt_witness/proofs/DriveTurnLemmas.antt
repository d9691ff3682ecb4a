-- Drives without an input, and the turns of their threads.
use Rattle.std.proofs.Common.{◌≡◌, ◌∙◌, ℕ, ◌≤◌, ◌+◌, Bool, true, false, cond, Option, Some, None, List, [], ◌∷◌, ◌++◌, length, refl, sym, ap, subst, arith, append-nil}
use Rattle.std.proofs.lemmas.Bool.Decides.{nat_tests}
use Rattle.std.specs.Prelude.{◌==◌, ◌*◌, IfSome, nat_le}
use Rattle.ckrt_disk.specs.Disk.{IsImage}
use Rattle.ckrt_disk.specs.declared.disk.Disk.{Ghosts}
use Rattle.ckrt_stored.specs.Layout.{is_valid}
use Rattle.ckrt_stored.specs.declared.config.Config.{Config}
use Rattle.ckrt_events.specs.Bytes.{RUN_LIMIT}
use Rattle.ckrt_events.specs.declared.event.Event.{Event}
use Rattle.ckrt_events.specs.declared.event.Event.TheVariants.{Tick}
use Rattle.ckrt_machine.specs.Runs.{is_running}
use Rattle.ckrt_machine.specs.Steps.{State}
use Rattle.ckrt_calls.specs.declared.table.Tables.{Tables}
use Rattle.ckrt_thread.specs.State.{is_ready}
use Rattle.ckrt_schedule.specs.Schedules.{chosen, earliest_deadline, event_at, idle_until, next_by, next_event, next_sought, of_runner, on_hart, run_by, runner_at, ticks_to, turn_at}
use Rattle.ckrt_schedule.specs.Turns.{given_among, is_given, turns_within}
use Rattle.ckrt_schedule.specs.declared.next.Next.TheVariants.{Submit}
use Rattle.ckrt_schedule.specs.declared.schedule.Schedule.{Schedule}
use Rattle.ckrt_schedule.specs.declared.schedule.Sought.TheVariants.{Busy}
use Rattle.ckrt_schedule.specs.declared.schedule.Turn.{Turn}
use Rattle.ckrt_schedule.proofs.TurnLemmas.{of_running, same_event}
use Rattle.ckrt_recovery.specs.Recovered.{IsRecovered}
use Rattle.ckrt_drive.specs.Plan.{schedule_of}
use Rattle.ckrt_drive.specs.Stages.{Stage, stage}
use Rattle.ckrt_drive.specs.declared.options.Options.{Options}
use Rattle.ckrt_drive.proofs.LeftLemmas.{starts_formatted}
use Rattle.ckrt_drive.specs.ByPlan.{AreByPlan, Course, IsByPlanFrom, course}
use Rattle.ckrt_drive.specs.Drives.{ComeBehind, IsTold, Keeps, OneDrive, StopLeaves, course_of}
use Rattle.ckrt_drive.specs.Theorem.{Begin, ManyDrives}
use Rattle.ckrt_drive.specs.Together.{IsLeftSince, StandsFed, past}
use Rattle.ckrt_recovery.specs.Represents.{Represents}
use Rattle.ckrt_recovery.specs.declared.session.Session.{Session}
use Rattle.ckrt_stored.specs.Programs.{Program, RecoversToStart, state_after}
use Rattle.ckrt_witness.specs.DriveTurns.{DriveTurnsWitness, DroveAlone, DroveTurns}
use Rattle.ckrt_witness.specs.Drives.{Went}
use Rattle.ckrt_witness.proofs.WitnessLemmas.{again, only_image, stop_at_end}

-- WITHOUT AN INPUT no event is of one

run_is_own : (b : Bool) (e f : Event) → is_given e ≡ false → is_given f ≡ false → is_given (cond b e f) ≡ false
run_is_own true e f is are = is
run_is_own false e f is are = are

own_run : (h n : ℕ) → is_given (run_by h n) ≡ false
own_run h n = run_is_own (nat_le n RUN_LIMIT) _ _ refl refl

own_on_hart : (who : Option ℕ) (h n : ℕ) → is_given (on_hart who h n) ≡ false
own_on_hart None h n = own_run h n
own_on_hart (Some t) h n = refl

own_runner : (runner : Option ℕ) (turn : Turn) (least : ℕ) (s : Tables) → is_given (of_runner runner turn least s) ≡ false
own_runner None turn least s = own_on_hart (chosen turn _ s) _ turn.steps
own_runner (Some h) turn least s = own_run h turn.steps

own_event : (turn : Turn) (least : ℕ) (s : Tables) → is_given (event_at turn least s) ≡ false
own_event turn least s = run_is_own (turn.place == 2 * s.threads.hart_count) (Tick 1) (of_runner (runner_at turn s) turn least s) refl (own_runner (runner_at turn s) turn least s)

own_idle : (deadline : Option ℕ) (s : Tables) (e : Event) → idle_until deadline s ≡ Submit e → is_given e ≡ false
own_idle None s e h = absurd (cc)
own_idle (Some d) s e h = subst (λ (x : Event). is_given x ≡ false) (same_event (Tick (ticks_to d s.clock)) e h) refl

own_next : (least : Option ℕ) (turn : Turn) (s : Tables) (e : Event) → next_by least turn s ≡ Submit e → is_given e ≡ false
own_next None turn s e h = own_idle (earliest_deadline s.threads.waits) s e h
own_next (Some l) turn s e h = subst (λ (x : Event). is_given x ≡ false) (same_event (event_at turn l s) e h) (own_event turn l s)

scheduled_own : (u : Schedule) (n : ℕ) (s : Tables) (e : Event) → next_event u None n s ≡ Submit e → is_given e ≡ false
scheduled_own u n s e h = own_next (next_sought Busy 0 s) (turn_at u n s) s e (of_running (is_running s.status) (next_by (next_sought Busy 0 s) (turn_at u n s) s) e h).1

none_more : (b : Bool) (n : ℕ) → b ≡ false → n ≡ 0 → cond b 1 0 + n ≡ 0
none_more true n is none = absurd (cc)
none_more false n is none = omega (arith, none)

none_given : (u : Course) (p : Program) (behind es : List Event) → u.file ≡ None → AreByPlan u p behind es → given_among es ≡ 0
none_given u p behind [] unfed h = refl
none_given u p behind (e ∷ es) unfed h =
    let next = subst (λ (f : Option (List ℕ)). AreByPlan (record { schedule = u.schedule; file = f }) p behind (e ∷ es)) unfed h in
    none_more (is_given e) (given_among es) (scheduled_own u.schedule (length behind) (state_after p behind).tables e next.0) (none_given u p (behind ++ e ∷ []) es unfed h.1)

-- THE FIRST DRIVE

front_empty : (front rest : List Event) → [] ≡ front ++ rest → front ≡ []
front_empty [] rest is = refl
front_empty (e ∷ front) rest is = absurd (cc)

if_none : {T : Type 0} (o : Option T) (P : T → Type 0) → o ≡ None → IfSome o P
if_none None P is = tt
if_none (Some x) P is = absurd (cc)

told_of_none : (file : Option (List ℕ)) (taken : ℕ) (es : List Event) → file ≡ None → IsTold file taken es
told_of_none None taken es is = tt
told_of_none (Some bytes) taken es is = absurd (cc)

some_harts : (c : Config) → is_valid c ≡ true → 1 ≤ c.harts
some_harts c valid = grind (arith, nat_tests, valid)

fed_of_none : {D : Type 0} (d : Ghosts D) (file : Option (List ℕ)) (h : _) (disk : D) → file ≡ None → StandsFed d file h disk
fed_of_none d None h disk is = tt
fed_of_none d (Some bytes) h disk is = absurd (cc)

module _ {D O : Type 0} (d : Ghosts D) (o : Ghosts O) (counts : (disk : D) (t : ℕ) (image : List ℕ) → d.is_honest disk → t ≤ d.moment disk → IsImage (d.content disk) (d.pending disk) image → d.left_since disk t image)
    (reads : (disk : D) → d.is_honest disk → IsImage (d.content disk) (d.pending disk) (d.content disk))
    (output_counts : (disk : O) (t : ℕ) (image : List ℕ) → o.is_honest disk → t ≤ o.moment disk → IsImage (o.content disk) (o.pending disk) image → o.left_since disk t image)
    (output_reads : (disk : O) → o.is_honest disk → IsImage (o.content disk) (o.pending disk) (o.content disk))
    (many : ManyDrives d o) (p : Program) (t : DroveTurns d o p) where
  abbrev v : OneDrive d o
  v = t.one.drive

  abbrev w : OneDrive d o
  w = t.other.drive

  begin : Begin d o p v.start v.first.output
  begin = record {
    formatted = subst (λ (q : D). (image : List ℕ) → IsImage (d.content q) (d.pending q) image → RecoversToStart p image) (sym t.one.begins)
        (λ image may. subst (λ (l : List ℕ). RecoversToStart p l) (sym (only_image d t.start image t.settled may)) t.formatted);
    durable = subst (λ (q : O). (i : ℕ) → ¬ o.pending q i) (sym t.one.opens) t.durable;
  }

  stopped : StopLeaves v.stages v.first v.at w.start w.first.output
  stopped =
      let disk_left : IsLeftSince d t.end t.end t.next = again d counts reads t.end t.next t.disk_again in
      let output_left : IsLeftSince o t.left t.left t.opened = again o output_counts output_reads t.left t.opened t.output_again in
      let disk : IsLeftSince d v.last.session.disk v.last.session.disk w.start = subst (λ (q : D). IsLeftSince d v.last.session.disk v.last.session.disk q) (sym t.other.begins) (subst (λ (q : D). IsLeftSince d q q t.next) (sym t.one.ends) disk_left) in
      let out : IsLeftSince o v.last.output v.last.output w.first.output = subst (λ (q : O). IsLeftSince o v.last.output v.last.output q) (sym t.other.opens) (subst (λ (q : O). IsLeftSince o q q t.opened) (sym t.one.leaves) output_left) in
      subst (λ (q : Stage d o). StopLeaves v.stages v.first q w.start w.first.output) (sym t.one.stops) (stop_at_end d o v.options v.stages v.first v.last w.start w.first.output t.one.is.goes disk out)

  begun : Represents p [] v.first.session
  begun =
      let start : RecoversToStart p (d.content v.start) = subst (λ (q : D). RecoversToStart p (d.content q)) (sym t.one.begins) t.formatted in
      t.one.is.recovered.represents (t.honest v.first.session.disk) p [] 0 (starts_formatted p (d.content v.start) start)

  -- no event of the first one is of an input
  unfed : (k : Keeps (past p (o.content v.first.output) [] []) v) → given_among k.all ≡ 0
  unfed k =
      let by : IsByPlanFrom (course_of v) p k.opened k.all = k.by_plan (told_of_none v.file v.first.taken k.opened t.one.unfed) in
      let none : given_among by.rest ≡ 0 = none_given (course_of v) p k.opened by.rest t.one.unfed by.by_plan in
      let front : k.opened ≡ [] = front_empty k.opened k.within.0 k.within.1 in
      subst (λ (l : List Event). given_among l ≡ 0) (sym (by.is ∙ ap (λ (l : List Event). l ++ by.rest) front)) none

  pub turns_met : DriveTurnsWitness d o
  turns_met =
      let behind : ComeBehind v (w ∷ []) = (stopped, t.other.is, tt) in
      let keep = many p v (w ∷ []) begin t.one.is behind in
      let file : t.course.file ≡ None = ap (λ (u : Course). u.file) (sym t.one.on) ∙ t.one.unfed in
      let events = keep.0.all in
      let count : v.last.session.progress.count ≡ length events = keep.0.represents.count in
      let harts : v.first.session.progress.config ≡ p.config = begun.config in
      let long : turns_within p.config.harts 0 ≤ length events = subst (λ (c : Config). turns_within c.harts 0 ≤ length events) harts (subst (λ n. turns_within v.first.session.progress.config.harts 0 ≤ n) count t.turns.many) in
      record {
        course = t.course;
        past = past p (o.content v.first.output) [] [];
        first = v;
        second = w;
        some_harts = subst (λ (c : Config). 1 ≤ c.harts) harts (some_harts v.first.session.progress.config v.first.session.progress.valid);
        begins = ([], refl);
        by_plan = record { rest = []; is = refl; by_plan = tt };
        on_course = (t.one.on, (t.other.on, tt));
        fed = fed_of_none d t.course.file (past p (o.content v.first.output) [] []) v.start file;
        told = (if_none v.file _ t.one.unfed, (if_none w.file _ t.other.unfed, tt));
        behind = behind;
        keep = keep;
        window = record { before = []; events = events; behind = [] };
        has = record { is = sym (append-nil events); begins = ([], refl) };
        ready = subst (λ (s : State). is_ready s.tables.threads 1 ≡ true) begun.state t.turns.ready;
        many = subst (λ n. turns_within p.config.harts n ≤ length events) (sym (unfed keep.0)) long;
      }

-- ONE DRIVE

abbrev pub drove_alone : {D O : Type 0} (d : Ghosts D) (o : Ghosts O) (disk : D) (output : O) (options : Options) (s t : Session D d) (a : O) → IsRecovered d disk s → Went options (Unit {0}) None (stage o options.events 0 s output) t a
    → d.is_honest t.disk → o.is_honest a → DroveAlone d o (course (schedule_of options) None) disk output t.disk a
drove_alone d o disk output options s t a recovered went honest whole = record {
  drive = record {
    start = disk;
    options = options;
    file = None;
    first = stage o options.events 0 s output;
    stages = went.steps.stages;
    last = stage o went.left went.taken t a;
    at = stage o went.left went.taken t a;
  };
  is = record {
    recovered = recovered;
    goes = went.steps.goes;
    supplied = went.steps.supplied tt;
    honest = honest;
    output_honest = whole;
  };
  begins = refl;
  opens = refl;
  unfed = refl;
  on = refl;
  stops = refl;
  ends = refl;
  leaves = refl;
}
