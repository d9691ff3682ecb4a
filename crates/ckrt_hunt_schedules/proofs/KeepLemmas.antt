-- What a session takes of a run.
use Rattle.std.proofs.Common.{◌≡◌, ◌∙◌, true≢false, ℕ, Bool, true, false, if◌then◌else◌, Option, Some, None, List, [], ◌∷◌, ◌++◌, Result, Ok, Err, ap, sym, subst, refl, arith}
use Rattle.std.proofs.lemmas.List.{append-nil}
use Rattle.std.specs.Prelude.{IfErr, IfOk, OnErr, OnOk}
use Rattle.ckrt_disk.specs.declared.disk.Disk.{Ghosts}
use Rattle.ckrt_events.specs.declared.event.Event.{Event}
use Rattle.ckrt_machine.specs.Steps.{State}
use Rattle.ckrt_machine.specs.declared.event.Answer.{Answer}
use Rattle.ckrt_machine.specs.Events.{step}
use Rattle.ckrt_machine.proofs.Fixed.{same_harts}
use Rattle.ckrt_stored.specs.Programs.{Program}
use Rattle.ckrt_recovery.specs.declared.fault.SubmitFault.{SubmitFault}
use Rattle.ckrt_recovery.specs.declared.fault.SubmitFault.TheVariants as submit
use Rattle.ckrt_recovery.specs.declared.session.Session.{Session}
use Rattle.ckrt_recovery.specs.Represents.{Represents}
use Rattle.ckrt_recovery.specs.View.{View, view_of, refusal_of, refusal_when_running, after_event, committed, confirmed_to}
use Rattle.ckrt_recovery.specs.Accepts.{Accepts}
use Rattle.ckrt_recovery.proofs.AcceptLemmas.{accepts_kept, accepts_more, accepts_still}
use Rattle.ckrt_schedule.specs.declared.next.Next.TheVariants.{Submit, End}
use Rattle.ckrt_schedule.specs.declared.next.ScheduleEnd.{ScheduleEnd}
use Rattle.ckrt_hunt_schedules.specs.declared.keeping.KeepFault.{KeepFault}
use Rattle.ckrt_hunt_schedules.specs.declared.keeping.KeepFault.TheVariants.{Device, Refused}
use Rattle.ckrt_hunt_schedules.specs.declared.made.Made.{Made}
use Rattle.ckrt_hunt_schedules.specs.declared.plan.Plan.{Plan}
use Rattle.ckrt_hunt_schedules.specs.Plans.{made_with, nothing_made}
use Rattle.ckrt_hunt_schedules.specs.Runs.{Point, beginning, behind, next_at, on}
use Rattle.ckrt_hunt_schedules.specs.Turns.{next, runner_of}
use Rattle.ckrt_hunt_schedules.specs.Kept.{GoesOn, HasKept, IsEmptied, IsLeft, IsRefusedSo, IsTaken, IsWhy, IsWhyNotWhole, KeepsRun, commit_makes_room}
use Rattle.ckrt_hunt_schedules.proofs.RunLemmas.{behind_on, scheduled_on}

running : (b : Bool) (o : Option SubmitFault) → (if b then Some submit.Failed else o) ≡ None → b ≡ false
running true o e = absurd (cc)
running false o e = refl

module _ {D : Type 0} {g : Ghosts D} where
  -- an event that isn't refused is taken
  pub is_taken : (e : Event) (answer : Answer) (old new : Session D g) → answer ≡ (step e old.progress.machine.state).answer → refusal_of (view_of old) e ≡ None → view_of new ≡ after_event (view_of old) e → new.disk ≡ old.disk
      → ((p : Program) (events : List Event) → Represents p events old → Represents p (events ++ e ∷ []) new)
      → IsTaken e old new answer
  is_taken e answer old new is none view disk represents =
      let confirmed : new.progress.confirmed ≡ old.progress.confirmed = ap (λ (v : View). v.recovered.confirmed) view in
      let runs : old.failed ≡ false = running old.failed (refusal_when_running (view_of old) e) none in
      record {
        accepts = accepts_still (e ∷ []) old new disk (ap (λ (v : View). v.failed) view) (ap (λ (v : View). v.acknowledged) view) (omega (arith, confirmed)) (λ was. let no : true ≡ false = sym was ∙ runs in absurd (cc)) represents;
        state = ap (λ (v : View). v.recovered.state) view;
        answered = is;
      }

  -- behind calls that take no event
  pub taken_behind : (e : Event) (answer : Answer) (old mid new : Session D g) → Accepts [] old mid → mid.progress.machine ≡ old.progress.machine → IsTaken e mid new answer → IsTaken e old new answer
  taken_behind e answer old mid new first same taken =
      let states : mid.progress.machine.state ≡ old.progress.machine.state = ap (λ m. m.state) same in
      record {
        accepts = accepts_more [] (e ∷ []) old mid new first taken.accepts;
        state = taken.state ∙ ap (λ (s : State). (step e s).state) states;
        answered = taken.answered ∙ ap (λ (s : State). (step e s).answer) states;
      }

  -- a session that is as it was took no event
  pub still : (old new : Session D g) → new ≡ old → Accepts [] old new
  still old new same = accepts_kept old new (ap view_of same) (ap (λ (s : Session D g). s.disk) same)

  -- a commit acknowledges all, and what is confirmed then changes neither count
  pub all_saved : (old mid new : Session D g) (offset : ℕ) → view_of mid ≡ committed (view_of old) → view_of new ≡ confirmed_to (view_of mid) offset → new.acknowledged ≡ new.progress.count
  all_saved old mid new offset saved confirmed =
      let acknowledged : new.acknowledged ≡ old.progress.count = ap (λ (v : View). v.acknowledged) confirmed ∙ ap (λ (v : View). v.acknowledged) saved in
      let count : new.progress.count ≡ old.progress.count = ap (λ (v : View). v.recovered.count) confirmed ∙ ap (λ (v : View). v.recovered.count) saved in
      acknowledged ∙ sym count

  -- and no output is held then
  pub all_dropped : (mid new : Session D g) (offset : ℕ) → offset ≡ mid.released → view_of new ≡ confirmed_to (view_of mid) offset → new.progress.confirmed ≡ new.released
  all_dropped mid new offset all confirmed =
      let at : new.progress.confirmed ≡ offset = ap (λ (v : View). v.recovered.confirmed) confirmed in
      let released : new.released ≡ mid.released = ap (λ (v : View). v.released) confirmed in
      at ∙ all ∙ sym released

  -- the disk failed before the event was handed in
  pub left_unsaved : (e : Event) (why : KeepFault) (old new : Session D g) → why ≡ Device → Accepts [] old new → new.progress.machine ≡ old.progress.machine → new.failed ≡ true → IsLeft e old new why
  left_unsaved e why old new is accepts same failed = subst (λ (f : KeepFault). IsLeft e old new f) (sym is) (record { accepts = accepts; machine = same; reason = failed })

  -- it is refused so that a commit makes no room
  pub left_refused : (e : Event) (why : SubmitFault) (old new : Session D g) → commit_makes_room why ≡ false → new ≡ old → refusal_of (view_of old) e ≡ Some why → IsLeft e old new (Refused why)
  left_refused e why old new stays same refused = record {
    accepts = still old new same;
    machine = ap (λ (s : Session D g). s.progress.machine) same;
    reason = record {
      refused = ap (λ (s : Session D g). refusal_of (view_of s) e) same ∙ refused;
      emptied = λ makes. absurd (true≢false (sym makes ∙ stays));
    };
  }

  -- it is refused behind a commit
  pub left_behind : (e : Event) (why : SubmitFault) (old mid new : Session D g) → Accepts [] old mid → mid.progress.machine ≡ old.progress.machine → IsEmptied mid → new ≡ mid → refusal_of (view_of mid) e ≡ Some why → IsLeft e old new (Refused why)
  left_behind e why old mid new first same empty still_mid refused = record {
    accepts = accepts_more [] [] old mid new first (still mid new still_mid);
    machine = ap (λ (s : Session D g). s.progress.machine) still_mid ∙ same;
    reason = record {
      refused = ap (λ (s : Session D g). refusal_of (view_of s) e) still_mid ∙ refused;
      emptied = λ _. subst (λ (s : Session D g). IsEmptied s) (sym still_mid) empty;
    };
  }

  -- the run goes on by an event that is taken
  pub goes_on_by : (p : Plan) (e : Event) (old new : Session D g) (m m' : Made) (who : Option ℕ) (answer : Answer) → who ≡ runner_of e old.progress.machine.state.tables → m' ≡ made_with p who answer m → IsTaken e old new answer → GoesOn p e old new m m'
  goes_on_by p e old new m m' who answer w f taken =
      let s = old.progress.machine.state in
      let made : m' ≡ made_with p (runner_of e s.tables) (step e s).answer m = f ∙ ap (λ (o : Option ℕ). made_with p o answer m) w ∙ ap (λ (a : Answer). made_with p (runner_of e s.tables) a m) taken.answered in
      record {
        accepts = taken.accepts;
        point = ap (λ (n : Made). let x : Point = record { made = n; state = new.progress.machine.state } in x) made ∙ ap (λ (t : State). let x : Point = record { made = made_with p (runner_of e s.tables) (step e s).answer m; state = t } in x) taken.state;
      }

  -- which keeps the number of harts
  pub harts_on : (p : Plan) (e : Event) (old new : Session D g) (m m' : Made) → GoesOn p e old new m m' → new.progress.machine.state.tables.threads.hart_count ≡ old.progress.machine.state.tables.threads.hart_count
  harts_on p e old new m m' on_it = ap (λ (x : Point). x.state.tables.threads.hart_count) on_it.point ∙ same_harts e old.progress.machine.state

  -- the beginning of a run
  pub kept_nothing : (p : Plan) (s : Session D g) (m : Made) → m ≡ nothing_made → HasKept p s s m
  kept_nothing p s m e = record {
    events = [];
    scheduled = tt;
    accepts = still s s refl;
    point = ap (λ (n : Made). let x : Point = record { made = n; state = s.progress.machine.state } in x) e;
  }

  -- one event more
  pub kept_on : (p : Plan) (e : Event) (first old new : Session D g) (m m' : Made) → HasKept p first old m → next p m old.progress.machine.state.tables ≡ Submit e → GoesOn p e old new m m' → HasKept p first new m'
  kept_on p e first old new m m' h n on_it =
      let start = beginning first.progress.machine.state in
      record {
        events = h.events ++ e ∷ [];
        scheduled = scheduled_on p h.events e start h.scheduled (subst (λ (x : Point). next_at p x ≡ Submit e) h.point n);
        accepts = accepts_more h.events (e ∷ []) first old new h.accepts on_it.accepts;
        point = on_it.point ∙ ap (λ (x : Point). on p e x) h.point ∙ sym (behind_on p h.events e start);
      }

  no_more : (p : Plan) (first old new : Session D g) (m : Made) → (h : HasKept p first old m) → Accepts [] old new → Accepts h.events first new
  no_more p first old new m h last = subst (λ (es : List Event). Accepts es first new) (append-nil h.events) (accepts_more h.events [] first old new h.accepts last)

  -- a run that is kept whole
  pub kept_whole : (p : Plan) (first old new : Session D g) (m : Made) (ending : ScheduleEnd) → HasKept p first old m → next p m old.progress.machine.state.tables ≡ End ending → Accepts [] old new → new.acknowledged ≡ new.progress.count → KeepsRun p first new (Ok ending)
  kept_whole p first old new m ending h n last saved = record {
    events = h.events;
    scheduled = h.scheduled;
    accepts = no_more p first old new m h last;
    ended = subst (λ (x : Point). next_at p x ≡ End ending) h.point n;
    saved = saved;
    err = tt;
  }

  -- one whose next event isn't taken
  pub kept_up_to : (p : Plan) (e : Event) (first old new : Session D g) (m : Made) (why : KeepFault) → HasKept p first old m → next p m old.progress.machine.state.tables ≡ Submit e → IsLeft e old new why → KeepsRun p first new (Err why)
  kept_up_to p e first old new m why h n last = record {
    events = h.events;
    scheduled = h.scheduled;
    accepts = no_more p first old new m h last.accepts;
    ended = tt;
    saved = tt;
    err = because why last.reason;
  }
    where
      because : (why : KeepFault) → IsWhy e new why → IsWhyNotWhole p (behind p h.events (beginning first.progress.machine.state)) new why
      because Device w = w
      because (Refused fault) w = (e, subst (λ (x : Point). next_at p x ≡ Submit e) h.point n, w)

  -- one whose last commit fails
  pub kept_unsaved : (p : Plan) (first old new : Session D g) (m : Made) → HasKept p first old m → Accepts [] old new → new.failed ≡ true → KeepsRun p first new (Err Device)
  kept_unsaved p first old new m h last failed = record {
    events = h.events;
    scheduled = h.scheduled;
    accepts = no_more p first old new m h last;
    ended = tt;
    saved = tt;
    err = failed;
  }

  -- a run whose last commit answers so
  pub kept_to_end : (p : Plan) (first old new : Session D g) (m : Made) (ending : ScheduleEnd) (r : Result ScheduleEnd KeepFault) → HasKept p first old m → next p m old.progress.machine.state.tables ≡ End ending → Accepts [] old new → IfOk r (λ e. e ≡ ending) → OnOk r (new.acknowledged ≡ new.progress.count) → IfErr r (λ fault. fault ≡ Device) → OnErr r (new.failed ≡ true) → KeepsRun p first new r
  kept_to_end p first old new m ending (Ok e) h n last is saved device failed = subst (λ (e : ScheduleEnd). KeepsRun p first new (Ok e)) (sym is) (kept_whole p first old new m ending h n last saved)
  kept_to_end p first old new m ending (Err fault) h n last is saved device failed = subst (λ (f : KeepFault). KeepsRun p first new (Err f)) (sym device) (kept_unsaved p first old new m h last failed)
