-- Runs go on event by event, and a look notes each.
use Rattle.std.proofs.Common.{◌≡◌, ◌≤◌, ◌∙◌, ℕ, ◌+◌, Option, List, [], ◌∷◌, ◌++◌, length, ap, sym, subst, refl, arith}
use Rattle.std.proofs.lemmas.List.{length-append}
use Rattle.ckrt_events.specs.declared.event.Event.{Event}
use Rattle.ckrt_machine.specs.declared.event.Answer.{Answer}
use Rattle.ckrt_machine.specs.declared.event.Answer.TheVariants.{Placed, Ran, Taken, Closed, Ticked}
use Rattle.ckrt_memory.proofs.FollowLemmas.{follows_on}
use Rattle.ckrt_machine.specs.Events.{After, IsAccepted, Machine, fold, step}
use Rattle.ckrt_machine.specs.Steps.{State}
use Rattle.ckrt_machine.proofs.FoldLaws.{accepted_on, state_on}
use Rattle.ckrt_schedule.specs.declared.next.Next.TheVariants.{Submit, End}
use Rattle.ckrt_schedule.specs.declared.next.ScheduleEnd.{ScheduleEnd}
use Rattle.ckrt_hunt_schedules.specs.declared.made.Made.{Made}
use Rattle.ckrt_hunt_schedules.specs.declared.plan.Plan.{Plan}
use Rattle.ckrt_hunt_schedules.specs.Plans.{made_with, nothing_made}
use Rattle.ckrt_hunt_schedules.specs.Runs.{Point, beginning, next_at, on}
use Rattle.ckrt_hunt_schedules.specs.Turns.{next, runner_of}
use Rattle.ckrt_hunt_schedules.proofs.RunLemmas.{behind_on, scheduled_on}
use Rattle.ckrt_hunt_looks.specs.Looks.{Looking, noted_by}
use Rattle.ckrt_hunt_looks.specs.Walks.{HasGoneOn, HasSeen, Sees, at_point}

-- one event more
pub noted_more : {L T : Type 0} (k : Looking L T) (n : ℕ) (es : List Event) (e : Event) (s : State) (l : L) → noted_by k n (es ++ e ∷ []) s l ≡ k.noted (n + length es) e (fold es s).state (noted_by k n es s l)
noted_more k n [] e s l =
    let none : n ≡ n + 0 = omega arith in
    ap (λ m. k.noted m e s l) none
noted_more k n (f ∷ es) e s l =
    let all : n + 1 + length es ≡ n + length (f ∷ es) = omega arith in
    let t = (step f s).state in
    noted_more k (n + 1) es e t (k.noted n f s l)
    ∙ ap (λ m. k.noted m e (fold es t).state (noted_by k (n + 1) es t (k.noted n f s l))) all

-- WHAT A RUN HAS MADE counts its events

pub counted : (p : Plan) (who : Option ℕ) (a : Answer) (m : Made) → (made_with p who a m).events ≡ m.events + 1
counted p who (Ran n how) m = refl
counted p who (Ticked ended) m = refl
counted p who Placed m = refl
counted p who (Taken count) m = refl
counted p who Closed m = refl

-- and of its turns no more
pub turns_within : (p : Plan) (who : Option ℕ) (a : Answer) (m : Made) → m.turns ≤ m.events → (made_with p who a m).turns ≤ (made_with p who a m).events
turns_within p who (Ran n how) m l = omega arith
turns_within p who (Ticked ended) m l = omega arith
turns_within p who Placed m l = omega arith
turns_within p who (Taken count) m l = omega arith
turns_within p who Closed m l = omega arith

one_longer : (es : List Event) (e : Event) → length (es ++ e ∷ []) ≡ length es + 1
one_longer es e = length-append es (e ∷ [])

-- one event more
pub gone_further : (a b c : Machine) → HasGoneOn a b → HasGoneOn b c → HasGoneOn a c
gone_further a b c first second = record { harts = second.harts ∙ first.harts; follows = follows_on _ _ _ first.follows second.follows }

-- a run that begins
pub seen_first : {L T : Type 0} (k : Looking L T) (p : Plan) (s : State) (l : L) → HasSeen k p s l (at_point nothing_made s) l
seen_first k p s l = record {
  events = [];
  scheduled = tt;
  accepted = tt;
  point = refl;
  folded = refl;
  count = refl;
  noted = refl;
}

-- one event on
pub seen_next : {L T : Type 0} (k : Looking L T) (p : Plan) (start : State) (f : L) (m : Made) (s : State) (e : Event) (l : L) → HasSeen k p start f (at_point m s) l → next p m s.tables ≡ Submit e → IsAccepted e s
    → HasSeen k p start f (at_point (made_with p (runner_of e s.tables) (step e s).answer m) (step e s).state) (k.noted m.events e s l)
seen_next k p start f m s e l h n a =
    let es = h.events in
    let before = noted_by k 0 es start f in
    let count : m.events ≡ 0 + length es = omega (arith, h.count) in
    record {
      events = es ++ e ∷ [];
      scheduled = scheduled_on p es e (beginning start) h.scheduled (subst (λ (x : Point). next_at p x ≡ Submit e) h.point n);
      accepted = accepted_on es e start h.accepted (subst (λ (t : State). IsAccepted e t) h.folded a);
      point = ap (λ (x : Point). on p e x) h.point ∙ sym (behind_on p es e (beginning start));
      folded = ap (λ (t : State). (step e t).state) h.folded ∙ sym (state_on es e start);
      count = counted p (runner_of e s.tables) (step e s).answer m ∙ ap (λ j. j + 1) h.count ∙ sym (one_longer es e);
      noted = ap (λ v. k.noted m.events e s v) h.noted
          ∙ ap (λ j. k.noted j e s before) count
          ∙ ap (λ (t : State). k.noted (0 + length es) e t before) h.folded
          ∙ sym (noted_more k 0 es e start f);
    }

-- the same of what the code has at hand
pub seen_on : {L T : Type 0} (k : Looking L T) (p : Plan) (start : State) (f : L) (m m' : Made) (s s' : State) (e : Event) (who : Option ℕ) (answer : Answer) (out : List ℕ) (l l' : L) → who ≡ runner_of e s.tables → m' ≡ made_with p who answer m
    → (let a : After = record { state = s'; answer = answer; output = out } in a) ≡ step e s → next p m s.tables ≡ Submit e → IsAccepted e s → l' ≡ k.noted m.events e s l
    → HasSeen k p start f (at_point m s) l → HasSeen k p start f (at_point m' s') l'
seen_on k p start f m m' s s' e who answer out l l' is made_is r n a noted h =
    let answers : answer ≡ (step e s).answer = ap (λ (a : After). a.answer) r in
    let states : s' ≡ (step e s).state = ap (λ (a : After). a.state) r in
    let made : m' ≡ made_with p (runner_of e s.tables) (step e s).answer m = made_is ∙ ap (λ (o : Option ℕ). made_with p o answer m) is ∙ ap (λ (b : Answer). made_with p (runner_of e s.tables) b m) answers in
    rw (made, states, noted) (seen_next k p start f m s e l h n a)

-- a run that has come to its end
pub sees : {L T : Type 0} (k : Looking L T) (p : Plan) (start : State) (f : L) (m : Made) (s : State) (l : L) (ending : ScheduleEnd) → HasSeen k p start f (at_point m s) l → next p m s.tables ≡ End ending → Sees k p start f l
sees k p start f m s l ending h n = record {
  run = record {
    events = h.events;
    ending = ending;
    scheduled = h.scheduled;
    ended = subst (λ (x : Point). next_at p x ≡ End ending) h.point n;
    accepted = h.accepted;
  };
  noted = h.noted;
}
