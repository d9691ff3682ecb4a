-- A plan that comes to what a seed comes to.
use Rattle.std.proofs.Common.{◌≡◌, ◌∙◌, ◌≤◌, ◌+◌, ℕ, Option, List, [], ◌∷◌, length, ap, sym, subst, refl, arith}
use Rattle.ckrt_events.specs.declared.event.Event.{Event}
use Rattle.ckrt_machine.specs.Events.{step}
use Rattle.ckrt_machine.specs.Steps.{State}
use Rattle.ckrt_machine.specs.declared.event.Answer.{Answer}
use Rattle.ckrt_machine.specs.declared.event.Answer.TheVariants.{Placed, Ran, Taken, Closed, Ticked}
use Rattle.ckrt_hunt_schedules.specs.declared.made.Made.{Made}
use Rattle.ckrt_hunt_schedules.specs.declared.plan.Plan.{Plan}
use Rattle.ckrt_hunt_schedules.specs.declared.runs.Finished.{Finished}
use Rattle.ckrt_hunt_schedules.specs.declared.runs.Told.{Told}
use Rattle.ckrt_hunt_schedules.specs.Plans.{made_with}
use Rattle.ckrt_hunt_schedules.specs.Runs.{ComesTo, EndsWith, Point, beginning, behind, on}
use Rattle.ckrt_hunt_schedules.specs.Short.{HasSwitches, Repeats}
use Rattle.ckrt_hunt_schedules.specs.Tallies.{Hunted, plan_in}
use Rattle.ckrt_hunt_schedules.specs.Turns.{runner_of}
use Rattle.ckrt_hunt_schedules.proofs.RunLemmas.{same_events, same_told}

-- each event is counted
counted : (p : Plan) (who : Option ℕ) (a : Answer) (m : Made) → (made_with p who a m).events ≡ m.events + 1
counted p who (Ran n how) m = refl
counted p who (Ticked ended) m = refl
counted p who Placed m = refl
counted p who (Taken count) m = refl
counted p who Closed m = refl

all_counted : (p : Plan) (es : List Event) (x : Point) → (behind p es x).made.events ≡ x.made.events + length es
all_counted p [] x = omega arith
all_counted p (e ∷ es) x =
    let rest = all_counted p es (on p e x) in
    let one = counted p (runner_of e x.state.tables) (step e x.state).answer x.made in
    omega (arith, rest, one)

module _ (p : Plan) (start : State) where
  same : (a b : Told) (c : ComesTo p start a) (d : ComesTo p start b) → c.events ≡ d.events
  same a b c d = same_events p c.events d.events (beginning start) c.ending d.ending c.scheduled c.ended d.scheduled d.ended

  -- the events of any run by the plan are those that were counted
  events_of : (run : Finished) (other : Told) (e : EndsWith p start run) (c : ComesTo p start other) → run.made.events ≡ length c.events
  events_of run other e c =
      let es = e.comes.events in
      let its : run.made.events ≡ (behind p es (beginning start)).made.events = ap (λ (x : Made). x.events) e.has_made in
      let all : (behind p es (beginning start)).made.events ≡ 0 + length es = all_counted p es (beginning start) in
      let one : length es ≡ length c.events = ap (λ (es : List Event). length es) (same run.told other e.comes c) in
      omega (arith, its, all, one)

  pub switches_of : (run : Finished) → EndsWith p start run → HasSwitches p start run.made.switches
  switches_of run e = λ other c.
      ap (λ (es : List Event). (behind p es (beginning start)).made.switches) (same other run.told c e.comes) ∙ sym (ap (λ (x : Made). x.switches) e.has_made)

-- a run that comes to what the seed comes to, in no more events
pub repeats : (h : Hunted) (seed : ℕ) (p : Plan) (run other : Finished) → EndsWith (plan_in h seed) h.start run → EndsWith p h.start other → other.told ≡ run.told → other.made.events ≤ run.made.events → Repeats h seed p
repeats h seed p run other e f is few =
    let drawn = plan_in h seed in
    record {
      same = λ t c. subst (λ (u : Told). ComesTo p h.start u) (is ∙ same_told drawn h.start run.told t e.comes c) f.comes;
      few = λ t u a b.
          let ours = events_of p h.start other u f b in
          let its = events_of drawn h.start run t e a in
          omega (arith, ours, its, few);
    }

-- the seed itself
pub repeats_itself : (h : Hunted) (seed : ℕ) → Repeats h seed (plan_in h seed)
repeats_itself h seed =
    let drawn = plan_in h seed in
    record {
      same = λ t c. c;
      few = λ t u a b.
          let lengths : length b.events ≡ length a.events = ap (λ (es : List Event). length es) (same drawn h.start u t b a) in
          omega (arith, lengths);
    }
