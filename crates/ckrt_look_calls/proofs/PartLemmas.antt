-- What looks at steps beside something else comes to what it would come to alone.
use Rattle.std.proofs.Common.{◌≡◌, ◌∙◌, ℕ, zero, suc, ◌+◌, List, [], ◌∷◌, Option, None, Some, ap, refl}
use Rattle.ckrt_events.specs.declared.event.Event.{Event}
use Rattle.ckrt_events.specs.declared.event.Event.TheVariants.{Place as Placing, Run, Input, Eof, Tick, RunLong}
use Rattle.ckrt_machine.specs.Events as machine
use Rattle.ckrt_machine.specs.declared.event.RunEnd.{RunEnd}
use Rattle.ckrt_machine.specs.Runs.{Stepping, stop_of}
use Rattle.ckrt_machine.specs.Steps.{State, hart_step}
use Rattle.ckrt_look_calls.specs.Events.{at}
use Rattle.ckrt_look_calls.specs.declared.lines.Place.{Place}
use Rattle.ckrt_look_calls.specs.Walks.{after_event, after_events, after_run, begun, next, stepped, unless_ended}

-- a part of what both come to, where each step keeps it so
run_alone : {A B : Type 0} (both : Place → ℕ → State → B → B) (f : Place → ℕ → State → A → A) (part : B → A)
    (keeps : (p : Place) (h : ℕ) (s : State) (b : B) → part (both p h s b) ≡ f p h s (part b))
    (n h : ℕ) (p : Place) (r : Stepping) (b : B) → part (after_run both n h p r b) ≡ after_run f n h p r (part b)
run_alone both f part keeps zero h p r b = refl
run_alone both f part keeps (suc n) h p r b =
    let new = stepped r.output (hart_step h r.state) in let now = both p h r.state b in
    go (stop_of h new.state.tables new.output) now (after_run both n h (next p) new now) (after_run f n h (next p) new (part now)) (run_alone both f part keeps n h (next p) new now)
    ∙ ap (λ a. unless_ended (stop_of h new.state.tables new.output) a (after_run f n h (next p) new a)) (keeps p h r.state b)
  where
    go : (o : Option RunEnd) (v more : _) (rest : _) → part more ≡ rest → part (unless_ended o v more) ≡ unless_ended o (part v) rest
    go None v more rest is = is
    go (Some how) v more rest is = refl

event_alone : {A B : Type 0} (both : Place → ℕ → State → B → B) (f : Place → ℕ → State → A → A) (part : B → A)
    (keeps : (p : Place) (h : ℕ) (s : State) (b : B) → part (both p h s b) ≡ f p h s (part b))
    (k : ℕ) (e : Event) (s : State) (b : B) → part (after_event both k e s b) ≡ after_event f k e s (part b)
event_alone both f part keeps k (Run h n) s b = run_alone both f part keeps n h (at k 0) (begun s) b
event_alone both f part keeps k (RunLong h n) s b = run_alone both f part keeps n h (at k 0) (begun s) b
event_alone both f part keeps k (Placing h t) s b = refl
event_alone both f part keeps k (Input bytes) s b = refl
event_alone both f part keeps k Eof s b = refl
event_alone both f part keeps k (Tick n) s b = refl

pub events_alone : {A B : Type 0} (both : Place → ℕ → State → B → B) (f : Place → ℕ → State → A → A) (part : B → A)
    (keeps : (p : Place) (h : ℕ) (s : State) (b : B) → part (both p h s b) ≡ f p h s (part b))
    (k : ℕ) (es : List Event) (s : State) (b : B) → part (after_events both k es s b) ≡ after_events f k es s (part b)
events_alone both f part keeps k [] s b = refl
events_alone both f part keeps k (e ∷ es) s b =
    events_alone both f part keeps (k + 1) es (machine.step e s).state (after_event both k e s b)
    ∙ ap (λ a. after_events f (k + 1) es (machine.step e s).state a) (event_alone both f part keeps k e s b)
