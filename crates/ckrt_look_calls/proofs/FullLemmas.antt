-- A room that is used up stays so.
use Rattle.std.proofs.Common.{◌≡◌, ℕ, zero, suc, ◌+◌, Bool, true, List, [], ◌∷◌, Option, None, Some}
use Rattle.ckrt_events.specs.declared.event.Event.{Event}
use Rattle.ckrt_events.specs.declared.event.Event.TheVariants.{Place as Placing, Run, Input, Eof, Tick, RunLong}
use Rattle.ckrt_machine.specs.Events as machine
use Rattle.ckrt_machine.specs.declared.event.RunEnd.{RunEnd}
use Rattle.ckrt_machine.specs.Runs.{Stepping, stop_of}
use Rattle.ckrt_machine.specs.Steps.{State, hart_step}
use Rattle.ckrt_look_calls.specs.Events.{at}
use Rattle.ckrt_look_calls.specs.declared.lines.Place.{Place}
use Rattle.ckrt_look_calls.specs.Walks.{after_event, after_events, after_run, begun, next, stepped, unless_ended}

full_in_run : {A : Type 0} (f : Place → ℕ → State → A → A) (full : A → Bool) (stays : (p : Place) (h : ℕ) (s : State) (w : A) → full w ≡ true → full (f p h s w) ≡ true)
    (n h : ℕ) (p : Place) (r : Stepping) (w : A) → full w ≡ true → full (after_run f n h p r w) ≡ true
full_in_run f full stays zero h p r w is = is
full_in_run f full stays (suc n) h p r w is =
    let new = stepped r.output (hart_step h r.state) in let now = stays p h r.state w is in
    go (stop_of h new.state.tables new.output) (f p h r.state w) (after_run f n h (next p) new (f p h r.state w)) now
    (full_in_run f full stays n h (next p) new (f p h r.state w) now)
  where
    go : (o : Option RunEnd) (v more : _) → full v ≡ true → full more ≡ true → full (unless_ended o v more) ≡ true
    go None v more now later = later
    go (Some how) v more now later = now

pub full_in_event : {A : Type 0} (f : Place → ℕ → State → A → A) (full : A → Bool) (stays : (p : Place) (h : ℕ) (s : State) (w : A) → full w ≡ true → full (f p h s w) ≡ true)
    (k : ℕ) (e : Event) (s : State) (w : A) → full w ≡ true → full (after_event f k e s w) ≡ true
full_in_event f full stays k (Run h n) s w is = full_in_run f full stays n h (at k 0) (begun s) w is
full_in_event f full stays k (RunLong h n) s w is = full_in_run f full stays n h (at k 0) (begun s) w is
full_in_event f full stays k (Placing h t) s w is = is
full_in_event f full stays k (Input bytes) s w is = is
full_in_event f full stays k Eof s w is = is
full_in_event f full stays k (Tick n) s w is = is

pub full_stays : {A : Type 0} (f : Place → ℕ → State → A → A) (full : A → Bool) (stays : (p : Place) (h : ℕ) (s : State) (w : A) → full w ≡ true → full (f p h s w) ≡ true)
    (k : ℕ) (es : List Event) (s : State) (w : A) → full w ≡ true → full (after_events f k es s w) ≡ true
full_stays f full stays k [] s w is = is
full_stays f full stays k (e ∷ es) s w is =
    full_stays f full stays (k + 1) es (machine.step e s).state (after_event f k e s w) (full_in_event f full stays k e s w is)
