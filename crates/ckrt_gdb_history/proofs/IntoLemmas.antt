-- A machine that has made some steps of an event.
use Rattle.std.proofs.Common.{◌≡◌, ◌≢◌, ℕ, ◌+◌, ◌-◌, ◌<◌, ◌≤◌, false, [], Option, Some, None, refl, ap, ◌∙◌, sym, subst, arith}
use Rattle.std.proofs.lemmas.Option.{some_pair_parts}
use Rattle.ckrt_events.specs.Bytes.{IsInRange}
use Rattle.ckrt_events.specs.declared.event.Event.{Event}
use Rattle.ckrt_events.specs.declared.event.Event.TheVariants.{Place, Run, Input, Eof, Tick, RunLong}
use Rattle.ckrt_machine.specs.declared.event.RunEnd.TheVariants.{On}
use Rattle.ckrt_memory.specs.Reasons.{Meets}
use Rattle.ckrt_machine.specs.Steps.{State}
use Rattle.ckrt_machine.specs.Runs.{Stepping, after_steps, run_on, stop_of}
use Rattle.ckrt_machine.specs.RunsTo.{meets_after, meets_on}
use Rattle.ckrt_machine.specs.Events.{Machine, step, refusal_of}
use Rattle.ckrt_gdb_history.specs.Positions.{into_run, run_in, steps_in, steps_of}
use Rattle.ckrt_gdb_history.specs.Engine.{IsInto}
use Rattle.ckrt_gdb_history.specs.Search.{meets_in}
use Rattle.ckrt_gdb_history.proofs.CutLemmas.{cut, more_steps, some_step}

-- EVENTS THAT ARE RUNS

none_made : (o : Option (ℕ × ℕ)) (s : State) → (into_run 0 o s).state ≡ s
none_made None s = refl
none_made (Some run) s = refl

pub ran : (e : Event) (h n : ℕ) (s : State) → run_in e ≡ Some (h, n) → (step e s).state ≡ (run_on n h s []).state
ran (Run i m) h n s is = (let same = some_pair_parts i h m n is in rw (same.0, same.1) refl)
ran (RunLong i m) h n s is = (let same = some_pair_parts i h m n is in rw (same.0, same.1) refl)
ran (Place i t) h n s is = absurd (cc)
ran (Input bytes) h n s is = absurd (cc)
ran Eof h n s is = absurd (cc)
ran (Tick t) h n s is = absurd (cc)

pub cut_in_range : (e : Event) (h n k : ℕ) → IsInRange e → run_in e ≡ Some (h, n) → 1 ≤ k → k < n → IsInRange (RunLong h k)
cut_in_range (Run i m) h n k range is some few = (let same = some_pair_parts i h m n is in let hart = same.0 in let most = same.1 in let a = range.0 in let b = range.2 in (omega (arith, a, hart), some, omega (arith, b, most, few)))
cut_in_range (RunLong i m) h n k range is some few = (let same = some_pair_parts i h m n is in let hart = same.0 in let most = same.1 in let a = range.0 in let b = range.2 in (omega (arith, a, hart), some, omega (arith, b, most, few)))
cut_in_range (Place i t) h n k range is some few = absurd (cc)
cut_in_range (Input bytes) h n k range is some few = absurd (cc)
cut_in_range Eof h n k range is some few = absurd (cc)
cut_in_range (Tick t) h n k range is some few = absurd (cc)

pub cut_accepted : (e : Event) (h n k : ℕ) (s : State) → refusal_of 0 e s ≡ None → run_in e ≡ Some (h, n) → refusal_of 0 (RunLong h k) s ≡ None
cut_accepted (Run i m) h n k s accepted is = (let hart = (some_pair_parts i h m n is).0 in subst (λ j. refusal_of 0 (RunLong j k) s ≡ None) hart accepted)
cut_accepted (RunLong i m) h n k s accepted is = (let hart = (some_pair_parts i h m n is).0 in subst (λ j. refusal_of 0 (RunLong j k) s ≡ None) hart accepted)
cut_accepted (Place i t) h n k s accepted is = absurd (cc)
cut_accepted (Input bytes) h n k s accepted is = absurd (cc)
cut_accepted Eof h n k s accepted is = absurd (cc)
cut_accepted (Tick t) h n k s accepted is = absurd (cc)

some_in : (e : Event) (s : State) → IsInRange e → 1 ≤ steps_of e s
some_in (Run h n) s range = some_step n h s [] range.1
some_in (RunLong h n) s range = some_step n h s [] range.1
some_in (Place h t) s range = omega arith
some_in (Input bytes) s range = omega arith
some_in Eof s range = omega arith
some_in (Tick t) s range = omega arith

-- an event is done in a step at least
pub some_steps : (e : Event) (s : State) → IsInRange e → 0 < steps_of e s
some_steps e s range = (let some = some_in e s range in omega (arith, some))

-- A MACHINE THAT IS INTO ONE

module _ (made : ℕ) (e : Event) (s : State) (m : Machine) (into : IsInto made e s m) where
  pub unmoved : made ≡ 0 → m.state ≡ s
  unmoved zero = into.state ∙ ap (λ k. (into_run k (run_in e) s).state) zero ∙ none_made (run_in e) s

  -- who has made a step runs
  pub runs : made ≢ 0 → run_in e ≡ None → ⊥
  runs some none =
      let few : made < steps_in None s = subst (λ o. made < steps_in o s) none into.few in
      some (omega (arith, few))

  module _ (h n : ℕ) (is : run_in e ≡ Some (h, n)) where
    few_made : made < n - (run_on n h s []).left
    few_made = subst (λ o. made < steps_in o s) is into.few

    pub fewer : made < n
    fewer = (let few = few_made in omega (arith, few))

    state_is : m.state ≡ (after_steps made h s []).state
    state_is = into.state ∙ ap (λ o. (into_run made o s).state) is

    output_is : 0 < made → m.output ≡ (after_steps made h s []).output
    output_is some = into.output some ∙ ap (λ o. (into_run made o s).output) is

    pub going : 0 < made → stop_of h m.state.tables m.output ≡ None
    going some = rw (state_is, output_is some) ((cut made n h s [] few_made).going (omega (arith, some)))

    -- the rest of the run
    pub rest : 0 < made → run_on (n - made) h m.state m.output ≡ run_on n h s []
    rest some = rw (state_is, output_is some) (sym (cut made n h s [] few_made).whole)

    -- gone on with by so many steps
    module _ (begun : 0 < made) (j : ℕ) where
      pub gone_on : after_steps j h m.state m.output ≡ after_steps (made + j) h s []
      gone_on = rw (state_is, output_is begun) (more_steps j made h s [])

      pub on : made + j < steps_of e s → (new : Machine) → new.state ≡ (after_steps j h m.state m.output).state → new.output ≡ (after_steps j h m.state m.output).output → IsInto (made + j) e s new
      on few new state output = record {
        accepted = into.accepted;
        few = few;
        state = state ∙ ap (λ (r : Stepping). r.state) gone_on ∙ ap (λ o. (into_run (made + j) o s).state) (sym is);
        output = λ _. output ∙ ap (λ (r : Stepping). r.output) gone_on ∙ ap (λ o. (into_run (made + j) o s).output) (sym is);
      }

      pub not_met : (meets : Meets) → meets_after meets j h m.state m.output ≡ false → meets_in meets (run_in e) (into_run (made + j) (run_in e) s).state ≡ false
      not_met meets not =
          subst (λ o. meets_in meets o (into_run (made + j) o s).state ≡ false) (sym is)
          (subst (λ (r : Stepping). meets_on meets h r.state ≡ false) gone_on not)

    -- more steps, and not all
    module _ (k : ℕ) (some : made < k) (more : k < steps_of e s) where
      more_few : k < n - (run_on n h s []).left
      more_few = subst (λ o. k < steps_in o s) is more

      pub more_fewer : k < n
      more_fewer = (let few = more_few in omega (arith, few))

      part : run_on k h s [] ≡ record { left = 0; how = On; state = (after_steps k h s []).state; output = (after_steps k h s []).output }
      part = (cut k n h s [] more_few).part

      pub further : (new : Machine) → new.state ≡ (run_on k h s []).state → new.output ≡ (run_on k h s []).output → IsInto k e s new
      further new state output = record {
        accepted = into.accepted;
        few = more;
        state = state ∙ ap (λ r. r.state) part ∙ ap (λ o. (into_run k o s).state) (sym is);
        output = λ _. output ∙ ap (λ r. r.output) part ∙ ap (λ o. (into_run k o s).output) (sym is);
      }

      -- gone on with from here
      pub between : 0 < made → run_on (k - made) h m.state m.output ≡ run_on k h s []
      between begun =
          let none : (run_on k h s []).left ≡ 0 = ap (λ r. r.left) part in
          rw (state_is, output_is begun) (sym (cut made k h s [] (omega (arith, none, some))).whole)
