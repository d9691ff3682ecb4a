-- A thread stays on its hart up to its next call: so none of these steps is another one's.
use Rattle.std.proofs.Common.{◌≡◌, ◌≢◌, ℕ, suc, ◌+◌, ◌-◌, ◌<◌, ◌≤◌, ◌==◌, Bool, true, false, List, [], ◌∷◌, Option, Some, None, drop, slice_get, refl, sym, ap, ◌∙◌, subst, arith, inr}
use Rattle.std.proofs.lemmas.Bool.Decides.{nat_tests}
use Rattle.std.specs.Option.{option_map}
use Rattle.ckrt_registers.specs.Registers.{Registers}
use Rattle.ckrt_thread.specs.State.{regs_of, thread_of}
use Rattle.ckrt_events.specs.declared.event.Event.{Event}
use Rattle.ckrt_memory.specs.Reasons.{Meets}
use Rattle.ckrt_machine.specs.Steps.{State, hart_of}
use Rattle.ckrt_machine.specs.Runs.{Stepping}
use Rattle.ckrt_machine.specs.RunsTo.{meets_after, meets_for, meets_on, meets_with}
use Rattle.ckrt_machine.specs.Events.{Machine}
use Rattle.ckrt_look_recording.specs.Quiet.{IsCalm, or_call}
use Rattle.ckrt_look_recording.proofs.QuietLemmas.{calm_after, met_at_calls, neither}
use Rattle.ckrt_gdb_history.specs.declared.position.Position.{Position}
use Rattle.ckrt_gdb_history.specs.Engine.{IsAt, IsInto}
use Rattle.ckrt_gdb_history.specs.Positions.{IsBefore, IsUpTo, into_first, into_run, run_in, state_at, state_before}
use Rattle.ckrt_gdb_history.specs.Search.{IsOtherIn, IsPassed, first_meets, meets_at, meets_in}
use Rattle.ckrt_gdb_history.specs.Stops.{first_runner, is_next_of, runner_at, runner_in, runner_of}
use Rattle.ckrt_gdb_history.proofs.AtLemmas.{ahead, into_of}
use Rattle.ckrt_gdb_history.proofs.IntoLemmas.{gone_on}
use Rattle.ckrt_gdb_history.proofs.OrderLemmas.{within_event}

-- THE THREAD IS THERE STILL

module _ (meets : Meets) (made : ℕ) (e : Event) (s : State) (m : Machine) (into : IsInto made e s m) (begun : 0 < made) (h n u : ℕ) (is : run_in e ≡ Some (h, n))
    (calm : IsCalm h u m.state) where
  -- a reason that isn't met so many steps on
  met_so : (k : ℕ) → meets_in (or_call meets) (run_in e) (into_run (made + k) (run_in e) s).state ≡ false → meets_after (or_call meets) k h m.state m.output ≡ false
  met_so k not =
      subst (λ (r : Stepping). meets_on (or_call meets) h r.state ≡ false) (sym (gone_on made e s m into h n is begun k))
      (subst (λ o. meets_in (or_call meets) o (into_run (made + k) o s).state ≡ false) is not)

  pub calm_on : (j : ℕ) → ((k : ℕ) → k < j → meets_in (or_call meets) (run_in e) (into_run (made + k) (run_in e) s).state ≡ false) → IsCalm h u (into_run (made + j) (run_in e) s).state
  calm_on j unmet =
      subst (λ o. IsCalm h u (into_run (made + j) o s).state) (sym is)
      (subst (λ (r : Stepping). IsCalm h u r.state) (gone_on made e s m into h n is begun j)
      (calm_after (or_call meets) (met_at_calls meets) h u m.state m.output calm j (λ k less. met_so k (unmet k less))))

-- so its step is next, and not the other one's
other_next : (t u h : ℕ) (s : State) → u ≢ t → IsCalm h u s → is_next_of (Some t) (runner_of (hart_of s.tables h) s) ≡ false
other_next t u h s other calm =
    ap (λ o. is_next_of (Some t) (runner_of o s)) calm.on
    ∙ ap (λ o. is_next_of (Some t) (option_map (λ (r : Registers). (u, r.pc)) (regs_of o))) calm.is
    ∙ differ
  where
    differ : (t == u) ≡ false
    differ = by (t == u) refl
      where
        by : (b : Bool) → (t == u) ≡ b → b ≡ false
        by false e = refl
        by true e = absurd (other (grind (arith, nat_tests, e)))

-- WHERE A REASON ISN'T MET, NOR A CALL

uncalled_for : (meets : Meets) (o : Option ℕ) (s : State) → meets_for (or_call meets) o s ≡ false → meets_for meets o s ≡ false
uncalled_for meets None s unmet = unmet
uncalled_for meets (Some t) s unmet = by (regs_of (thread_of s.tables.threads t)) unmet
  where
    by : (o : Option Registers) → meets_with (or_call meets) o s.bytes ≡ false → meets_with meets o s.bytes ≡ false
    by None unmet = unmet
    by (Some r) unmet = neither meets r s.bytes unmet

uncalled_in : (meets : Meets) (o : Option (ℕ × ℕ)) (s : State) → meets_in (or_call meets) o s ≡ false → meets_in meets o s ≡ false
uncalled_in meets None s unmet = unmet
uncalled_in meets (Some run) s unmet = uncalled_for meets (hart_of s.tables run.0) s unmet

uncalled : (meets : Meets) (es : List Event) (s : State) → first_meets (or_call meets) es s ≡ false → first_meets meets es s ≡ false
uncalled meets [] s unmet = unmet
uncalled meets (e ∷ es) s unmet = uncalled_in meets (run_in e) s unmet

-- AT POSITIONS

module _ (meets : Meets) (t u : ℕ) (from : Position) (es : List Event) (s : State) (m : Machine) (e : Event) (at : IsAt m from es s) (is : slice_get es from.events ≡ Some e)
    (begun : 0 < from.steps) where
  here : drop from.events es ≡ e ∷ drop (suc from.events) es
  here = ahead from es s m e at is

  -- in the event, the reason isn't met
  unmet_in : (k : ℕ) → meets_at (or_call meets) (record { events = from.events; steps = k }) es s ≡ false → meets_in (or_call meets) (run_in e) (into_run k (run_in e) (state_before from.events es s)).state ≡ false
  unmet_in k not = subst (λ l. first_meets (or_call meets) l (into_first k l (state_before from.events es s)).state ≡ false) here not

  next_in : (k : ℕ) → is_next_of (Some t) (runner_in (run_in e) (into_run k (run_in e) (state_before from.events es s)).state) ≡ false
      → is_next_of (Some t) (runner_at (record { events = from.events; steps = k }) es s) ≡ false
  next_in k not = subst (λ l. is_next_of (Some t) (first_runner l (into_first k l (state_before from.events es s)).state) ≡ false) (sym here) not

  -- before each of these steps the thread is there
  others_at : (o : Option (ℕ × ℕ)) → run_in e ≡ o → IsOtherIn t u o m.state → (k : ℕ) → from.steps ≤ k
      → ((j : ℕ) → from.steps ≤ j → j < k → meets_at (or_call meets) (record { events = from.events; steps = j }) es s ≡ false)
      → is_next_of (Some t) (runner_in (run_in e) (into_run k (run_in e) (state_before from.events es s)).state) ≡ false
  others_at None run other k least unmet = absurd other
  others_at (Some (h, n)) run other k least unmet =
      let j = k - from.steps in
      let all : from.steps + j ≡ k = omega (arith, least) in
      let s0 = state_before from.events es s in
      let calm : IsCalm h u (into_run k (run_in e) s0).state =
      subst (λ i. IsCalm h u (into_run i (run_in e) s0).state) all
      (calm_on meets from.steps e s0 m (into_of from es s m e at is) begun h n u run other.1 j
      (λ i less. unmet_in (from.steps + i) (unmet (from.steps + i) (omega arith) (omega (arith, all, less))))) in
      subst (λ o. is_next_of (Some t) (runner_in o (into_run k (run_in e) s0).state) ≡ false) (sym run)
      (other_next t u h (into_run k (run_in e) s0).state other.0 calm)

  pub passed : IsOtherIn t u (run_in e) m.state → (q r : Position) → q.events ≡ from.events → IsUpTo from r → IsBefore r q
      → ((x : Position) → IsUpTo from x → IsBefore x q → meets_at (or_call meets) x es s ≡ false) → IsPassed meets (Some t) r es s
  passed other q r same up before unmet =
      let there = within_event from q r same up before in
      let at_steps : (j : ℕ) → from.steps ≤ j → j < q.steps → meets_at (or_call meets) (record { events = from.events; steps = j }) es s ≡ false =
      λ j least less. unmet (record { events = from.events; steps = j }) (inr (refl, least)) (inr (sym same, less)) in
      record {
        others = subst (λ k. is_next_of (Some t) (runner_at (record { events = k; steps = r.steps }) es s) ≡ false) (sym there.0)
            (next_in r.steps (others_at (run_in e) refl other r.steps there.1 (λ j least less. at_steps j least (let more = there.2 in omega (arith, less, more)))));
        unmet = uncalled meets (drop r.events es) (state_at r es s).state (unmet r up before);
      }
