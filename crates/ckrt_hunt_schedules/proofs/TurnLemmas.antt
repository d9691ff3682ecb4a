-- The search for the thread whose turn it is, and for its hart.
use Rattle.std.proofs.Common.{◌≡◌, ◌==◌, [], ◌++◌, ℕ, suc, ◌+◌, ◌-◌, ◌<◌, ◌≤◌, length, Bool, true, false, Option, Some, None, List, ap, sym, arith, cond, nat_le, refl}
use Rattle.std.specs.Prelude.{IfSome}
use Rattle.std.specs.List.{find}
use Rattle.ckrt_thread.specs.State as threads
use Rattle.ckrt_thread.specs.Waits.{is_of}
use Rattle.ckrt_calls.specs.declared.table.Tables.{Tables}
use Rattle.ckrt_events.specs.declared.event.Event.{Event}
use Rattle.ckrt_events.specs.declared.event.Event.TheVariants.{Place, Run, Input, Eof, Tick, RunLong}
use Rattle.ckrt_events.specs.Bytes.{RUN_LIMIT}
use Rattle.ckrt_machine.specs.Steps.{State, hart_of}
use Rattle.ckrt_machine.specs.Events.{step}
use Rattle.ckrt_schedule.specs.Next.{given_by, has_room, next_bytes, next_input}
use Rattle.ckrt_schedule.specs.Schedules.{idle_until, run_by, ticks_to}
use Rattle.ckrt_schedule.specs.declared.next.Next.TheVariants.{Submit}
use Rattle.ckrt_hunt_schedules.specs.declared.plan.Plan.{Plan}
use Rattle.ckrt_hunt_schedules.specs.declared.made.Made.{Made}
use Rattle.ckrt_hunt_schedules.specs.declared.outcome.Waiting.{Waiting}
use Rattle.ckrt_hunt_schedules.specs.declared.turn.Ranked.{Ranked}
use Rattle.ckrt_hunt_schedules.specs.Outcomes.{waiting_among, waiting_by}
use Rattle.ckrt_hunt_schedules.specs.Plans.{steps_made}
use Rattle.ckrt_hunt_schedules.specs.Turns.{best_among, considered, hart_among, hart_from, may_run, ranked, steps_in}

-- THREADS

pub best_on : (p : Plan) (m : Made) (s : threads.State) (n t : ℕ) (o : Option Ranked) → t ≡ suc n → o ≡ best_among p m s n → considered (may_run s t) (ranked p m t) o ≡ best_among p m s t
unfolding best_among
best_on p m s n t o e h = rw (e, h) refl

pub none_best : (p : Plan) (m : Made) (s : threads.State) → best_among p m s 0 ≡ None
unfolding best_among
none_best p m s = refl

pub waiting_on : (s : Tables) (n t : ℕ) (ws : List Waiting) → t ≡ suc n → ws ≡ waiting_among s n → ws ++ waiting_by s.mutexes t (find (is_of t) s.threads.waits) ≡ waiting_among s t
unfolding waiting_among
waiting_on s n t ws e h = rw (e, h) refl

pub none_waiting : (s : Tables) → waiting_among s 0 ≡ []
unfolding waiting_among
none_waiting s = refl

-- HARTS

module _ (t h : ℕ) (s : Tables) where
  step_of : (b : Bool) → h < 8 → threads.holds t (hart_of s h) ≡ b → hart_from h t s ≡ cond b (Some h) (hart_from (h + 1) t s)
  unfolding hart_among
  step_of b l e =
      let left : 8 - h ≡ suc (8 - (h + 1)) = omega arith in
      rw left (ap (λ x. cond x (Some h) (hart_among (8 - (h + 1)) (h + 1) t s)) e)

  pub found : h < 8 → threads.holds t (hart_of s h) ≡ true → hart_from h t s ≡ Some h
  found l e = step_of true l e

  pub passed : h < 8 → threads.holds t (hart_of s h) ≡ false → hart_from h t s ≡ hart_from (h + 1) t s
  passed l e = step_of false l e

pub no_hart : (t : ℕ) (s : Tables) → hart_from 8 t s ≡ None
unfolding hart_among
no_hart t s = refl

-- STEPS

-- an answer tells of no more steps than the event may have
pub ran_within : (e : Event) (s : State) → steps_made (step e s).answer ≤ steps_in e
ran_within (Place h t) s = omega arith
ran_within (Run h n) s = omega arith
ran_within (Input bytes) s = omega arith
ran_within Eof s = omega arith
ran_within (Tick k) s = omega arith
ran_within (RunLong h n) s = omega arith

-- a run has the steps that it is to have, by whichever event
pub steps_of_run : (h n : ℕ) → steps_in (run_by h n) ≡ n
steps_of_run h n = elim (nat_le n RUN_LIMIT) as (λ b. steps_in (cond b (Run h n) (RunLong h n)) ≡ n) [ true ↦ refl | false ↦ refl ]

-- what is given of an input has no steps
pub no_steps_given : (s : Tables) (rest : List ℕ) → IfSome (next_input s rest) (λ e. steps_in e ≡ 0)
no_steps_given s rest =
    elim (has_room s (length (next_bytes rest))) as (λ b. IfSome (cond b (Some (given_by (next_bytes rest))) None) (λ e. steps_in e ≡ 0))
    [ true ↦ elim (length (next_bytes rest) == 0) as (λ b. steps_in (cond b Eof (Input (record { items = next_bytes rest }))) ≡ 0) [ true ↦ refl | false ↦ refl ] | false ↦ tt ]

-- where no thread may run, no steps are made
pub no_steps : (o : Option ℕ) (s : Tables) (e : Event) → idle_until o s ≡ Submit e → steps_in e ≡ 0
no_steps None s e h = cc
no_steps (Some d) s e h = let same : Tick (ticks_to d s.clock) ≡ e = cc in sym (ap steps_in same)
