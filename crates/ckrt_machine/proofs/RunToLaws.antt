-- A run that ends where a reason to stop is met, burst by burst, and step by step.
use Rattle.std.proofs.Common.{◌≡◌, ℕ, zero, suc, ◌-◌, ◌<◌, cond, List, length, true, false, Option, Some, None, sym, subst, ap, arith, refl, ◌∙◌}
use Rattle.ckrt_registers.specs.Registers.{Registers}
use Rattle.ckrt_rv32i.specs.Effect.{Effect, instruction_step}
use Rattle.ckrt_rv32i.specs.Bursts.{Burst, burst, is_next}
use Rattle.ckrt_rv32i.specs.declared.execution.Outcome.{Outcome}
use Rattle.ckrt_rv32i.specs.declared.execution.Outcome.TheVariants.{Next}
use Rattle.ckrt_rv32i.proofs.EffectLaws.{kept_size}
use Rattle.ckrt_memory.specs.Marks.{AreWithin, HasOneOf}
use Rattle.ckrt_memory.specs.Reasons.{Meets, before_next, burst_to}
use Rattle.ckrt_memory.proofs.ReasonLemmas.{as_burst, some_done}
use Rattle.ckrt_memory.proofs.StoredLemmas.{has_right}
use Rattle.ckrt_thread.specs.declared.records.Thread.TheVariants as thread
use Rattle.ckrt_thread.specs.declared.records.Live.{Live}
use Rattle.ckrt_thread.specs.Cancellation.{is_immediate}
use Rattle.ckrt_thread.specs.State as threads
use Rattle.ckrt_calls.specs.declared.table.Tables.{Tables}
use Rattle.ckrt_calls.specs.Table as calls
use Rattle.ckrt_machine.specs.declared.event.RunEnd.{RunEnd}
use Rattle.ckrt_machine.specs.declared.event.RunEnd.TheVariants.{On}
use Rattle.ckrt_machine.specs.Bursts.{ending}
use Rattle.ckrt_machine.specs.Steps.{State, Stepped, hart_of, hart_step, with_regs}
use Rattle.ckrt_machine.specs.Runs.{stop_of, with_byte}
use Rattle.ckrt_machine.specs.RunsTo.{RanTo, continued_to, meets_for, meets_on, meets_with, run_to, stopped_to}
use Rattle.ckrt_machine.specs.Stores.{stored_behind, stored_in_run, unless_stopped}
use Rattle.ckrt_machine.proofs.RegsLaws.{regs_read}
use Rattle.ckrt_machine.proofs.RunLaws.{Begins, acts, at, goes, hart_is, last, next_of, same}

-- the thread that is on the hart is asked
pub meets_here : (meets : Meets) (h t : ℕ) (l : Live) (r : Registers) (m : List ℕ) (s : Tables) → hart_of s h ≡ Some t → threads.thread_of s.threads t ≡ Some (thread.Live l) → meets_on meets h (at t r m s) ≡ meets r m
meets_here meets h t l r m s e f =
    ap (λ o. meets_for meets o (at t r m s)) e ∙ ap (λ o. meets_with meets (threads.regs_of o) m) (regs_read t r l s.threads f)

-- BURSTS

-- what a run comes to behind a burst: where the next instruction may follow, the reason is met, and it is asked again
abbrev pub behind_call : Meets → ℕ → Effect → ℕ → ℕ → Tables → List ℕ → RanTo
behind_call meets n e h t s out = continued_to (run_to meets n) n h out (ending e.outcome t (at t e.registers e.bytes s))

abbrev pub resumed_to : Meets → ℕ → Effect → ℕ → ℕ → Tables → List ℕ → RanTo
resumed_to meets zero e h t s out = record { left = 0; how = Some On; state = at t e.registers e.bytes s; output = out }
resumed_to meets (suc n) e h t s out = cond (is_next e.outcome) (run_to meets (suc n) h (at t e.registers e.bytes s) out) (behind_call meets n e h t s out)

module _ (meets : Meets) (h t : ℕ) (l : Live) (s : Tables) (out : List ℕ) (b : Begins h t l s out) where
  -- where the reason isn't met, a step is made
  step_made : (n : ℕ) (r : Registers) (m : List ℕ) (e : Stepped) → meets r m ≡ false → hart_step h (at t r m s) ≡ e → run_to meets (suc n) h (at t r m s) out ≡ continued_to (run_to meets n) n h out e
  step_made n r m e not is =
      ap (λ k. cond k (record { left = suc n; how = None; state = at t r m s; output = out }) (continued_to (run_to meets n) n h out (hart_step h (at t r m s)))) (meets_here meets h t l r m s b.on b.live ∙ not)
      ∙ ap (continued_to (run_to meets n) n h out) is

  module _ (i : is_immediate l.cancellation ≡ false) where
    pub bursts_to : (n : ℕ) (r : Registers) (m : List ℕ) → length m < 268435456 → run_to meets n h (at t r m s) out ≡ resumed_to meets (burst_to meets n r m).left (burst_to meets n r m).effect h t s out
    bursts_to zero r m z = refl
    bursts_to (suc n) r m z =
        let here = hart_is h t l r m s b.on b.live in
        let r' = (instruction_step r m).registers in let m' = (instruction_step r m).bytes in
        let last_one : Burst = record { left = suc n; effect = instruction_step r m } in
        elim (meets r m) as (λ k. meets r m ≡ k → let y = cond k (before_next (suc n) r m) (cond (is_next (instruction_step r m).outcome) (burst_to meets n r' m') last_one) in run_to meets (suc n) h (at t r m s) out ≡ resumed_to meets y.left y.effect h t s out) [
          | true ↦ λ x. refl
          | false ↦ λ x.
              elim (is_next (instruction_step r m).outcome) as (λ k. is_next (instruction_step r m).outcome ≡ k → let y = cond k (burst_to meets n r' m') last_one in run_to meets (suc n) h (at t r m s) out ≡ resumed_to meets y.left y.effect h t s out) [
                | true ↦ λ y.
                    step_made n r m _ x (here ∙ goes t l r m s i z (next_of (instruction_step r m).outcome y))
                    ∙ (ap (λ o. stopped_to (run_to meets n) o n h (at t r' m' s) out) b.going
                    ∙ bursts_to n r' m' (let q = kept_size r m in omega arith))
                | false ↦ λ y.
                    step_made n r m _ x (here ∙ last (instruction_step r m).outcome t l r m s b.live i z refl y)
                    ∙ ap (λ k. cond k (run_to meets (suc n) h (at t r' m' s) out) (behind_call meets n (instruction_step r m) h t s out)) (sym y)
              ] refl
        ] refl

    module _ (n : ℕ) (m : List ℕ) (small : length m < 268435456) where
      from_here : run_to meets n h (record { bytes = m; tables = s }) out ≡ resumed_to meets (burst_to meets n l.regs m).left (burst_to meets n l.regs m).effect h t s out
      from_here = ap (λ x. run_to meets n h x out) (sym (same t l m s b.live)) ∙ bursts_to n l.regs m small

      module _ (r : Registers) (d : List ℕ) (o : Outcome) (k : ℕ) (is : record { left = k; effect = record { outcome = o; registers = r; bytes = d } } ≡ burst_to meets n l.regs m) where
        -- a turn: a burst, and nothing is left
        pub turned_out : (z : Tables) → k ≡ 0 → z ≡ with_regs t r s → run_to meets n h (record { bytes = m; tables = s }) out ≡ record { left = 0; how = Some On; state = record { bytes = d; tables = z }; output = out }
        turned_out z none w = from_here ∙ (ap (λ (x : Burst). resumed_to meets x.left x.effect h t s out) (sym is) ∙ rw (none, w) refl)

        -- a turn: a burst, up to an instruction before which the reason is met
        pub turned_met : (z : Tables) (j : ℕ) → k ≡ suc j → o ≡ Next → z ≡ with_regs t r s → run_to meets n h (record { bytes = m; tables = s }) out ≡ run_to meets k h (record { bytes = d; tables = z }) out
        turned_met z j some on w = from_here ∙ (ap (λ (x : Burst). resumed_to meets x.left x.effect h t s out) (sym is) ∙ rw (some, on, w) refl)

        -- a turn: a burst, and what ends it
        pub turned : (y z : Tables) (p : Option ℕ) (j : ℕ) → k ≡ suc j → is_next o ≡ false → y ≡ with_regs t r s
            → record { state = record { bytes = d; tables = z }; put = p } ≡ ending o t (record { bytes = d; tables = y })
            → run_to meets n h (record { bytes = m; tables = s }) out ≡ stopped_to (run_to meets j) (stop_of h z (with_byte p out)) j h (record { bytes = d; tables = z }) (with_byte p out)
        turned y z p j some over w v =
            from_here
            ∙ (ap (λ (x : Burst). resumed_to meets x.left x.effect h t s out) (sym (ap (λ x. record { left = x; effect = record { outcome = o; registers = r; bytes = d } }) (sym some) ∙ is))
            ∙ (ap (λ x. cond x (run_to meets (suc j) h (at t r d s) out) (behind_call meets j (record { outcome = o; registers = r; bytes = d }) h t s out)) over
            ∙ (ap (λ x. continued_to (run_to meets j) j h out (ending o t (record { bytes = d; tables = x }))) (sym w)
            ∙ ap (continued_to (run_to meets j) j h out) (sym v))))

        -- it makes a step where the reason isn't met as it begins
        pub fewer_left : 0 < n → o ≡ Next → meets_on meets h (record { bytes = m; tables = s }) ≡ false → k < n
        fewer_left some on not =
            let unmet : meets l.regs m ≡ false = sym (ap (meets_on meets h) (sym (same t l m s b.live)) ∙ meets_here meets h t l l.regs m s b.on b.live) ∙ not in
            subst (λ (x : Burst). x.left < n) (sym is) (some_done meets n l.regs m some unmet (ap (λ (x : Burst). is_next x.effect.outcome) (sym is) ∙ ap is_next on))

        -- the burst of one that an instruction ended is one that knows no reason
        pub same_burst : is_next o ≡ false → record { left = k; effect = record { outcome = o; registers = r; bytes = d } } ≡ burst n l.regs m
        same_burst over = is ∙ as_burst meets n l.regs m (ap (λ (x : Burst). is_next x.effect.outcome) (sym is) ∙ over)

    -- what is stored to behind a burst up to the reason is stored to in the run
    pub met_stores : (n : ℕ) (r : Registers) (m : List ℕ) → length m < 268435456 → is_next (burst_to meets n r m).effect.outcome ≡ true
        → AreWithin (stored_in_run (burst_to meets n r m).left h (at t (burst_to meets n r m).effect.registers (burst_to meets n r m).effect.bytes s) out) (stored_in_run n h (at t r m s) out)
    met_stores zero r m z on p has = has
    met_stores (suc n) r m z on p has =
        let here = hart_is h t l r m s b.on b.live in
        let r' = (instruction_step r m).registers in let m' = (instruction_step r m).bytes in
        let last_one : Burst = record { left = suc n; effect = instruction_step r m } in
        (elim (meets r m) as (λ k. let y = cond k (before_next (suc n) r m) (cond (is_next (instruction_step r m).outcome) (burst_to meets n r' m') last_one) in is_next y.effect.outcome ≡ true → HasOneOf p (stored_in_run y.left h (at t y.effect.registers y.effect.bytes s) out) → HasOneOf p (stored_in_run (suc n) h (at t r m s) out)) [
          | true ↦ λ x has. has
          | false ↦
              elim (is_next (instruction_step r m).outcome) as (λ k. is_next (instruction_step r m).outcome ≡ k → let y = cond k (burst_to meets n r' m') last_one in is_next y.effect.outcome ≡ true → HasOneOf p (stored_in_run y.left h (at t y.effect.registers y.effect.bytes s) out) → HasOneOf p (stored_in_run (suc n) h (at t r m s) out)) [
                | true ↦ λ y x has.
                    has_right p _ _ (subst (λ (e : Stepped). HasOneOf p (stored_behind (stored_in_run n h) h out e)) (sym (here ∙ goes t l r m s i z (next_of (instruction_step r m).outcome y)))
                    (subst (λ (o : Option RunEnd). HasOneOf p (unless_stopped o (stored_in_run n h (at t r' m' s) out))) (sym b.going) (met_stores n r' m' (let q = kept_size r m in omega arith) x p has)))
                | false ↦ λ y x has. absurd (true_or_false (sym x ∙ y))
              ] refl
        ]) on has
      where
        true_or_false : true ≡ false → ⊥
        true_or_false e = absurd (cc)

    pub met_rest : (n : ℕ) (m d : List ℕ) (r : Registers) (o : Outcome) (k : ℕ) (z : Tables) → length m < 268435456 → record { left = k; effect = record { outcome = o; registers = r; bytes = d } } ≡ burst_to meets n l.regs m → o ≡ Next → z ≡ with_regs t r s
        → AreWithin (stored_in_run k h (record { bytes = d; tables = z }) out) (stored_in_run n h (record { bytes = m; tables = s }) out)
    met_rest n m d r o k z small is on w p has =
        subst (λ (x : State). HasOneOf p (stored_in_run n h x out)) (same t l m s b.live)
        (met_stores n l.regs m small (ap (λ (x : Burst). is_next x.effect.outcome) (sym is) ∙ ap is_next on) p
        (subst (λ (x : Burst). HasOneOf p (stored_in_run x.left h (at t x.effect.registers x.effect.bytes s) out)) is
        (subst (λ (x : Tables). HasOneOf p (stored_in_run k h (record { bytes = d; tables = x }) out)) w has)))

-- A TURN THAT ACTS ON A REQUEST

pub turned_acting : (meets : Meets) (n j h t : ℕ) (l : Live) (m : List ℕ) (s z : Tables) (out : List ℕ) → n ≡ suc j → Begins h t l s out → meets_on meets h (record { bytes = m; tables = s }) ≡ false → is_immediate l.cancellation ≡ true → z ≡ calls.acted t s
    → run_to meets n h (record { bytes = m; tables = s }) out ≡ stopped_to (run_to meets j) (stop_of h z out) j h (record { bytes = m; tables = z }) out
turned_acting meets n j h t l m s z out a e not i w =
    ap (λ x. run_to meets x h (record { bytes = m; tables = s }) out) a
    ∙ (ap (λ k. cond k (record { left = suc j; how = None; state = record { bytes = m; tables = s }; output = out }) (continued_to (run_to meets j) j h out (hart_step h (record { bytes = m; tables = s })))) not
    ∙ (ap (continued_to (run_to meets j) j h out) (acts h t l m s e.on e.live i)
    ∙ ap (λ y. stopped_to (run_to meets j) (stop_of h y out) j h (record { bytes = m; tables = y }) out) (sym w)))

-- A RUN AT WHOSE BEGINNING THE REASON IS MET

pub met_here : (meets : Meets) (n h : ℕ) (s : State) (out : List ℕ) → 0 < n → meets_on meets h s ≡ true → record { left = n; how = None; state = s; output = out } ≡ run_to meets n h s out
met_here meets n h s out some is =
    let left : n ≡ suc (n - 1) = omega (arith, some) in
    ap (λ k. record { left = k; how = None; state = s; output = out }) left
    ∙ sym (ap (λ b. cond b (record { left = suc (n - 1); how = None; state = s; output = out }) (continued_to (run_to meets (n - 1)) (n - 1) h out (hart_step h s))) is)
    ∙ ap (λ k. run_to meets k h s out) (sym left)
