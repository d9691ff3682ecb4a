-- Where a run stores: in its bursts, and behind them.
use Rattle.std.proofs.Common.{◌≡◌, ℕ, zero, suc, ◌<◌, cond, List, [], ◌++◌, length, true, false, Option, Some, None, is_some, sym, subst, ap, arith, refl, ◌∙◌, append_assoc, append-nil}
use Rattle.ckrt_registers.specs.Registers.{Registers}
use Rattle.ckrt_rv32i.specs.Effect.{Effect, instruction_step}
use Rattle.ckrt_rv32i.specs.Bursts.{Burst, burst, is_next}
use Rattle.ckrt_rv32i.specs.Stores.{stored_in_step, stored_in_burst}
use Rattle.ckrt_rv32i.specs.declared.execution.Outcome.{Outcome}
use Rattle.ckrt_rv32i.proofs.EffectLaws.{kept_size}
use Rattle.ckrt_memory.specs.Marks.{AreWithin, HasOneOf}
use Rattle.ckrt_memory.proofs.StoredLemmas.{has_left, has_right}
use Rattle.ckrt_thread.specs.declared.records.Thread.TheVariants as thread
use Rattle.ckrt_thread.specs.declared.records.Live.{Live}
use Rattle.ckrt_thread.specs.Cancellation.{is_immediate}
use Rattle.ckrt_thread.specs.State as threads
use Rattle.ckrt_calls.specs.declared.table.Tables.{Tables}
use Rattle.ckrt_calls.specs.Table as calls
use Rattle.ckrt_machine.specs.declared.event.RunEnd.{RunEnd}
use Rattle.ckrt_machine.specs.Bursts.{ending}
use Rattle.ckrt_machine.specs.Steps.{State, Stepped, hart_of, hart_step, with_regs}
use Rattle.ckrt_machine.specs.Runs.{stop_of, with_byte}
use Rattle.ckrt_machine.specs.Stores.{stored_by_slot, stored_by_thread, stored_in_hart_step, stored_behind, stored_in_run, unless_stopped}
use Rattle.ckrt_machine.proofs.RegsLaws.{regs_read}
use Rattle.ckrt_machine.proofs.RunLaws.{Begins, acts, at, burst_false, burst_true, goes, hart_is, last, next_of, same}

-- a step of a thread with these registers stores where their instruction does
stores_here : (h t : ℕ) (l : Live) (r : Registers) (m : List ℕ) (s : Tables) → hart_of s h ≡ Some t → threads.thread_of s.threads t ≡ Some (thread.Live l) → is_immediate l.cancellation ≡ false
    → stored_in_hart_step h (at t r m s) ≡ stored_in_step r m
stores_here h t l r m s e f i =
    ap (λ o. stored_by_thread o (at t r m s)) e
    ∙ ap (λ o. stored_by_slot o (at t r m s)) (regs_read t r l s.threads f)
    ∙ ap (λ b. cond b [] (stored_in_step r m)) i

-- what is stored to behind a burst
abbrev pub stored_resumed : ℕ → Effect → ℕ → ℕ → Tables → List ℕ → List ℕ
stored_resumed zero e h t s out = []
stored_resumed (suc n) e h t s out = stored_behind (stored_in_run n h) h out (ending e.outcome t (at t e.registers e.bytes s))

abbrev stored_after : Burst → ℕ → ℕ → Tables → List ℕ → List ℕ
stored_after b h t s out = stored_resumed b.left b.effect h t s out

-- what the rest of a burst stores to
abbrev rest : ℕ → Registers → List ℕ → List ℕ
rest n r m = stored_in_burst n (instruction_step r m).registers (instruction_step r m).bytes

-- a run stores where its bursts do, and behind them
pub bursts_store : (n h t : ℕ) (l : Live) (r : Registers) (m : List ℕ) (s : Tables) (out : List ℕ) → Begins h t l s out → is_immediate l.cancellation ≡ false → length m < 268435456
    → stored_in_run n h (at t r m s) out ≡ stored_in_burst n r m ++ stored_after (burst n r m) h t s out
bursts_store zero h t l r m s out b i z = refl
bursts_store (suc n) h t l r m s out b i z =
    let here = hart_is h t l r m s b.on b.live in
    let stores = stores_here h t l r m s b.on b.live i in
    elim (is_next (instruction_step r m).outcome) as (λ k. is_next (instruction_step r m).outcome ≡ k → stored_in_run (suc n) h (at t r m s) out ≡ stored_in_burst (suc n) r m ++ stored_after (burst (suc n) r m) h t s out) [
      | true ↦ λ x.
          ap (λ (a : List ℕ). a ++ stored_behind (stored_in_run n h) h out (hart_step h (at t r m s))) stores
          ∙ ap (λ (e : Stepped). stored_in_step r m ++ stored_behind (stored_in_run n h) h out e) (here ∙ goes t l r m s i z (next_of (instruction_step r m).outcome x))
          ∙ ap (λ o. stored_in_step r m ++ unless_stopped o (stored_in_run n h (at t (instruction_step r m).registers (instruction_step r m).bytes s) out)) b.going
          ∙ ap (λ (a : List ℕ). stored_in_step r m ++ a) (bursts_store n h t l (instruction_step r m).registers (instruction_step r m).bytes s out b i (let q = kept_size r m in omega arith))
          ∙ sym (append_assoc (stored_in_step r m) (rest n r m) _)
          ∙ ap (λ (y : Burst). (stored_in_step r m ++ rest n r m) ++ stored_after y h t s out) (sym (burst_true n r m x))
          ∙ ap (λ k. (stored_in_step r m ++ cond k (rest n r m) []) ++ stored_after (burst (suc n) r m) h t s out) (sym x)
      | false ↦ λ x.
          ap (λ (a : List ℕ). a ++ stored_behind (stored_in_run n h) h out (hart_step h (at t r m s))) stores
          ∙ ap (λ (e : Stepped). stored_in_step r m ++ stored_behind (stored_in_run n h) h out e) (here ∙ last (instruction_step r m).outcome t l r m s b.live i z refl x)
          ∙ ap (λ (y : Burst). stored_in_step r m ++ stored_after y h t s out) (sym (burst_false n r m x))
          ∙ ap (λ (a : List ℕ). a ++ stored_after (burst (suc n) r m) h t s out) (sym (append-nil (stored_in_step r m)))
          ∙ ap (λ k. (stored_in_step r m ++ cond k (rest n r m) []) ++ stored_after (burst (suc n) r m) h t s out) (sym x)
    ] refl

-- TURNS

unstopped : (page : ℕ) (o : Option RunEnd) (more : List ℕ) → is_some o ≡ false → HasOneOf page more → HasOneOf page (unless_stopped o more)
unstopped page None more on has = has
unstopped page (Some how) more on has = absurd (cc)

-- the burst of a turn stores where the run does
pub turn_stores : (n h t : ℕ) (l : Live) (m : List ℕ) (s : Tables) (out : List ℕ) → Begins h t l s out → is_immediate l.cancellation ≡ false → length m < 268435456
    → AreWithin (stored_in_burst n l.regs m) (stored_in_run n h (record { bytes = m; tables = s }) out)
turn_stores n h t l m s out b i z p has =
    subst (λ (x : State). HasOneOf p (stored_in_run n h x out)) (same t l m s b.live)
    (subst (λ (a : List ℕ). HasOneOf p a) (sym (bursts_store n h t l l.regs m s out b i z)) (has_left p _ _ has))

-- what is stored to behind a turn that doesn't end the run is stored to in the run
pub behind_stores : (n h t : ℕ) (l : Live) (r : Registers) (m b : List ℕ) (s y z : Tables) (out : List ℕ) (o : Outcome) (p : Option ℕ) (k j : ℕ) → k ≡ suc j → Begins h t l s out → is_immediate l.cancellation ≡ false → length m < 268435456
    → record { left = k; effect = record { outcome = o; registers = r; bytes = b } } ≡ burst n l.regs m → y ≡ with_regs t r s
    → record { state = record { bytes = b; tables = z }; put = p } ≡ ending o t (record { bytes = b; tables = y }) → is_some (stop_of h z (with_byte p out)) ≡ false
    → AreWithin (stored_in_run j h (record { bytes = b; tables = z }) (with_byte p out)) (stored_in_run n h (record { bytes = m; tables = s }) out)
behind_stores n h t l r m b s y z out o p k j a e i q u w v on page has =
    subst (λ (x : State). HasOneOf page (stored_in_run n h x out)) (same t l m s e.live)
    (subst (λ (c : List ℕ). HasOneOf page c) (sym (bursts_store n h t l l.regs m s out e i q)) (has_right page _ _
    (subst (λ (x : Burst). HasOneOf page (stored_after x h t s out)) (ap (λ x. record { left = x; effect = record { outcome = o; registers = r; bytes = b } }) (sym a) ∙ u)
    (subst (λ (x : Tables). HasOneOf page (stored_behind (stored_in_run j h) h out (ending o t (record { bytes = b; tables = x })))) w
    (subst (λ (x : Stepped). HasOneOf page (stored_behind (stored_in_run j h) h out x)) v
    (unstopped page (stop_of h z (with_byte p out)) _ on has))))))

-- the same, where the turn acts on a request
pub acting_stores : (n j h t : ℕ) (l : Live) (m : List ℕ) (s z : Tables) (out : List ℕ) → n ≡ suc j → Begins h t l s out → is_immediate l.cancellation ≡ true → z ≡ calls.acted t s → is_some (stop_of h z out) ≡ false
    → AreWithin (stored_in_run j h (record { bytes = m; tables = z }) out) (stored_in_run n h (record { bytes = m; tables = s }) out)
acting_stores n j h t l m s z out a e i w on page has =
    subst (λ x. HasOneOf page (stored_in_run x h (record { bytes = m; tables = s }) out)) (sym a)
    (has_right page _ _
    (subst (λ (x : Stepped). HasOneOf page (stored_behind (stored_in_run j h) h out x)) (sym (acts h t l m s e.on e.live i))
    (subst (λ (x : Tables). HasOneOf page (unless_stopped (stop_of h x out) (stored_in_run j h (record { bytes = m; tables = x }) out))) w
    (unstopped page (stop_of h z out) _ on has))))
