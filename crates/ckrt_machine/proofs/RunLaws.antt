-- A burst is as many steps of the hart, one at a time.
use Rattle.std.proofs.Common.{◌≡◌, ℕ, zero, suc, ◌<◌, ◌≤◌, ◌==◌, cond, List, length, true, false, Option, Some, None, sym, ap, arith, refl, ◌∙◌}
use Rattle.std.proofs.lemmas.Bool.Decides.{nat_tests}
use Rattle.ckrt_registers.specs.Registers.{Registers}
use Rattle.ckrt_rv32i.specs.Effect.{Effect, instruction_step}
use Rattle.ckrt_rv32i.specs.declared.execution.Outcome.{Outcome}
use Rattle.ckrt_rv32i.specs.declared.execution.Outcome.TheVariants.{Next, Call, Fault}
use Rattle.ckrt_rv32i.specs.declared.execution.Cause.TheVariants as cause
use Rattle.ckrt_thread.specs.declared.records.Thread.TheVariants as thread
use Rattle.ckrt_thread.specs.declared.records.Live.{Live}
use Rattle.ckrt_thread.specs.Cancellation.{is_immediate}
use Rattle.ckrt_thread.specs.State as threads
use Rattle.ckrt_calls.specs.declared.table.Tables.{Tables}
use Rattle.ckrt_calls.specs.Table as calls
use Rattle.ckrt_machine.specs.declared.event.RunEnd.TheVariants.{On}
use Rattle.ckrt_rv32i.specs.Bursts.{burst, is_next, Burst}
use Rattle.ckrt_machine.specs.Bursts.{fault_ending, ending}
use Rattle.ckrt_machine.specs.Steps.{State, quiet, hart_of, with_regs, acted, called, performed, thread_step, slot_step, step_of, hart_step}
use Rattle.ckrt_machine.specs.Runs.{Ran, stop_of, stopped, continued, run_on, with_byte}
use Rattle.ckrt_rv32i.proofs.EffectLaws.{kept, kept_size}
use Rattle.ckrt_machine.proofs.EffectLaws.{gate_faults}
use Rattle.ckrt_machine.proofs.RegsLaws.{regs_read, regs_twice, regs_same}

-- a state where the thread has these registers
abbrev pub at : ℕ → Registers → List ℕ → Tables → State
at t r m s = record { bytes = m; tables = with_regs t r s }

twice : (t : ℕ) (q r : Registers) (s : Tables) → with_regs t q (with_regs t r s) ≡ with_regs t q s
twice t q r s = ap (λ x. record s { threads = x }) (regs_twice t q r s.threads)

pub hart_is : (h t : ℕ) (l : Live) (r : Registers) (m : List ℕ) (s : Tables) → hart_of s h ≡ Some t → threads.thread_of s.threads t ≡ Some (thread.Live l) → hart_step h (at t r m s) ≡ thread_step (threads.with_regs r l) t (at t r m s)
hart_is h t l r m s e f = ap (λ o. step_of o (at t r m s)) e ∙ ap (λ o. slot_step o t (at t r m s)) (regs_read t r l s.threads f)

-- away from the gates
apart : (r : Registers) (m : List ℕ) (o : Outcome) → length m < 268435456 → (instruction_step r m).outcome ≡ o → ((c : _) → o ≡ Fault c → ⊥) → ((r.pc == 4294967280) ≡ false) × ((r.pc == 4294967284) ≡ false)
apart r m o l e n =
    let f : 4294967280 ≤ r.pc → ⊥ = λ g. n cause.FetchRange (sym e ∙ gate_faults r m l g) in
    (grind (arith, nat_tests, f), grind (arith, nat_tests, f))

-- THE STEPS OF A BURST, by a thread without a request that is immediate

-- a step that goes on
pub goes : (t : ℕ) (l : Live) (r : Registers) (m : List ℕ) (s : Tables) → is_immediate l.cancellation ≡ false → length m < 268435456 → (instruction_step r m).outcome ≡ Next → thread_step (threads.with_regs r l) t (at t r m s) ≡ quiet (at t (instruction_step r m).registers (instruction_step r m).bytes s)
goes t l r m s n z e =
    let away = apart r m Next z e (λ c x. cc) in
    rw (n, away.0, away.1, e, twice t (instruction_step r m).registers r s) refl

-- the last step of a burst
last_call : (t : ℕ) (l : Live) (r : Registers) (m : List ℕ) (s : Tables) → is_immediate l.cancellation ≡ false → length m < 268435456 → (instruction_step r m).outcome ≡ Call → thread_step (threads.with_regs r l) t (at t r m s) ≡ ending Call t (at t (instruction_step r m).registers (instruction_step r m).bytes s)
last_call t l r m s n z e =
    let away = apart r m Call z e (λ c x. cc) in
    let made : thread_step (threads.with_regs r l) t (at t r m s) ≡ performed Call t (instruction_step r m).registers (instruction_step r m).bytes (at t r m s) = rw (n, away.0, away.1, e) refl in
    made ∙ ap (λ y. called t (instruction_step r m).bytes (calls.called t y)) (twice t (instruction_step r m).registers r s)

last_fault : (c : _) (t : ℕ) (l : Live) (r : Registers) (m : List ℕ) (s : Tables) → threads.thread_of s.threads t ≡ Some (thread.Live l) → is_immediate l.cancellation ≡ false → (instruction_step r m).outcome ≡ Fault c → thread_step (threads.with_regs r l) t (at t r m s) ≡ ending (Fault c) t (at t (instruction_step r m).registers (instruction_step r m).bytes s)
last_fault c t l r m s f n e =
    let k = kept r m in
    rw (k.registers c e, k.bytes c e, e, n) (sym (ap (λ o. fault_ending c o t (at t r m s)) (regs_read t r l s.threads f)))

pub last : (o : Outcome) (t : ℕ) (l : Live) (r : Registers) (m : List ℕ) (s : Tables) → threads.thread_of s.threads t ≡ Some (thread.Live l) → is_immediate l.cancellation ≡ false → length m < 268435456 → (instruction_step r m).outcome ≡ o → is_next o ≡ false → thread_step (threads.with_regs r l) t (at t r m s) ≡ ending o t (at t (instruction_step r m).registers (instruction_step r m).bytes s)
last Next t l r m s f n z e k = absurd (cc)
last Call t l r m s f n z e k = last_call t l r m s n z e
last (Fault c) t l r m s f n z e k = last_fault c t l r m s f n e

-- what a run comes to behind a burst
abbrev pub resumed : ℕ → Effect → ℕ → ℕ → Tables → List ℕ → Ran
resumed zero e h t s out = record { left = 0; how = On; state = at t e.registers e.bytes s; output = out }
resumed (suc n) e h t s out = continued (run_on n) n h out (ending e.outcome t (at t e.registers e.bytes s))

-- one more step of a burst
pub burst_true : (n : ℕ) (r : Registers) (m : List ℕ) → is_next (instruction_step r m).outcome ≡ true → burst (suc n) r m ≡ burst n (instruction_step r m).registers (instruction_step r m).bytes
burst_true n r m e = ap (λ b. cond b (burst n (instruction_step r m).registers (instruction_step r m).bytes) (record { left = suc n; effect = instruction_step r m })) e

pub burst_false : (n : ℕ) (r : Registers) (m : List ℕ) → is_next (instruction_step r m).outcome ≡ false → burst (suc n) r m ≡ record { left = suc n; effect = instruction_step r m }
burst_false n r m e = ap (λ b. cond b (burst n (instruction_step r m).registers (instruction_step r m).bytes) (record { left = suc n; effect = instruction_step r m })) e

pub next_of : (o : Outcome) → is_next o ≡ true → o ≡ Next
next_of Next e = refl
next_of Call e = absurd (cc)
next_of (Fault c) e = absurd (cc)

abbrev resumed_from : Burst → ℕ → ℕ → Tables → List ℕ → Ran
resumed_from b h t s out = resumed b.left b.effect h t s out

-- what is so of a hart and the thread on it as a turn begins
pub record Begins (h t : ℕ) (l : Live) (s : Tables) (out : List ℕ) : Type 0 where
  pub on : hart_of s h ≡ Some t
  pub live : threads.thread_of s.threads t ≡ Some (thread.Live l)
  pub going : stop_of h s out ≡ None

-- a run goes through its bursts
pub bursts : (n h t : ℕ) (l : Live) (r : Registers) (m : List ℕ) (s : Tables) (out : List ℕ) → Begins h t l s out → is_immediate l.cancellation ≡ false → length m < 268435456
    → run_on n h (at t r m s) out ≡ resumed_from (burst n r m) h t s out
bursts zero h t l r m s out b i z = refl
bursts (suc n) h t l r m s out b i z =
    let here = hart_is h t l r m s b.on b.live in
    elim (is_next (instruction_step r m).outcome) as (λ k. is_next (instruction_step r m).outcome ≡ k → run_on (suc n) h (at t r m s) out ≡ resumed_from (burst (suc n) r m) h t s out) [
      | true ↦ λ x.
          ap (continued (run_on n) n h out) (here ∙ goes t l r m s i z (next_of (instruction_step r m).outcome x))
          ∙ (ap (λ o. stopped (run_on n) o n h (at t (instruction_step r m).registers (instruction_step r m).bytes s) out) b.going
          ∙ (bursts n h t l (instruction_step r m).registers (instruction_step r m).bytes s out b i (let q = kept_size r m in omega arith)
          ∙ ap (λ y. resumed_from y h t s out) (sym (burst_true n r m x))))
      | false ↦ λ x.
          ap (continued (run_on n) n h out) (here ∙ last (instruction_step r m).outcome t l r m s b.live i z refl x)
          ∙ ap (λ y. resumed_from y h t s out) (sym (burst_false n r m x))
    ] refl

pub same : (t : ℕ) (l : Live) (m : List ℕ) (s : Tables) → threads.thread_of s.threads t ≡ Some (thread.Live l) → at t l.regs m s ≡ record { bytes = m; tables = s }
same t l m s e = ap (λ x. record { bytes = m; tables = record s { threads = x } }) (regs_same t l s.threads e)

-- a turn: a burst, and nothing is left
pub turned_out : (n h t : ℕ) (l : Live) (r : Registers) (m b : List ℕ) (s z : Tables) (out : List ℕ) (o : Outcome) (k : ℕ) → Begins h t l s out → is_immediate l.cancellation ≡ false → length m < 268435456
    → record { left = k; effect = record { outcome = o; registers = r; bytes = b } } ≡ burst n l.regs m → k ≡ 0 → z ≡ with_regs t r s
    → run_on n h (record { bytes = m; tables = s }) out ≡ record { left = 0; how = On; state = record { bytes = b; tables = z }; output = out }
turned_out n h t l r m b s z out o k e i q u v w =
    ap (λ x. run_on n h x out) (sym (same t l m s e.live))
    ∙ (bursts n h t l l.regs m s out e i q
    ∙ (ap (λ x. resumed_from x h t s out) (sym u)
    ∙ rw (v, w) refl))

-- a turn: a burst, and what ends it
pub turned : (n h t : ℕ) (l : Live) (r : Registers) (m b : List ℕ) (s y z : Tables) (out : List ℕ) (o : Outcome) (p : Option ℕ) (k j : ℕ) → k ≡ suc j → Begins h t l s out → is_immediate l.cancellation ≡ false → length m < 268435456
    → record { left = k; effect = record { outcome = o; registers = r; bytes = b } } ≡ burst n l.regs m → y ≡ with_regs t r s
    → record { state = record { bytes = b; tables = z }; put = p } ≡ ending o t (record { bytes = b; tables = y })
    → run_on n h (record { bytes = m; tables = s }) out ≡ stopped (run_on j) (stop_of h z (with_byte p out)) j h (record { bytes = b; tables = z }) (with_byte p out)
turned n h t l r m b s y z out o p k j a e i q u w v =
    ap (λ x. run_on n h x out) (sym (same t l m s e.live))
    ∙ (bursts n h t l l.regs m s out e i q
    ∙ (ap (λ x. resumed_from x h t s out) (sym (ap (λ x. record { left = x; effect = record { outcome = o; registers = r; bytes = b } }) (sym a) ∙ u))
    ∙ (ap (λ x. continued (run_on j) j h out (ending o t (record { bytes = b; tables = x }))) (sym w)
    ∙ ap (continued (run_on j) j h out) (sym v))))

-- A TURN THAT ACTS ON A REQUEST

pub acts : (h t : ℕ) (l : Live) (m : List ℕ) (s : Tables) → hart_of s h ≡ Some t → threads.thread_of s.threads t ≡ Some (thread.Live l) → is_immediate l.cancellation ≡ true → hart_step h (record { bytes = m; tables = s }) ≡ acted t (record { bytes = m; tables = s })
acts h t l m s e f i =
    ap (λ o. step_of o (record { bytes = m; tables = s })) e
    ∙ (ap (λ o. slot_step o t (record { bytes = m; tables = s })) f
    ∙ rw i refl)

pub turned_acting : (n j h t : ℕ) (l : Live) (m : List ℕ) (s z : Tables) (out : List ℕ) → n ≡ suc j → Begins h t l s out → is_immediate l.cancellation ≡ true → z ≡ calls.acted t s
    → run_on n h (record { bytes = m; tables = s }) out ≡ stopped (run_on j) (stop_of h z out) j h (record { bytes = m; tables = z }) out
turned_acting n j h t l m s z out a e i w =
    ap (λ x. run_on x h (record { bytes = m; tables = s }) out) a
    ∙ (ap (continued (run_on j) j h out) (acts h t l m s e.on e.live i)
    ∙ ap (λ y. stopped (run_on j) (stop_of h y out) j h (record { bytes = m; tables = y }) out) (sym w))
