-- Quiet steps: an instruction calls only where ECALL stands, and of a thread that acts on no request whatever stands before it is looked for by its registers and the bytes.
use Rattle.std.proofs.Common.{◌≡◌, ◌≢◌, ◌<◌, ◌∙◌, ◌%◌, ◌==◌, ◌&&◌, not, ℕ, zero, suc, Bool, true, false, cond, List, Option, None, Some, is_some, refl, sym, ap, subst, true≢false, arith, ◌⊎◌, inl, inr}
use Rattle.std.proofs.lemmas.Bool.Decides.{nat_tests}
use Rattle.ckrt_registers.specs.Registers.{Registers, get}
use Rattle.ckrt_rv32i.specs.Memory.{is_aligned, is_valid, loaded}
use Rattle.ckrt_rv32i.specs.Decoding.{instruction_of}
use Rattle.ckrt_rv32i.specs.Effect.{Effect, effect, fault, holds, instruction_step, jump, load_effect, load_size, performed, store_effect}
use Rattle.ckrt_rv32i.proofs.DecodingLaws.{encoded}
use Rattle.ckrt_rv32i.specs.declared.memory_bus.Size.{Size}
use Rattle.ckrt_rv32i.specs.declared.memory_bus.Size.TheVariants as size
use Rattle.ckrt_rv32i.specs.declared.instruction.Instr.{Instr}
use Rattle.ckrt_rv32i.specs.declared.instruction.Instr.TheVariants.{Lui, Auipc, Jal, Jalr, Branch, Load, Store, AluImm, Shift, Alu, Fence, Ecall, Ebreak}
use Rattle.ckrt_rv32i.specs.declared.instruction.LoadKind.{LoadKind}
use Rattle.ckrt_rv32i.specs.declared.execution.Outcome.{Outcome}
use Rattle.ckrt_rv32i.specs.declared.execution.Outcome.TheVariants.{Next, Call, Fault}
use Rattle.ckrt_rv32i.specs.declared.execution.Cause.{Cause}
use Rattle.ckrt_rv32i.specs.declared.execution.Cause.TheVariants as cause
use Rattle.ckrt_memory.specs.Reasons.{IsOnlyAtJumps, Meets}
use Rattle.ckrt_memory.proofs.JumpLemmas.{low_there, other_opcode}
use Rattle.ckrt_thread.specs.Abi.{RETURN_GATE, UNWIND_GATE}
use Rattle.ckrt_thread.specs.Cancellation.{is_immediate}
use Rattle.ckrt_thread.specs.State as threads
use Rattle.ckrt_thread.specs.declared.records.Live.{Live}
use Rattle.ckrt_thread.specs.declared.records.Thread.{Thread}
use Rattle.ckrt_thread.specs.declared.records.Thread.TheVariants as thread
use Rattle.ckrt_machine.specs.declared.event.RunEnd.{RunEnd}
use Rattle.ckrt_machine.specs.declared.event.RunEnd.TheVariants.{On, Off, End}
use Rattle.ckrt_machine.specs.Events.{Machine}
use Rattle.ckrt_machine.specs.Steps as steps
use Rattle.ckrt_machine.specs.Steps.{State, Stepped, hart_of, hart_step, slot_step, step_of, thread_step}
use Rattle.std.specs.Prelude.{if◌then◌else◌, is_none, nat_le, length}
use Rattle.ckrt_machine.specs.Runs.{RUN_OUTPUT, after_steps, is_running, stop_after, stop_of, with_byte}
use Rattle.ckrt_machine.specs.RunsTo.{EndedBy, HasMadeTo, meets_after, meets_for, meets_on, meets_with}
use Rattle.ckrt_machine.proofs.RegsLaws.{regs_read}
use Rattle.ckrt_look_recording.specs.Quiet.{GoesQuietly, GoesQuietlyTo, IsCalm, IsLiveOn, IsMetAtCalls, acts_first, acts_next, calls_next, is_at_gate, is_ecall_at, is_plain, is_plain_of, is_quiet, is_quiet_after, or_call}

-- AN INSTRUCTION CALLS ONLY WHERE ECALL STANDS

-- an effect is a call only if
abbrev Calls : Type 0 → Effect → Type 0
Calls P e = e.outcome ≡ Call → P

either : (P : Type 0) (b : Bool) (x y : Effect) → Calls P x → Calls P y → Calls P (cond b x y)
either P true x y p q = p
either P false x y p q = q

faults : (P : Type 0) (c : Cause) (h : Registers) (m : List ℕ) → Calls P (fault c h m)
faults P c h m = λ e. absurd (cc)

goes_next : (P : Type 0) → Next ≡ Call → P
goes_next P e = absurd (cc)

jumps : (P : Type 0) (target : ℕ) (x : List ℕ) (h : Registers) (m : List ℕ) → Calls P (jump target x h m)
jumps P target x h m = either P (target % 4 == 0) _ _ (goes_next P) (faults P _ h m)

loads : (P : Type 0) (k : LoadKind) (rd a : ℕ) (h : Registers) (m : List ℕ) → Calls P (load_effect k rd a h m)
loads P k rd a h m =
    either P (not (is_aligned a (load_size k))) _ _ (faults P _ h m)
    (either P (not (is_valid m a (load_size k))) _ _ (faults P _ h m) (goes_next P))

stores : (P : Type 0) (s : Size) (a v : ℕ) (h : Registers) (m : List ℕ) → Calls P (store_effect s a v h m)
stores P s a v h m =
    either P (not (is_aligned a s)) _ _ (faults P _ h m)
    (either P (not (is_valid m a s)) _ _ (faults P _ h m) (goes_next P))

calls_by : (i : Instr) (h : Registers) (m : List ℕ) → Calls (i ≡ Ecall) (effect i h m)
calls_by (Lui rd imm) h m = goes_next _
calls_by (Auipc rd imm) h m = goes_next _
calls_by (Jal rd offset) h m = jumps _ _ _ h m
calls_by (Jalr rd rs1 offset) h m = jumps _ _ _ h m
calls_by (Branch c rs1 rs2 offset) h m = either _ (holds c (get h rs1) (get h rs2)) _ _ (jumps _ _ _ h m) (goes_next _)
calls_by (Load k rd rs1 offset) h m = loads _ k rd _ h m
calls_by (Store s rs1 rs2 offset) h m = stores _ s _ _ h m
calls_by (AluImm op rd rs1 imm) h m = goes_next _
calls_by (Shift op rd rs1 amount) h m = goes_next _
calls_by (Alu op rd rs1 rs2) h m = goes_next _
calls_by (Fence rd rs1 imm) h m = goes_next _
calls_by Ecall h m = λ e. refl
calls_by Ebreak h m = faults _ _ h m

calls_if : (o : Option Instr) (h : Registers) (m : List ℕ) → Calls (o ≡ Some Ecall) (performed o h m)
calls_if None h m = faults _ _ h m
calls_if (Some i) h m = λ e. ap Some (calls_by i h m e)

-- the word of ECALL
is_word : (w : ℕ) → instruction_of w ≡ Some Ecall → (w == 0x73) ≡ true
is_word w e = ap (λ v. v == 0x73) (encoded w Ecall e)

pub calls_there : (h : Registers) (m : List ℕ) → Calls (is_ecall_at m h.pc ≡ true) (instruction_step h m)
calls_there h m = go (is_valid m h.pc size.Word)
  where
    w : ℕ
    w = loaded m h.pc size.Word

    go : (b : Bool) → Calls ((b && (w == 0x73)) ≡ true) (cond b (performed (instruction_of w) h m) (fault cause.FetchRange h m))
    go true = λ e. is_word w (calls_if (instruction_of w) h m e)
    go false = λ e. absurd (cc)

-- SO THE REASON IS MET AT JUMPS ALONE: an instruction that neither jumps nor calls is no ECALL, and no gate is in a memory

pub no_gate : (pc : ℕ) → pc < 268435456 → is_at_gate pc ≡ false
no_gate pc low =
    let first : (pc == RETURN_GATE) ≡ false = grind (arith, nat_tests, low) in
    let second : (pc == UNWIND_GATE) ≡ false = grind (arith, nat_tests, low) in
    ap (λ b. if b then true else pc == UNWIND_GATE) first ∙ second

pub calls_at_jumps : IsOnlyAtJumps calls_next
calls_at_jumps r m i whole valid is none =
    let w = loaded m r.pc size.Word in
    let no_call : is_ecall_at m r.pc ≡ false = ap (λ b. b && (w == 0x73)) valid ∙ (other_opcode w i is none).no_call in
    ap (λ b. if b then true else is_at_gate r.pc) no_call ∙ no_gate r.pc (low_there m r.pc whole valid)

-- a reason, or a call

pub met_at_calls : (meets : Meets) → IsMetAtCalls (or_call meets)
met_at_calls meets r m is = ap (λ b. if b then true else meets r m) is

pub only_at_jumps : (meets : Meets) → IsOnlyAtJumps meets → IsOnlyAtJumps (or_call meets)
only_at_jumps meets only r m i whole valid is none =
    ap (λ b. if b then true else meets r m) (calls_at_jumps r m i whole valid is none) ∙ only r m i whole valid is none

-- so the reason isn't met either
pub neither : (meets : Meets) (r : Registers) (m : List ℕ) → or_call meets r m ≡ false → meets r m ≡ false
neither meets r m unmet = go (calls_next r m) unmet
  where
    go : (b : Bool) → (if b then true else meets r m) ≡ false → meets r m ≡ false
    go true e = absurd (true≢false e)
    go false e = e

-- A STEP MORE

pub state_more : (k h : ℕ) (s : State) (out : List ℕ) → (after_steps (suc k) h s out).state ≡ (hart_step h (after_steps k h s out).state).state
state_more zero h s out = refl
state_more (suc k) h s out = state_more k h (hart_step h s).state (with_byte (hart_step h s).put out)

pub output_more : (k h : ℕ) (s : State) (out : List ℕ) → (after_steps (suc k) h s out).output ≡ with_byte (hart_step h (after_steps k h s out).state).put (after_steps k h s out).output
output_more zero h s out = refl
output_more (suc k) h s out = output_more k h (hart_step h s).state (with_byte (hart_step h s).put out)

-- A THREAD ON A HART THAT ACTS ON NO REQUEST

-- what no call and no gate leaves of the choices of a step
picked : (e a b i : Bool) → (if e then true else (if a then true else b)) ≡ false → i ≡ false → (not a && (not b && (not i && not e))) ≡ true
picked true a b i p q = absurd (true≢false p)
picked false true b i p q = absurd (true≢false p)
picked false false true i p q = absurd (true≢false p)
picked false false false true p q = absurd (true≢false q)
picked false false false false p q = refl

-- and what one leaves
missed : (e a b i : Bool) → (if e then true else (if a then true else b)) ≡ true → (not a && (not b && (not i && not e))) ≡ false
missed e true b i p = refl
missed e false true i p = refl
missed e false false true p = refl
missed true false false false p = refl
missed false false false false p = absurd (true≢false (sym p))

acting : (e a b i : Bool) → i ≡ true → (not a && (not b && (not i && not e))) ≡ false
acting e true b i p = refl
acting e false true i p = refl
acting e false false true p = refl
acting e false false false p = absurd (true≢false (sym p))

module _ (h t : ℕ) (s : State) (l : Live) (on : hart_of s.tables h ≡ Some t) (is : threads.thread_of s.tables.threads t ≡ Some (thread.Live l)) where
  quiet_is : is_quiet (hart_of s.tables h) s ≡ is_plain l s.bytes
  quiet_is = ap (λ o. is_quiet o s) on ∙ ap (λ o. is_plain_of o s.bytes) is

  pub meets_is : (meets : Meets) → meets_on meets h s ≡ meets l.regs s.bytes
  meets_is meets = ap (λ o. meets_for meets o s) on ∙ ap (λ o. meets_with meets (threads.regs_of o) s.bytes) is

  step_is : hart_step h s ≡ thread_step l t s
  step_is = ap (λ o. step_of o s) on ∙ ap (λ o. slot_step o t s) is

  -- a step at a call or a gate isn't quiet
  loud_there : calls_next l.regs s.bytes ≡ true → is_quiet (hart_of s.tables h) s ≡ false
  loud_there met = quiet_is ∙ missed (is_ecall_at s.bytes l.regs.pc) (l.regs.pc == RETURN_GATE) (l.regs.pc == UNWIND_GATE) (is_immediate l.cancellation) met

  loud_acting : is_immediate l.cancellation ≡ true → is_quiet (hart_of s.tables h) s ≡ false
  loud_acting acts = quiet_is ∙ acting (is_ecall_at s.bytes l.regs.pc) (l.regs.pc == RETURN_GATE) (l.regs.pc == UNWIND_GATE) (is_immediate l.cancellation) acts

-- another step is, where the thread acts on no request
module _ (h t : ℕ) (s : State) (calm : IsCalm h t s) (none : calls_next calm.live.regs s.bytes ≡ false) where
  pub quiet_there : is_quiet (hart_of s.tables h) s ≡ true
  quiet_there =
      let l = calm.live in
      quiet_is h t s l calm.on calm.is ∙ picked (is_ecall_at s.bytes l.regs.pc) (l.regs.pc == RETURN_GATE) (l.regs.pc == UNWIND_GATE) (is_immediate l.cancellation) none calm.idle

  after_effect : (o : Outcome) (r : Registers) (m : List ℕ) → o ≢ Call → IsCalm h t (steps.performed o t r m s).state
  after_effect Next r m never = record {
    on = calm.on;
    live = record calm.live { regs = r };
    is = regs_read t r calm.live s.tables.threads calm.is;
    idle = calm.idle;
  }
  after_effect Call r m never = absurd (never refl)
  after_effect (Fault c) r m never = record { on = calm.on; live = calm.live; is = calm.is; idle = calm.idle }

  chosen : (e a b i : Bool) (x y z w : Stepped) → (if e then true else (if a then true else b)) ≡ false → i ≡ false → (e ≡ false → IsCalm h t w.state) → IsCalm h t (cond i x (cond a y (cond b z w))).state
  chosen true a b i x y z w p q goes = absurd (true≢false p)
  chosen false true b i x y z w p q goes = absurd (true≢false p)
  chosen false false true i x y z w p q goes = absurd (true≢false p)
  chosen false false false true x y z w p q goes = absurd (true≢false q)
  chosen false false false false x y z w p q goes = goes refl

  -- and it leaves the thread so
  pub calm_behind : IsCalm h t (hart_step h s).state
  calm_behind =
      let l = calm.live in
      let step = instruction_step l.regs s.bytes in
      subst (λ (e : Stepped). IsCalm h t e.state) (sym (step_is h t s l calm.on calm.is))
      (chosen (is_ecall_at s.bytes l.regs.pc) (l.regs.pc == RETURN_GATE) (l.regs.pc == UNWIND_GATE) (is_immediate l.cancellation) _ _ _ (steps.performed step.outcome t step.registers step.bytes s) none calm.idle
      (λ nothing. after_effect step.outcome step.registers step.bytes (λ call. true≢false (sym (calls_there l.regs s.bytes call) ∙ nothing))))

-- AS A RUN GOES ON QUIETLY BEGINS

pub somebody : (h : ℕ) (s : State) (out : List ℕ) → stop_of h s.tables out ≡ None → (t : ℕ) × (hart_of s.tables h ≡ Some t)
somebody h s out going = go (is_running s.tables.status) (hart_of s.tables h) refl going
  where
    go : (b : Bool) (o : Option ℕ) → hart_of s.tables h ≡ o → (if b then (if is_none o then Some Off else if nat_le RUN_OUTPUT (length out) then Some On else None) else Some End) ≡ None → (t : ℕ) × (hart_of s.tables h ≡ Some t)
    go false o e stop = absurd (cc)
    go true None e stop = absurd (cc)
    go true (Some t) e stop = (t, e)

live_is : (o : Option Thread) → threads.is_live_thread o ≡ true → (l : Live) × (o ≡ Some (thread.Live l))
live_is None e = absurd (true≢false (sym e))
live_is (Some (thread.Ended v)) e = absurd (true≢false (sym e))
live_is (Some (thread.Live l)) e = (l, refl)

pub calm_by : (h t : ℕ) (s : State) → hart_of s.tables h ≡ Some t → IsLiveOn h s → acts_next (hart_of s.tables h) s ≡ false → IsCalm h t s
calm_by h t s on lives idle =
    let slot = live_is (threads.thread_of s.tables.threads t) (lives t on) in
    record { on = on; live = slot.0; is = slot.1; idle = ap acts_first (sym slot.1) ∙ ap (λ o. acts_next o s) (sym on) ∙ idle }

pub calm_here : (h : ℕ) (s : State) (out : List ℕ) → stop_of h s.tables out ≡ None → IsLiveOn h s → acts_next (hart_of s.tables h) s ≡ false → (t : ℕ) × IsCalm h t s
calm_here h s out going lives idle =
    let who = somebody h s out going in
    (who.0, calm_by h who.0 s who.1 lives idle)

pub loud_acting_here : (h : ℕ) (s : State) → acts_next (hart_of s.tables h) s ≡ true → is_quiet (hart_of s.tables h) s ≡ false
loud_acting_here h s acts = go (hart_of s.tables h) refl acts
  where
    by_thread : (t : ℕ) (o : Option Thread) → threads.thread_of s.tables.threads t ≡ o → hart_of s.tables h ≡ Some t → acts_first o ≡ true → is_quiet (hart_of s.tables h) s ≡ false
    by_thread t None is on e = absurd (true≢false (sym e))
    by_thread t (Some (thread.Ended v)) is on e = absurd (true≢false (sym e))
    by_thread t (Some (thread.Live l)) is on e = loud_acting h t s l on is e

    go : (o : Option ℕ) → hart_of s.tables h ≡ o → acts_next o s ≡ true → is_quiet (hart_of s.tables h) s ≡ false
    go None on e = absurd (true≢false (sym e))
    go (Some t) on e = by_thread t (threads.thread_of s.tables.threads t) refl on e

-- where a call or a gate is met, the run has ended or the step isn't quiet
pub loud_where_met : (h : ℕ) (s : State) (out : List ℕ) → IsLiveOn h s → meets_on calls_next h s ≡ true → (is_some (stop_of h s.tables out) ≡ true) ⊎ (is_quiet (hart_of s.tables h) s ≡ false)
loud_where_met h s out lives met = go (stop_of h s.tables out) refl
  where
    go : (o : Option RunEnd) → stop_of h s.tables out ≡ o → (is_some (stop_of h s.tables out) ≡ true) ⊎ (is_quiet (hart_of s.tables h) s ≡ false)
    go (Some how) e = inl (ap is_some e)
    go None e =
        let who = somebody h s out e in
        let slot = live_is (threads.thread_of s.tables.threads who.0) (lives who.0 who.1) in
        inr (loud_there h who.0 s slot.0 who.1 slot.1 (sym (meets_is h who.0 s slot.0 who.1 slot.1 calls_next) ∙ met))

-- STEPS IN A ROW, before each of which a reason wasn't met that is met at calls and gates

not_true : (a b : Bool) → (a ≡ true → b ≡ true) → b ≡ false → a ≡ false
not_true true b p q = absurd (true≢false (sym (p refl) ∙ q))
not_true false b p q = refl

module _ (meets : Meets) (calls : IsMetAtCalls meets) (h t : ℕ) (s : State) (out : List ℕ) (calm : IsCalm h t s) where
  none_next : (z : State) (c : IsCalm h t z) → meets_on meets h z ≡ false → calls_next c.live.regs z.bytes ≡ false
  none_next z c unmet = not_true _ _ (calls c.live.regs z.bytes) (sym (meets_is h t z c.live c.on c.is meets) ∙ unmet)

  pub calm_after : (m : ℕ) → ((k : ℕ) → k < m → meets_after meets k h s out ≡ false) → IsCalm h t (after_steps m h s out).state
  calm_after zero unmet = calm
  calm_after (suc m) unmet =
      let z = (after_steps m h s out).state in
      let here : IsCalm h t z = calm_after m (λ k less. unmet k (omega (arith, less))) in
      subst (λ (y : State). IsCalm h t y) (sym (state_more m h s out)) (calm_behind h t z here (none_next z here (unmet m (omega arith))))

  quiet_after : (m : ℕ) → ((k : ℕ) → k < m → meets_after meets k h s out ≡ false) → (k : ℕ) → k < m → is_quiet_after k h s out ≡ true
  quiet_after m unmet k less =
      let z = (after_steps k h s out).state in
      let here : IsCalm h t z = calm_after k (λ j fewer. unmet j (omega (arith, less, fewer))) in
      quiet_there h t z here (none_next z here (unmet k less))

-- what a run to such a reason made of a machine whose thread is so
module _ (meets : Meets) (calls : IsMetAtCalls meets) (h limit made : ℕ) (old new : Machine) (left : ℕ) (how : Option RunEnd) (t : ℕ) (calm : IsCalm h t old.state) (going : stop_of h old.state.tables old.output ≡ None)
    (did : HasMadeTo meets limit made h (record { state = old.state; output = old.output }) (record { left = left; how = how; state = new.state; output = new.output })) where
  goes_on : (k : ℕ) → k < made → stop_after k h old.state old.output ≡ None
  goes_on zero less = going
  goes_on (suc k) less = did.goes_on (suc k) (omega arith) less

  ended_by : (o : Option RunEnd) → EndedBy meets limit made h (record { state = old.state; output = old.output }) o → made < limit
      → (is_some (stop_after made h old.state old.output) ≡ true) ⊎ ((meets_after meets made h old.state old.output ≡ true) ⊎ (is_quiet_after made h old.state old.output ≡ false))
  ended_by None is less = inr (inl is.met)
  ended_by (Some w) (inl last) less = inl (ap is_some last.1)
  ended_by (Some w) (inr all) less = absurd (omega (arith, all.0, less))

  pub went : GoesQuietlyTo meets limit made h old new
  went = record {
    within = omega (arith, did.count);
    state = did.state;
    output = did.output;
    goes_on = goes_on;
    quiet = λ k less. quiet_after meets calls h t old.state old.output calm made did.unmet k less;
    unmet = did.unmet;
    ended = ended_by how did.ended;
  }

-- one that acts on a request makes none
pub stays : (meets : Meets) (h limit : ℕ) (m : Machine) → acts_next (hart_of m.state.tables h) m.state ≡ true → GoesQuietlyTo meets limit 0 h m m
stays meets h limit m acts = record {
  within = omega arith;
  state = refl;
  output = refl;
  goes_on = λ k less. absurd (omega (arith, less));
  quiet = λ k less. absurd (omega (arith, less));
  unmet = λ k less. absurd (omega (arith, less));
  ended = λ less. inr (inr (loud_acting_here h m.state acts));
}

-- where the reason is met at calls and gates alone
pub went_quietly : (limit made h : ℕ) (old new : Machine) → IsLiveOn h new.state → GoesQuietlyTo calls_next limit made h old new → GoesQuietly limit made h old new
went_quietly limit made h old new lives did = record {
  within = did.within;
  state = did.state;
  output = did.output;
  goes_on = did.goes_on;
  quiet = did.quiet;
  ended = λ less. by_end (did.ended less);
}
  where
    z : State
    z = (after_steps made h old.state old.output).state

    lives_there : IsLiveOn h z
    lives_there = subst (λ (y : State). IsLiveOn h y) did.state lives

    by_end : (is_some (stop_after made h old.state old.output) ≡ true) ⊎ ((meets_after calls_next made h old.state old.output ≡ true) ⊎ (is_quiet_after made h old.state old.output ≡ false))
        → (is_some (stop_after made h old.state old.output) ≡ true) ⊎ (is_quiet_after made h old.state old.output ≡ false)
    by_end (inl stops) = inl stops
    by_end (inr (inl met)) = loud_where_met h z (after_steps made h old.state old.output).output lives_there met
    by_end (inr (inr loud)) = inr loud
