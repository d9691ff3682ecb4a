-- Steps in a row of a thread in one function, and what is noted of them.
use Rattle.std.proofs.Common.{◌≡◌, ◌<◌, ◌∙◌, ◌+◌, ◌%◌, ◌==◌, ◌&&◌, ◌||◌, not, ℕ, zero, suc, Bool, true, false, if◌then◌else◌, List, [], ◌∷◌, ◌++◌, Option, None, Some, length, refl, sym, ap, true≢false, arith}
use Rattle.ckrt_registers.specs.Registers.{Registers}
use Rattle.ckrt_rv32i.specs.Memory.{is_valid, loaded}
use Rattle.ckrt_rv32i.specs.declared.memory_bus.Size.TheVariants as size
use Rattle.ckrt_memory.specs.Reasons.{IsOnlyAtJumps}
use Rattle.ckrt_memory.proofs.JumpLemmas.{IsOtherOpcode, low_there, other_opcode}
use Rattle.ckrt_thread.specs.Abi.{RETURN_GATE, UNWIND_GATE}
use Rattle.ckrt_thread.specs.Cancellation.{is_immediate}
use Rattle.ckrt_thread.specs.State as threads
use Rattle.ckrt_thread.specs.declared.records.Live.{Live}
use Rattle.ckrt_thread.specs.declared.records.Thread.{Thread}
use Rattle.ckrt_thread.specs.declared.records.Thread.TheVariants as thread
use Rattle.ckrt_machine.specs.Events.{Machine}
use Rattle.ckrt_machine.specs.Runs.{after_steps, stop_after, with_byte}
use Rattle.ckrt_machine.specs.RunsTo.{meets_after, meets_for, meets_on, meets_with}
use Rattle.ckrt_machine.specs.Steps.{State, hart_of, hart_step}
use Rattle.ckrt_look_profile.specs.Counts.{Counts, behind, behind_all, onward}
use Rattle.ckrt_look_profile.specs.declared.counts.Step.{Step}
use Rattle.ckrt_look_profile.specs.Turns.{jump_turn, register_turn, turn_of}
use Rattle.ckrt_look_profile.specs.declared.counts.Note.TheVariants as note
use Rattle.ckrt_look_profile.specs.declared.turn.Turn.{Turn}
use Rattle.ckrt_look_profile.specs.declared.turn.Turn.TheVariants as turn
use Rattle.ckrt_look_calls.specs.Events.{state_behind}
use Rattle.ckrt_look_recording.specs.Quiet.{GoesQuietlyTo, IsCalm, IsMetAtCalls, calls_next, is_at_gate, is_ecall_at, is_plain_of, is_quiet, is_quiet_after}
use Rattle.ckrt_look_recording.proofs.QuietLemmas.{calm_behind, meets_is, no_gate}
use Rattle.ckrt_look_calls.proofs.RowLemmas.{quiet_state}
use Rattle.ckrt_look_profile.specs.Steps.{looks_at, of_rest, of_step, step_by, step_with, word_turn}
use Rattle.ckrt_look_profile.specs.Leaving.{addresses, is_onward, leaves, leaves_at, leaves_next}
use Rattle.ckrt_look_profile.proofs.BehindLemmas.{behind_both}
use Rattle.ckrt_look_profile.proofs.WalkLemmas.{rest_next}

-- THE REASON IS MET AT CALLS AND GATES

ecall_leaves : (m : List ℕ) (pc : ℕ) → is_ecall_at m pc ≡ true → leaves_at m pc ≡ true
ecall_leaves m pc e = go (is_valid m pc size.Word) e
  where
    w : ℕ
    w = loaded m pc size.Word

    go : (b : Bool) → (b && (w == 0x73)) ≡ true → (if b then leaves w else false) ≡ true
    go true e = ap (λ c. c || not (is_onward (turn_of w))) e
    go false e = e

pub met_at_calls : IsMetAtCalls leaves_next
met_at_calls r m e = go (is_ecall_at m r.pc) (is_at_gate r.pc) refl e
  where
    go : (c g : Bool) → is_ecall_at m r.pc ≡ c → (if c then true else g) ≡ true → (if g then true else leaves_at m r.pc) ≡ true
    go c true is e = refl
    go true false is e = ecall_leaves m r.pc is
    go false false is e = absurd (true≢false (sym e))

-- and at jumps alone: no other word leaves
onward_by : (w : ℕ) → IsOtherOpcode w → turn_of w ≡ turn.Onward
onward_by w other =
    ap (λ b. if b then jump_turn w else if w % 128 == 0x67 then register_turn w else turn.Onward) other.no_jal
    ∙ ap (λ b. if b then register_turn w else turn.Onward) other.no_jalr

pub met_at_jumps : IsOnlyAtJumps leaves_next
met_at_jumps r m i whole valid is none =
    let w = loaded m r.pc size.Word in
    let other = other_opcode w i is none in
    ap (λ b. if b then true else leaves_at m r.pc) (no_gate r.pc (low_there m r.pc whole valid))
    ∙ ap (λ b. if b then leaves w else false) valid
    ∙ ap (λ b. b || not (is_onward (turn_of w))) other.no_call ∙ ap (λ u. not (is_onward u)) (onward_by w other)

-- and elsewhere it is met where a word leaves
stays_there : (r : Registers) (m : List ℕ) → leaves_next r m ≡ false → leaves_at m r.pc ≡ false
stays_there r m e = go (is_at_gate r.pc) e
  where
    go : (g : Bool) → (if g then true else leaves_at m r.pc) ≡ false → leaves_at m r.pc ≡ false
    go true e = absurd (true≢false e)
    go false e = e

calls_unmet : (r : Registers) (m : List ℕ) → leaves_next r m ≡ false → calls_next r m ≡ false
calls_unmet r m e = go (calls_next r m) refl
  where
    go : (b : Bool) → calls_next r m ≡ b → b ≡ false
    go true is = absurd (true≢false (sym (met_at_calls r m is) ∙ e))
    go false is = refl

-- THE WORD AT AN ADDRESS

pub leaves_by : (m : List ℕ) (pc w : ℕ) (b : Bool) → is_valid m pc size.Word ≡ true → w ≡ loaded m pc size.Word → b ≡ leaves w → b ≡ leaves_at m pc
leaves_by m pc w b valid is e = e ∙ ap leaves is ∙ sym (ap (λ v. if v then leaves (loaded m pc size.Word) else false) valid)

-- A WORD THAT DOESN'T LEAVE

stays : (a : Bool) (u : Turn) → (a || not (is_onward u)) ≡ false → u ≡ turn.Onward
stays true u e = absurd (true≢false e)
stays false turn.Onward e = refl
stays false turn.Call e = absurd (true≢false e)
stays false turn.Return e = absurd (true≢false e)
stays false turn.Swap e = absurd (true≢false e)
stays false (turn.Runtime p) e = absurd (true≢false e)

onward_there : (m : List ℕ) (pc : ℕ) → leaves_at m pc ≡ false → word_turn m pc ≡ turn.Onward
onward_there m pc e = go (is_valid m pc size.Word) e
  where
    w : ℕ
    w = loaded m pc size.Word

    go : (b : Bool) → (if b then leaves w else false) ≡ false → (if b then turn_of w else turn.Onward) ≡ turn.Onward
    go true e = stays (w == 0x73) (turn_of w) e
    go false e = refl

-- THE NEXT STEP OF A THREAD THAT ACTS ON NO REQUEST

abbrev pc_on : ℕ → State → ℕ
pc_on h s = (step_by (hart_of s.tables h) true s).pc

-- who is on a hart, and where
who_is : (h u : ℕ) (s : State) (calm : IsCalm h u s) → (step_by (hart_of s.tables h) true s).thread ≡ u
who_is h u s calm = ap (λ o. (step_by o true s).thread) calm.on ∙ ap (λ o. (step_with u true s.bytes (threads.regs_of o)).thread) calm.is

where_is : (h u : ℕ) (s : State) (calm : IsCalm h u s) → pc_on h s ≡ calm.live.regs.pc
where_is h u s calm = ap (λ o. (step_by o true s).pc) calm.on ∙ ap (λ o. (step_with u true s.bytes (threads.regs_of o)).pc) calm.is

module _ (h t : ℕ) (s : State) (calm : IsCalm h t s) (unmet : meets_on leaves_next h s ≡ false) where
  abbrev l : Live
  l = calm.live

  none : leaves_next l.regs s.bytes ≡ false
  none = sym (meets_is h t s l calm.on calm.is leaves_next) ∙ unmet

  -- what is noted of it
  noted : is_quiet (hart_of s.tables h) s ≡ true → of_step h s ≡ note.Step (record { thread = t; pc = pc_on h s; turn = turn.Onward }) ∷ []
  noted quiet =
      ap (λ b. note.Step (step_by (hart_of s.tables h) b s) ∷ (if b then [] else looks_at s)) quiet ∙ ap (λ o. note.Step (step_by o true s) ∷ []) calm.on
      ∙ ap (λ o. note.Step (step_with t true s.bytes (threads.regs_of o)) ∷ []) calm.is
      ∙ ap (λ u. note.Step (record { thread = t; pc = l.regs.pc; turn = u }) ∷ []) (onward_there s.bytes l.regs.pc (stays_there l.regs s.bytes none))
      ∙ ap (λ p. note.Step (record { thread = t; pc = p; turn = turn.Onward }) ∷ []) (sym (where_is h t s calm))

  calm_next : IsCalm h t (hart_step h s).state
  calm_next = calm_behind h t s calm (calls_unmet l.regs s.bytes none)

-- who is to make the first of them
calm_first : (h : ℕ) (s : State) → meets_on leaves_next h s ≡ false → is_quiet (hart_of s.tables h) s ≡ true → (t : ℕ) × IsCalm h t s
calm_first h s unmet quiet = go (hart_of s.tables h) refl unmet quiet
  where
    idle : (a b i e : Bool) → (not a && (not b && (not i && not e))) ≡ true → i ≡ false
    idle true b i e p = absurd (true≢false (sym p))
    idle false true i e p = absurd (true≢false (sym p))
    idle false false true e p = absurd (true≢false (sym p))
    idle false false false e p = refl

    by_thread : (t : ℕ) (o : Option Thread) → threads.thread_of s.tables.threads t ≡ o → hart_of s.tables h ≡ Some t → meets_with leaves_next (threads.regs_of o) s.bytes ≡ false → is_plain_of o s.bytes ≡ true
        → (t : ℕ) × IsCalm h t s
    by_thread t None is on e q = absurd (true≢false e)
    by_thread t (Some (thread.Ended v)) is on e q = absurd (true≢false e)
    by_thread t (Some (thread.Live l)) is on e q = (
      t,
      record {
        on = on;
        live = l;
        is = is;
        idle = idle (l.regs.pc == RETURN_GATE) (l.regs.pc == UNWIND_GATE) (is_immediate l.cancellation) (is_ecall_at s.bytes l.regs.pc) q;
      },
    )

    go : (o : Option ℕ) → hart_of s.tables h ≡ o → meets_for leaves_next o s ≡ false → is_quiet o s ≡ true → (t : ℕ) × IsCalm h t s
    go None on e q = absurd (true≢false e)
    go (Some t) on e q = by_thread t (threads.thread_of s.tables.threads t) refl on e q

-- STEPS IN A ROW

record GoOnward (made h : ℕ) (s : State) (out : List ℕ) : Type 0 where
  pub goes_on : (k : ℕ) → k < made → stop_after k h s out ≡ None
  pub quiet : (k : ℕ) → k < made → is_quiet_after k h s out ≡ true
  pub unmet : (k : ℕ) → k < made → meets_after leaves_next k h s out ≡ false

later : (m h : ℕ) (s : State) (out : List ℕ) → GoOnward (suc m) h s out → GoOnward m h (hart_step h s).state (with_byte (hart_step h s).put out)
later m h s out go = record {
  goes_on = λ k less. go.goes_on (suc k) (omega (arith, less));
  quiet = λ k less. go.quiet (suc k) (omega (arith, less));
  unmet = λ k less. go.unmet (suc k) (omega (arith, less));
}

-- where n more may come
onward_rest : (made n all h t : ℕ) (s : State) (out : List ℕ) → all ≡ made + n → IsCalm h t s → GoOnward made h s out
    → of_rest all h s out ≡ onward t (addresses made h s out) ++ of_rest n h (after_steps made h s out).state (after_steps made h s out).output
onward_rest zero n all h t s out is calm go = let same : all ≡ n = omega (arith, is) in ap (λ j. of_rest j h s out) same
onward_rest (suc m) n all h t s out is calm go =
    let z = (hart_step h s).state in
    let put = with_byte (hart_step h s).put out in
    let next : all ≡ suc (m + n) = omega (arith, is) in
    let unmet = go.unmet 0 (omega arith) in
    ap (λ j. of_rest j h s out) next ∙ rest_next (m + n) h s out (go.goes_on 0 (omega arith))
    ∙ ap (λ l. l ++ of_rest (m + n) h z put) (noted h t s calm unmet (go.quiet 0 (omega arith)))
    ∙ ap (λ l. note.Step (record { thread = t; pc = pc_on h s; turn = turn.Onward }) ∷ l) (onward_rest m n (m + n) h t z put refl (calm_next h t s calm unmet) (later m h s out go))

-- so many addresses
how_many : (m h : ℕ) (s : State) (out : List ℕ) → length (addresses m h s out) ≡ m
how_many zero h s out = refl
how_many (suc m) h s out = ap suc (how_many m h (hart_step h s).state (with_byte (hart_step h s).put out))

-- whoever makes the steps stays on the hart
stays_calm : (m h t : ℕ) (s : State) (out : List ℕ) → IsCalm h t s → GoOnward m h s out → IsCalm h t (after_steps m h s out).state
stays_calm zero h t s out calm go = calm
stays_calm (suc m) h t s out calm go = stays_calm m h t (hart_step h s).state (with_byte (hart_step h s).put out) (calm_next h t s calm (go.unmet 0 (omega arith))) (later m h s out go)

-- a step that is quiet is noted alone
pub quiet_noted : (h : ℕ) (s : State) → is_quiet (hart_of s.tables h) s ≡ true → of_step h s ≡ note.Step (step_by (hart_of s.tables h) true s) ∷ []
quiet_noted h s quiet = ap (λ b. note.Step (step_by (hart_of s.tables h) b s) ∷ (if b then [] else looks_at s)) quiet

as_last : {t p : ℕ} (u : Turn) (last : Step) → last.thread ≡ t → last.turn ≡ u → p ≡ last.pc → record { thread = t; pc = p; turn = u } ≡ last
as_last u last who how at = rw (sym who, sym how, at) refl

-- WHAT A MACHINE MADE

-- as it is counted at once
pub at_once : (made h t : ℕ) (s : State) (out : List ℕ) (c w : Counts) → (made ≡ 0 → w ≡ c)
    → ((further : List ℕ) → suc (length further) ≡ made → w ≡ behind_all (onward t (pc_on h s ∷ further)) c)
    → w ≡ behind_all (onward t (addresses made h s out)) c
at_once zero h t s out c w nothing some = nothing refl
at_once (suc m) h t s out c w nothing some =
    some (addresses m h (hart_step h s).state (with_byte (hart_step h s).put out)) (ap suc (how_many m h (hart_step h s).state (with_byte (hart_step h s).put out)))

-- and one more behind them, which leaves
pub at_leaving : (made h t : ℕ) (s : State) (out : List ℕ) (u : Turn) (c w : Counts) (last : Step) → last.thread ≡ t → last.turn ≡ u → (made ≡ 0 → last.pc ≡ pc_on h s)
    → (made ≡ 0 → w ≡ behind (note.Step (record { thread = t; pc = pc_on h s; turn = u })) c)
    → ((further : List ℕ) (p : ℕ) → suc (length further) ≡ made → w ≡ behind (note.Step (record { thread = t; pc = p; turn = u })) (behind_all (onward t (pc_on h s ∷ further)) c))
    → w ≡ behind (note.Step last) (behind_all (onward t (addresses made h s out)) c)
at_leaving zero h t s out u c w last who how where_first nothing some =
    nothing refl ∙ ap (λ (x : Step). behind (note.Step x) c) (as_last u last who how (sym (where_first refl)))
at_leaving (suc m) h t s out u c w last who how where_first nothing some =
    let those = addresses m h (hart_step h s).state (with_byte (hart_step h s).put out) in
    some those last.pc (ap suc (how_many m h (hart_step h s).state (with_byte (hart_step h s).put out)))
    ∙ ap (λ (x : Step). behind (note.Step x) (behind_all (onward t (pc_on h s ∷ those)) c)) (as_last u last who how refl)

module _ (limit made h n : ℕ) (old new : Machine) (left : limit ≡ made + n) (did : GoesQuietlyTo leaves_next limit made h old new) where
  abbrev pub t : ℕ
  t = (step_by (hart_of old.state.tables h) true old.state).thread

  from : (m : ℕ) → limit ≡ m + n → GoOnward m h old.state old.output
      → of_rest limit h old.state old.output ≡ onward t (addresses m h old.state old.output) ++ of_rest n h (after_steps m h old.state old.output).state (after_steps m h old.state old.output).output
  from zero is go = let same : limit ≡ n = omega (arith, is) in ap (λ j. of_rest j h old.state old.output) same
  from (suc m) is go =
      let who = calm_first h old.state (go.unmet 0 (omega arith)) (go.quiet 0 (omega arith)) in
      let rest = of_rest n h (after_steps (suc m) h old.state old.output).state (after_steps (suc m) h old.state old.output).output in
      onward_rest (suc m) n limit h who.0 old.state old.output is who.1 go
      ∙ ap (λ u. onward u (addresses (suc m) h old.state old.output) ++ rest) (sym (who_is h who.0 old.state who.1))

  pub same_thread : (step_by (hart_of new.state.tables h) true new.state).thread ≡ t
  same_thread = ap (λ (s : State). (step_by (hart_of s.tables h) true s).thread) did.state ∙ go made (record { goes_on = did.goes_on; quiet = did.quiet; unmet = did.unmet })
    where
      thread_of : State → ℕ
      thread_of s = (step_by (hart_of s.tables h) true s).thread

      go : (m : ℕ) → GoOnward m h old.state old.output → thread_of (after_steps m h old.state old.output).state ≡ t
      go zero steps = refl
      go (suc m) steps =
          let who = calm_first h old.state (steps.unmet 0 (omega arith)) (steps.quiet 0 (omega arith)) in
          who_is h who.0 (after_steps (suc m) h old.state old.output).state (stays_calm (suc m) h who.0 old.state old.output who.1 steps)
          ∙ sym (who_is h who.0 old.state who.1)

  pub made_counted : (c w : Counts) → w ≡ behind_all (onward t (addresses made h old.state old.output)) c
      → behind_all (of_rest n h new.state new.output) w ≡ behind_all (of_rest limit h old.state old.output) c
  made_counted c w is =
      let end = after_steps made h old.state old.output in
      let those = onward t (addresses made h old.state old.output) in
      ap (λ (s : State). behind_all (of_rest n h s new.output) w) did.state ∙ ap (λ out. behind_all (of_rest n h end.state out) w) did.output
      ∙ ap (λ (v : Counts). behind_all (of_rest n h end.state end.output) v) is
      ∙ sym (behind_both those (of_rest n h end.state end.output) c)
      ∙ ap (λ l. behind_all l c) (sym (from made left (record { goes_on = did.goes_on; quiet = did.quiet; unmet = did.unmet })))

  pub made_state : state_behind n h new.state new.output ≡ state_behind limit h old.state old.output
  made_state =
      let end = after_steps made h old.state old.output in
      ap (λ (s : State). state_behind n h s new.output) did.state ∙ ap (λ out. state_behind n h end.state out) did.output
      ∙ sym (quiet_state made n limit h old.state old.output left did.goes_on)
