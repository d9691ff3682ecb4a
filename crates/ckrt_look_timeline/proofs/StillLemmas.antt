-- What a quiet step leaves as it is.
use Rattle.std.proofs.Common.{◌≡◌, ◌≢◌, ◌∙◌, ◌==◌, ◌&&◌, not, ℕ, Bool, true, false, cond, List, Option, None, Some, refl, sym, ap, subst, true≢false, eqb, eqb-true}
use Rattle.std.specs.Option.{option_flatten}
use Rattle.std.specs.Prelude.{slice_get}
use Rattle.ckrt_registers.specs.Registers.{Registers}
use Rattle.ckrt_rv32i.specs.Effect.{instruction_step}
use Rattle.ckrt_rv32i.specs.declared.execution.Outcome.{Outcome}
use Rattle.ckrt_rv32i.specs.declared.execution.Outcome.TheVariants.{Next, Call, Fault}
use Rattle.ckrt_thread.specs.Abi.{RETURN_GATE, UNWIND_GATE}
use Rattle.ckrt_thread.specs.Cancellation.{is_immediate}
use Rattle.ckrt_thread.specs.State as threads
use Rattle.ckrt_thread.specs.declared.records.Live.{Live}
use Rattle.ckrt_thread.specs.declared.records.Thread.{Thread}
use Rattle.ckrt_thread.specs.declared.records.Thread.TheVariants as thread
use Rattle.ckrt_machine.specs.Steps as steps
use Rattle.ckrt_machine.specs.Steps.{State, Stepped, hart_of, hart_step, slot_step, step_of, thread_step}
use Rattle.ckrt_machine.proofs.RegsLaws.{regs_read}
use Rattle.ckrt_thread.proofs.SlotLemmas.{slot_elsewhere}
use Rattle.ckrt_look_recording.specs.Quiet.{is_ecall_at, is_plain, is_plain_of, is_quiet}
use Rattle.ckrt_look_recording.proofs.QuietLemmas.{calls_there}
use Rattle.ckrt_look_timeline.specs.Still.{IsStill, standing}

same_still : (s : threads.State) → IsStill s s
same_still s = record { waits = refl; harts = refl; stand = λ t. refl }

-- other registers of one thread
regs_still : (q : ℕ) (r : Registers) (l : Live) (s : threads.State) → threads.thread_of s q ≡ Some (thread.Live l) → IsStill s (threads.with_thread_regs q r s)
regs_still q r l s live = record { waits = refl; harts = refl; stand = λ t. go t (eqb q t) refl }
  where
    go : (t : ℕ) (b : Bool) → eqb q t ≡ b → standing (threads.thread_of (threads.with_thread_regs q r s) t) ≡ standing (threads.thread_of s t)
    go t false e = ap standing (slot_elsewhere s.threads q t (threads.change_live (threads.with_regs r) (option_flatten (slice_get s.threads q))) e)
    go t true e = subst (λ i. standing (threads.thread_of (threads.with_thread_regs q r s) i) ≡ standing (threads.thread_of s i)) (eqb-true q t e) (ap standing (regs_read q r l s live) ∙ sym (ap standing live))

performed_still : (o : Outcome) (q : ℕ) (l : Live) (r : Registers) (m : List ℕ) (s : State) → threads.thread_of s.tables.threads q ≡ Some (thread.Live l) → o ≢ Call
    → IsStill s.tables.threads (steps.performed o q r m s).state.tables.threads
performed_still Next q l r m s live never = regs_still q r l s.tables.threads live
performed_still Call q l r m s live never = absurd (never refl)
performed_still (Fault c) q l r m s live never = same_still s.tables.threads

choose : (a b i e : Bool) (x y z w : Stepped) (s : threads.State) → (e ≡ false → IsStill s w.state.tables.threads) → (not a && (not b && (not i && not e))) ≡ true
    → IsStill s (cond i x (cond a y (cond b z w))).state.tables.threads
choose true b i e x y z w s still p = absurd (true≢false (sym p))
choose false true i e x y z w s still p = absurd (true≢false (sym p))
choose false false true e x y z w s still p = absurd (true≢false (sym p))
choose false false false true x y z w s still p = absurd (true≢false (sym p))
choose false false false false x y z w s still p = still refl

plain_still : (l : Live) (q : ℕ) (s : State) → threads.thread_of s.tables.threads q ≡ Some (thread.Live l) → is_plain l s.bytes ≡ true → IsStill s.tables.threads (thread_step l q s).state.tables.threads
plain_still l q s live plain =
    let step = instruction_step l.regs s.bytes in
    choose (l.regs.pc == RETURN_GATE) (l.regs.pc == UNWIND_GATE) (is_immediate l.cancellation) (is_ecall_at s.bytes l.regs.pc) _ _ _ (steps.performed step.outcome q step.registers step.bytes s) s.tables.threads
    (λ none. performed_still step.outcome q l step.registers step.bytes s live (λ call. true≢false (sym (calls_there l.regs s.bytes call) ∙ none))) plain

slot_still : (o : Option Thread) (q : ℕ) (s : State) → threads.thread_of s.tables.threads q ≡ o → is_plain_of o s.bytes ≡ true → IsStill s.tables.threads (slot_step o q s).state.tables.threads
slot_still None q s is plain = same_still s.tables.threads
slot_still (Some (thread.Ended v)) q s is plain = same_still s.tables.threads
slot_still (Some (thread.Live l)) q s is plain = plain_still l q s is plain

-- a quiet step of the thread on a hart
pub quiet_still : (h : ℕ) (s : State) → is_quiet (hart_of s.tables h) s ≡ true → IsStill s.tables.threads (hart_step h s).state.tables.threads
quiet_still h s quiet = go (hart_of s.tables h) quiet
  where
    go : (o : Option ℕ) → is_quiet o s ≡ true → IsStill s.tables.threads (step_of o s).state.tables.threads
    go None e = same_still s.tables.threads
    go (Some q) e = slot_still (threads.thread_of s.tables.threads q) q s refl e
