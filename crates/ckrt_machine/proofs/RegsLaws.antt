-- Registers in the table of threads.
use Rattle.std.proofs.Common.{◌≡◌, ℕ, zero, suc, eqb, cond, List, [], ◌∷◌, true, Option, Some, None, ap, arith, refl, ◌∙◌, slice_get}
use Rattle.std.specs.Option.{option_flatten}
use Rattle.std.proofs.lemmas.Bool.Decides.{nat_tests}
use Rattle.ckrt_registers.specs.Registers.{Registers}
use Rattle.ckrt_thread.specs.declared.records.Thread.{Thread}
use Rattle.ckrt_thread.specs.declared.records.Thread.TheVariants as thread
use Rattle.ckrt_thread.specs.declared.records.Live.{Live}
use Rattle.ckrt_thread.specs.State.{State, thread_of, change_thread, change_live, with_regs, with_thread_regs}
use Rattle.ckrt_thread.proofs.SlotLemmas.{changed_at}

pub regs_read : (t : ℕ) (r : Registers) (l : Live) (s : State) → thread_of s t ≡ Some (thread.Live l) → thread_of (with_thread_regs t r s) t ≡ Some (thread.Live (record l { regs = r }))
regs_read t r l s e =
    let same : eqb t t ≡ true = grind (arith, nat_tests) in
    changed_at (with_regs r) s.threads t t ∙ (ap (λ b. cond b (change_live (with_regs r) (thread_of s t)) (thread_of s t)) same ∙ ap (change_live (with_regs r)) e)

change_twice : (q r : Registers) (o : Option Thread) → change_live (with_regs q) (change_live (with_regs r) o) ≡ change_live (with_regs q) o
change_twice q r None = refl
change_twice q r (Some (thread.Ended v)) = refl
change_twice q r (Some (thread.Live l)) = refl

change_thread_twice : (q r : Registers) (ts : List (Option Thread)) (t : ℕ) → change_thread (with_regs q) t (change_thread (with_regs r) t ts) ≡ change_thread (with_regs q) t ts
change_thread_twice q r [] t = refl
change_thread_twice q r (x ∷ ts) zero = ap (λ y. y ∷ ts) (change_twice q r x)
change_thread_twice q r (x ∷ ts) (suc t) = ap (λ us. x ∷ us) (change_thread_twice q r ts t)

pub regs_twice : (t : ℕ) (q r : Registers) (s : State) → with_thread_regs t q (with_thread_regs t r s) ≡ with_thread_regs t q s
regs_twice t q r s = ap (λ ts. record s { threads = ts }) (change_thread_twice q r s.threads t)

change_same : (l : Live) (ts : List (Option Thread)) (t : ℕ) → option_flatten (slice_get ts t) ≡ Some (thread.Live l) → change_thread (with_regs l.regs) t ts ≡ ts
change_same l [] t e = refl
change_same l (x ∷ ts) zero e = (let x_is : x ≡ Some (thread.Live l) = e in rw x_is refl)
change_same l (x ∷ ts) (suc t) e = ap (λ us. x ∷ us) (change_same l ts t e)

pub regs_same : (t : ℕ) (l : Live) (s : State) → thread_of s t ≡ Some (thread.Live l) → with_thread_regs t l.regs s ≡ s
regs_same t l s e = ap (λ ts. record s { threads = ts }) (change_same l s.threads t e)
