-- A table of threads that loses all that it has.
use Rattle.std.proofs.Common.{◌≡◌, ℕ, zero, suc, ◌==◌, ◌+◌, ◌<◌, Bool, true, false, List, [], ◌∷◌, length, replicate, Option, Some, None, is_some, not, slice_get, slice_set, refl, sym, ap, ◌∙◌, arith, if◌then◌else◌}
use Rattle.std.specs.Option.{option_flatten}
use Rattle.std.proofs.lemmas.Bool.Decides.{nat_tests}
use Rattle.ckrt_registers.specs.Registers.{Registers}
use Rattle.ckrt_thread.specs.declared.records.Wait.{Wait}
use Rattle.ckrt_thread.specs.declared.records.Thread.{Thread}
use Rattle.ckrt_thread.specs.declared.records.Thread.TheVariants as thread
use Rattle.std.specs.List.{find}
use Rattle.ckrt_thread.specs.declared.records.Object.TheVariants as object
use Rattle.ckrt_thread.specs.Waits.{is_for, without}
use Rattle.ckrt_thread.specs.State.{State, IsWellFormed, thread_of, is_live, is_live_thread, is_detached, regs_of, holds, count_of, with_slot, off_hart}
use Rattle.ckrt_thread.specs.Contents.{empty}
use Rattle.ckrt_tables.proofs.Filled.{none_among}
use Rattle.ckrt_stored.specs.Emptying.{HasLost}
use Rattle.ckrt_thread.specs.Rows.{finished, detach_at, detach_row, end_with}

-- the first wait is taken out
pub first_out : (ws : List Wait) (w : Wait) → slice_get ws 0 ≡ Some w → length (without w.thread ws) < length ws
first_out [] w is = absurd (cc)
first_out (v ∷ ws) w is = (let same : v ≡ w = cc in rw (same) (grind (arith, nat_tests)))

pub none_first : (ws : List Wait) → slice_get ws 0 ≡ None → ws ≡ []
none_first [] is = refl
none_first (w ∷ ws) is = absurd (cc)

-- A THREAD LESS

module _ {X : Type 0} where
  set_twice : (xs : List X) (i : ℕ) (x y : X) → slice_set (slice_set xs i x) i y ≡ slice_set xs i y
  set_twice [] i x y = refl
  set_twice (z ∷ xs) zero x y = refl
  set_twice (z ∷ xs) (suc i) x y = ap (λ l. z ∷ l) (set_twice xs i x y)

  slot_set : (xs : List (Option X)) (i : ℕ) (x : Option X) → i < length xs → option_flatten (slice_get (slice_set xs i x) i) ≡ x
  slot_set [] i x lt = absurd (omega arith)
  slot_set (z ∷ xs) zero x lt = refl
  slot_set (z ∷ xs) (suc i) x lt = slot_set xs i x (omega arith)

  none_set : (xs : List (Option X)) (i : ℕ) → option_flatten (slice_get xs i) ≡ None → slice_set xs i None ≡ xs
  none_set [] i none = refl
  none_set (z ∷ xs) zero none = ap (λ o. o ∷ xs) (sym none)
  none_set (z ∷ xs) (suc i) none = ap (λ l. z ∷ l) (none_set xs i none)

-- a number at which nobody lives is free
gone : (o : Option Thread) (id : ℕ) (s : State) → thread_of s id ≡ o → is_some (regs_of o) ≡ false → (detach_at o id s).threads ≡ with_slot id None s
gone None id s is dead = ap (λ ts. record s { threads = ts }) (sym (none_set s.threads id is))
gone (Some (thread.Ended v)) id s is dead = refl
gone (Some (thread.Live l)) id s is dead = absurd (cc)

pub lost : (id : ℕ) (s new : State) → s.waits ≡ [] → is_some (regs_of (thread_of s id)) ≡ false → new ≡ (detach_row id s).threads → HasLost id s new
lost id s new none dead is =
    let all : new ≡ with_slot id None s = is ∙ gone (thread_of s id) id s refl dead in
    record { threads = ap (λ z. z.threads) all; waits = ap (λ z. z.waits) all ∙ none; hart_count = ap (λ z. z.hart_count) all; keys = ap (λ z. z.keys) all }

-- where somebody lived who has ended since
over : (x : Option Thread) (id : ℕ) (s new : State) → is_some (regs_of x) ≡ false → id < length s.threads → s.waits ≡ [] → new ≡ (detach_row id (with_slot id x (off_hart id s))).threads → HasLost id s new
over x id s new dead within none is =
    let mid = with_slot id x (off_hart id s) in
    let here : thread_of mid id ≡ x = slot_set s.threads id x within in
    let all : new ≡ with_slot id None mid = is ∙ ap (λ o. (detach_at o id mid).threads) here ∙ gone x id mid here dead in
    record { threads = ap (λ z. z.threads) all ∙ set_twice s.threads id x None; waits = ap (λ z. z.waits) all ∙ none; hart_count = ap (λ z. z.hart_count) all; keys = ap (λ z. z.keys) all }

ended : (b : Bool) (id : ℕ) (s new : State) → id < length s.threads → s.waits ≡ []
    → new ≡ (detach_row id (if b then with_slot id None (off_hart id s) else with_slot id (Some (thread.Ended 0)) (off_hart id s))).threads → HasLost id s new
ended true id s new within none is = over None id s new refl within none is
ended false id s new within none is = over (Some (thread.Ended 0)) id s new refl within none is

-- nobody waits for its end
alone : (id : ℕ) (s : State) → s.waits ≡ [] → finished id 0 s ≡ end_with None id 0 (off_hart id s)
alone id s none = ap (λ ws. end_with (find (is_for (object.End id)) ws) id 0 (off_hart id s)) none

pub lost_alive : (id : ℕ) (s new : State) → id < length s.threads → s.waits ≡ [] → new ≡ (detach_row id (finished id 0 s)).threads → HasLost id s new
lost_alive id s new within none is =
    ended (is_detached (thread_of (off_hart id s) id)) id s new within none (is ∙ ap (λ z. (detach_row id z).threads) (alone id s none))

-- ALL OF THEM

-- who has no registers has ended
pub is_dead : (o : Option Thread) (found : Option Registers) (none : Bool) → found ≡ regs_of o → is_some found ≡ not none → none ≡ true → is_some (regs_of o) ≡ false
is_dead o found none is e t = ap is_some (sym is) ∙ e ∙ ap not t

-- the numbers below this stand for nothing, and nothing else but the threads and harts has changed
pub record IsEmptyBelow (id : ℕ) (old new : State) : Type 0 where
  pub below : (t : ℕ) → t < id → thread_of new t ≡ None
  pub waits : new.waits ≡ []
  pub hart_count : new.hart_count ≡ old.hart_count
  pub keys : new.keys ≡ old.keys

slot_other : {X : Type 0} (xs : List (Option X)) (i t : ℕ) (x : Option X) → t < i → option_flatten (slice_get (slice_set xs i x) t) ≡ option_flatten (slice_get xs t)
slot_other [] i t x lt = refl
slot_other (z ∷ xs) zero t x lt = absurd (omega arith)
slot_other (z ∷ xs) (suc i) zero x lt = refl
slot_other (z ∷ xs) (suc i) (suc t) x lt = slot_other xs i t x (omega arith)

below_next : (id : ℕ) (s new : State) → id < length s.threads → HasLost id s new → ((t : ℕ) → t < id → thread_of s t ≡ None) → (t : ℕ) → t < id + 1 → (b : Bool) → t == id ≡ b → thread_of new t ≡ None
below_next id s new within lost below t lt true same =
    let is : t ≡ id = grind (arith, nat_tests, same) in
    ap (λ ts. option_flatten (slice_get ts t)) lost.threads ∙ ap (λ k. option_flatten (slice_get (slice_set s.threads id None) k)) is ∙ slot_set s.threads id None within
below_next id s new within lost below t lt false other =
    let less : t < id = grind (arith, nat_tests, other, lt) in
    ap (λ ts. option_flatten (slice_get ts t)) lost.threads ∙ slot_other s.threads id t None less ∙ below t less

pub one_less : (id : ℕ) (old s new : State) → id < length s.threads → HasLost id s new → IsEmptyBelow id old s → IsEmptyBelow (id + 1) old new
one_less id old s new within lost so = record {
  below = λ t lt. below_next id s new within lost so.below t lt (t == id) refl;
  waits = lost.waits;
  hart_count = lost.hart_count ∙ so.hart_count;
  keys = lost.keys ∙ so.keys;
}

all_none : {X : Type 0} (xs : List (Option X)) → ((t : ℕ) → t < length xs → option_flatten (slice_get xs t) ≡ None) → xs ≡ replicate (length xs) None
all_none [] none = refl
all_none (x ∷ xs) none = rw (none 0 (omega arith)) (ap (λ l. None ∷ l) (all_none xs (λ t lt. none (suc t) (omega arith))))

all_idle : (hs : List (Option ℕ)) → ((t : ℕ) → count_of (holds t) hs ≡ 0) → hs ≡ replicate (length hs) None
all_idle [] none = refl
all_idle (None ∷ hs) none = ap (λ l. None ∷ l) (all_idle hs (λ t. let here : 0 + count_of (holds t) hs ≡ 0 = none t in omega (arith, here)))
all_idle (Some u ∷ hs) none = absurd (let here = none u in grind (arith, nat_tests, here))

slots_none : {X : Type 0} {xs : List (Option X)} → xs ≡ replicate 65 None → (t : ℕ) → option_flatten (slice_get xs t) ≡ None
slots_none is t = ap (λ l. option_flatten (slice_get l t)) is ∙ none_among 65 t

same : (r s : State) → r.threads ≡ s.threads → r.waits ≡ s.waits → r.harts ≡ s.harts → r.hart_count ≡ s.hart_count → r.keys ≡ s.keys → r ≡ s
same r s e₁ e₂ e₃ e₄ e₅ = rw (e₁, e₂, e₃, e₄, e₅) refl

pub is_empty : (old new : State) → IsWellFormed new → IsEmptyBelow 65 old new → new ≡ empty old.keys old.hart_count
is_empty old new well so =
    let threads : new.threads ≡ replicate 65 None = all_none new.threads (λ t lt. so.below t (let size = well.size in omega (arith, size, lt))) ∙ ap (λ n. replicate n None) well.size in
    let dead : (t : ℕ) → is_live new t ≡ false = λ t. ap is_live_thread (slots_none threads t) in
    let free : (t : ℕ) → count_of (holds t) new.harts ≡ 0 = λ t. (let at = well.placed t in let d = dead t in grind (arith, at, d)) in
    let harts : new.harts ≡ replicate 8 None = all_idle new.harts free ∙ ap (λ n. replicate n None) well.harts in
    same new (empty old.keys old.hart_count) threads so.waits harts so.hart_count so.keys
