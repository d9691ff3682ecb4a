-- What the calls on keys keep: well-formed threads, their waits, and who lives.
use Rattle.std.proofs.Common.{◌≡◌, ℕ, ◌%◌, ◌==◌, not, Bool, true, false, Option, Some, None, refl, ap, ◌∙◌, arith}
use Rattle.std.proofs.lemmas.Bool.Decides.{nat_tests}
use Rattle.ckrt_thread.specs.Abi.{A1}
use Rattle.ckrt_thread.specs.Keys.{is_key, free_key, setting}
use Rattle.ckrt_thread.specs.ThreadKeys.{value_of, with_key_of}
use Rattle.ckrt_thread.specs.State.{State, IsWellFormed, is_live, is_live_thread, thread_of, with_word}
use Rattle.ckrt_thread.specs.Rows.{After}
use Rattle.ckrt_thread.proofs.SlotLemmas.{live_change}
use Rattle.ckrt_thread.proofs.Changes.{well_formed_word}
use Rattle.ckrt_thread.proofs.KeysKept.{mapped_at, well_formed_key, well_formed_unkeyed, well_formed_value}
use Rattle.ckrt_objects.proofs.Waits.{either}
use Rattle.ckrt_cancel.specs.KeyRows.{key_created, key_create_row, key_delete_row, setspecific_row, getspecific_row}
use Rattle.ckrt_cancel.proofs.Changed.{live_changed}

not_not : (b : Bool) → not b ≡ false → b ≡ true
not_not true e = refl
not_not false e = absurd (cc)

multiple : (d : ℕ) → (d % 4 == 0) ≡ true → d % 4 ≡ 0
multiple d e = grind (arith, nat_tests, e)

-- WELL-FORMED THREADS

abbrev IsKept : After → Type 0
IsKept r = IsWellFormed r.threads

module _ (t : ℕ) (s : State) (k : IsWellFormed s) where
  kept_created : (o : Option ℕ) (d : ℕ) → s.keys.is_on ≡ true → d % 4 ≡ 0 → IsKept (key_created o t d s)
  kept_created None d on a = k
  kept_created (Some i) d on a = well_formed_word (with_key_of i d s) t A1 i (well_formed_key s i d k on a)

  pub threads_key_create : (d : ℕ) → IsKept (key_create_row t d s)
  threads_key_create d =
      either IsKept s.keys.is_on _ _ (λ on. either IsKept (not (d % 4 == 0)) _ _ (λ _. k) (λ a. kept_created (free_key s.keys) d on (multiple d (not_not (d % 4 == 0) a)))) (λ _. k)

  pub threads_key_delete : (i : ℕ) → IsKept (key_delete_row i s)
  threads_key_delete i = either IsKept s.keys.is_on _ _ (λ _. either IsKept (is_key s.keys i) _ _ (λ _. well_formed_unkeyed s i k) (λ _. k)) (λ _. k)

  pub threads_setspecific : (i v : ℕ) → is_live s t ≡ true → IsKept (setspecific_row t i v s)
  threads_setspecific i v l = either IsKept s.keys.is_on _ _ (λ _. either IsKept (is_key s.keys i) _ _ (λ e. well_formed_value s t i v k l e) (λ _. k)) (λ _. k)

  pub threads_getspecific : (i : ℕ) → IsKept (getspecific_row t i s)
  threads_getspecific i = either IsKept s.keys.is_on _ _ (λ _. either IsKept (is_key s.keys i) _ _ (λ _. well_formed_word s t A1 (value_of t i s) k) (λ _. k)) (λ _. k)

-- THE WAITS stay as they are

abbrev SameWaits : State → After → Type 0
SameWaits s r = r.threads.waits ≡ s.waits

waits_created : (o : Option ℕ) (t d : ℕ) (s : State) → SameWaits s (key_created o t d s)
waits_created None t d s = refl
waits_created (Some i) t d s = refl

pub waits_key_create : (t d : ℕ) (s : State) → SameWaits s (key_create_row t d s)
waits_key_create t d s = either (SameWaits s) s.keys.is_on _ _ (λ _. either (SameWaits s) (not (d % 4 == 0)) _ _ (λ _. refl) (λ _. waits_created (free_key s.keys) t d s)) (λ _. refl)

pub waits_key_delete : (i : ℕ) (s : State) → SameWaits s (key_delete_row i s)
waits_key_delete i s = either (SameWaits s) s.keys.is_on _ _ (λ _. either (SameWaits s) (is_key s.keys i) _ _ (λ _. refl) (λ _. refl)) (λ _. refl)

pub waits_setspecific : (t i v : ℕ) (s : State) → SameWaits s (setspecific_row t i v s)
waits_setspecific t i v s = either (SameWaits s) s.keys.is_on _ _ (λ _. either (SameWaits s) (is_key s.keys i) _ _ (λ _. refl) (λ _. refl)) (λ _. refl)

pub waits_getspecific : (t i : ℕ) (s : State) → SameWaits s (getspecific_row t i s)
waits_getspecific t i s = either (SameWaits s) s.keys.is_on _ _ (λ _. either (SameWaits s) (is_key s.keys i) _ _ (λ _. refl) (λ _. refl)) (λ _. refl)

-- WHO LIVES goes on

abbrev Lives : ℕ → After → Type 0
Lives u r = is_live r.threads u ≡ true

live_created : (o : Option ℕ) (u t d : ℕ) (s : State) → is_live s u ≡ true → Lives u (key_created o t d s)
live_created None u t d s l = l
live_created (Some i) u t d s l = live_changed (with_word A1 i) t u (with_key_of i d s) l

pub live_key_create : (u t d : ℕ) (s : State) → is_live s u ≡ true → Lives u (key_create_row t d s)
live_key_create u t d s l = either (Lives u) s.keys.is_on _ _ (λ _. either (Lives u) (not (d % 4 == 0)) _ _ (λ _. l) (λ _. live_created (free_key s.keys) u t d s l)) (λ _. l)

pub live_key_delete : (u i : ℕ) (s : State) → is_live s u ≡ true → Lives u (key_delete_row i s)
live_key_delete u i s l =
    either (Lives u) s.keys.is_on _ _
    (λ _. either (Lives u) (is_key s.keys i) _ _ (λ _. ap is_live_thread (mapped_at (setting i 0) s.threads u) ∙ (live_change (setting i 0) (thread_of s u) ∙ l)) (λ _. l))
    (λ _. l)

pub live_setspecific : (u t i v : ℕ) (s : State) → is_live s u ≡ true → Lives u (setspecific_row t i v s)
live_setspecific u t i v s l = either (Lives u) s.keys.is_on _ _ (λ _. either (Lives u) (is_key s.keys i) _ _ (λ _. live_changed (setting i v) t u s l) (λ _. l)) (λ _. l)

pub live_getspecific : (u t i : ℕ) (s : State) → is_live s u ≡ true → Lives u (getspecific_row t i s)
live_getspecific u t i s l = either (Lives u) s.keys.is_on _ _ (λ _. either (Lives u) (is_key s.keys i) _ _ (λ _. live_changed (with_word A1 (value_of t i s)) t u s l) (λ _. l)) (λ _. l)
