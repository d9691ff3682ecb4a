-- Who waits for an object is woken: the first, or all, one after another.
use Rattle.std.proofs.Common.{◌≡◌, ℕ, ◌<◌, true, false, List, [], ◌∷◌, length, Option, Some, None, refl, ap, sym, ◌∙◌, arith}
use Rattle.std.specs.Prelude.{option_map}
use Rattle.ckrt_thread.specs.declared.records.Wait.{Wait}
use Rattle.ckrt_thread.specs.declared.records.Waiter.{Waiter}
use Rattle.ckrt_thread.specs.declared.records.Object.{Object}
use Rattle.ckrt_thread.specs.Abi.{A0}
use Rattle.ckrt_thread.specs.Waits.{is_for}
use Rattle.ckrt_thread.specs.WaitList.{without_wait, without_first}
use Rattle.ckrt_thread.specs.State.{State, IsWellFormed, first_waiter, first_unwaited, unwaited, unwaited_first, of_wait, of_waiter, is_live, is_waiting, set_word, woken, all_woken}
use Rattle.ckrt_thread.specs.Granting.{queue_of, answered, obtained, wait_result}
use Rattle.ckrt_thread.proofs.Grants.{queue_rest, empty_queue}
use Rattle.ckrt_thread.proofs.Known.{waiting_live, waits_at_most_once}
use Rattle.ckrt_thread.proofs.WaitLemmas.{length-without, found_waits, gone}

-- the waiter that was taken out is the first wait
pub record IsFirst (f : Option Wait) (x : Waiter) : Type 0 where
  pub wait : Wait
  pub first : f ≡ Some wait
  pub who : of_waiter x ≡ of_wait wait

pub waiter_is : (f : Option Wait) (x : Waiter) → Some (of_waiter x) ≡ option_map of_wait f → IsFirst f x
waiter_is None x e = absurd (cc)
waiter_is (Some w) x e = record { wait = w; first = refl; who = (cc) }

-- it is woken
pub taken_woken : (o : Object) (v : ℕ) (x : Waiter) (s : State) (i : IsFirst (first_waiter o s) x) → set_word x.thread A0 v (first_unwaited o s) ≡ woken i.wait.thread v s
taken_woken o v x s i = ap (λ f. set_word x.thread A0 v (unwaited_first f s)) i.first ∙ ap (λ t. set_word t A0 v (unwaited i.wait.thread s)) (ap (λ p. p.0) i.who)

pub fewer_left : (o : Object) (v : ℕ) (x : Waiter) (s : State) → Some (of_waiter x) ≡ option_map of_wait (first_waiter o s) → length (set_word x.thread A0 v (first_unwaited o s)).waits < length s.waits
fewer_left o v x s e =
    let i = waiter_is (first_waiter o s) x e in
    let k = ap (λ z. length z.waits) (taken_woken o v x s i) in
    let l = length-without i.wait.thread s.waits (found_waits (is_for o) s.waits i.wait i.first) in
    omega (arith, k, l)

-- the first is woken, and then the others
pub first_woken : (o : Object) (v : ℕ) (x : Waiter) (s : State) → Some (of_waiter x) ≡ option_map of_wait (first_waiter o s) → IsWellFormed s
    → all_woken v (queue_of o s) s ≡ all_woken v (queue_of o (set_word x.thread A0 v (first_unwaited o s))) (set_word x.thread A0 v (first_unwaited o s))
first_woken o v x s e h =
    let i = waiter_is (first_waiter o s) x e in
    ap (λ q. all_woken v q s) (queue_rest o s i.wait v i.first h) ∙ sym (ap (λ z. all_woken v (queue_of o z) z) (taken_woken o v x s i))

pub none_woken : (o : Object) (v : ℕ) (s : State) → first_waiter o s ≡ None → all_woken v (queue_of o s) s ≡ s
none_woken o v s e = ap (λ q. all_woken v q s) (empty_queue o s e)

-- it gets what it waited for
pub taken_obtained : (o : Object) (x : Waiter) (s : State) (i : IsFirst (first_waiter o s) x) → answered (wait_result x.reason) x.thread (first_unwaited o s) ≡ obtained i.wait s
taken_obtained o x s i =
    ap (λ f. answered (wait_result x.reason) x.thread (unwaited_first f s)) i.first ∙ ap (λ p. answered (wait_result p.1) p.0 (unwaited i.wait.thread s)) i.who

pub none_unwaited : (o : Object) (s : State) → first_waiter o s ≡ None → first_unwaited o s ≡ s
none_unwaited o s e = ap (λ f. unwaited_first f s) e

pub no_first : (f : Option Wait) → None ≡ option_map of_wait f → f ≡ None
no_first None e = refl
no_first (Some w) e = absurd (cc)

-- who was taken out has not ended, and does not wait
pub ready_first : (o : Object) (w : Wait) (s : State) → first_waiter o s ≡ Some w → IsWellFormed s
    → (is_live (record s { waits = without_first o s.waits }) w.thread ≡ true) × (is_waiting (record s { waits = without_first o s.waits }) w.thread ≡ false)
ready_first o w s e h = (
  waiting_live s w.thread h (found_waits (is_for o) s.waits w e),
  ap (λ f. is_waiting (record s { waits = without_wait f s.waits }) w.thread) e ∙ gone w.thread s.waits (waits_at_most_once s w.thread h),
)

-- what the end of a wait keeps, the end of several keeps
pub kept_all_woken : (P : State → Type 0) → ((t v : ℕ) (s : State) → P s → P (woken t v s)) → (v : ℕ) (ws : List Wait) (s : State) → P s → P (all_woken v ws s)
kept_all_woken P ends v [] s h = h
kept_all_woken P ends v (w ∷ ws) s h = kept_all_woken P ends v ws (woken w.thread v s) (ends w.thread v s h)
