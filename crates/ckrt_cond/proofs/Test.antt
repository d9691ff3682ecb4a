-- The test of each wait says that the waiters of each condition name one mutex.
use Rattle.std.proofs.Common.{◌≡◌, ℕ, true, false, List, [], ◌∷◌, refl, arith}
use Rattle.std.specs.List.{list_all, list_any}
use Rattle.std.proofs.lemmas.Bool.Decides.{nat_tests}
use Rattle.ckrt_thread.specs.declared.records.Wait.{Wait}
use Rattle.ckrt_thread.specs.declared.records.Reason.{Reason}
use Rattle.ckrt_thread.specs.declared.records.Reason.TheVariants as reason
use Rattle.ckrt_thread.specs.State.{State}
use Rattle.ckrt_cond.specs.Rows.{has_other_mutex}
use Rattle.ckrt_cond.specs.WellFormed.{is_with, is_waited_with, is_alone_with, names_the_one_mutex, IsWellFormed}
use Rattle.ckrt_cond.proofs.Waits.{same_mutex, all_same}

-- a wait at the condition c with the mutex a is the only mutex's
alone : (s : State) (c a : ℕ) (r : Reason) → is_with c a r ≡ true → is_alone_with s.waits r ≡ true → has_other_mutex c a s ≡ false
alone s c a (reason.Condition d b) w h =
    let at : c ≡ d = grind (arith, nat_tests, w) in
    let with : a ≡ b = grind (arith, nat_tests, w) in
    rw (at, with) (grind (arith, nat_tests, h))
alone s c a reason.Input w h = absurd (cc)
alone s c a reason.Sleep w h = absurd (cc)
alone s c a (reason.Join i) w h = absurd (cc)
alone s c a (reason.Lock m) w h = absurd (cc)
alone s c a (reason.Retake m v) w h = absurd (cc)
alone s c a (reason.Barrier e) w h = absurd (cc)
alone s c a (reason.Read l) w h = absurd (cc)
alone s c a (reason.Write l) w h = absurd (cc)

each_alone : (s : State) (c a : ℕ) (ws : List Wait) → list_all (names_the_one_mutex s.waits) ws ≡ true → list_any (λ w. is_with c a w.reason) ws ≡ true → has_other_mutex c a s ≡ false
each_alone s c a [] h w = absurd (cc)
each_alone s c a (v ∷ ws) h w =
    elim (is_with c a v.reason) as (λ b. is_with c a v.reason ≡ b → has_other_mutex c a s ≡ false) [
      | true ↦ λ e. alone s c a v.reason e (grind (arith, nat_tests, h))
      | false ↦ λ e. each_alone s c a ws (grind (arith, nat_tests, h)) (grind (arith, nat_tests, e, w))
    ] refl

pub tested : (s : State) → list_all (names_the_one_mutex s.waits) s.waits ≡ true → IsWellFormed s
tested s h = record { one_mutex = (λ c a b x y. same_mutex c a b s.waits (each_alone s c a s.waits h x) y) }

-- and back

alone_of : (s : State) (r : Reason) → IsWellFormed s → ((c a : ℕ) → is_with c a r ≡ true → is_waited_with c a s ≡ true) → is_alone_with s.waits r ≡ true
alone_of s (reason.Condition c a) h f =
    let here = f c a (grind (arith, nat_tests)) in
    let none = all_same c a s.waits (λ x w. h.one_mutex c a x here w) in
    grind (arith, nat_tests, none)
alone_of s reason.Input h f = refl
alone_of s reason.Sleep h f = refl
alone_of s (reason.Join i) h f = refl
alone_of s (reason.Lock m) h f = refl
alone_of s (reason.Retake m v) h f = refl
alone_of s (reason.Barrier e) h f = refl
alone_of s (reason.Read l) h f = refl
alone_of s (reason.Write l) h f = refl

all_alone : (s : State) (ws : List Wait) → IsWellFormed s → ((c a : ℕ) → list_any (λ w. is_with c a w.reason) ws ≡ true → is_waited_with c a s ≡ true) → list_all (names_the_one_mutex s.waits) ws ≡ true
all_alone s [] h f = refl
all_alone s (w ∷ ws) h f =
    let first : names_the_one_mutex s.waits w ≡ true = alone_of s w.reason h (λ c a e. f c a (grind (arith, nat_tests, e))) in
    let rest = all_alone s ws h (λ c a e. f c a (grind (arith, nat_tests, e))) in
    grind (arith, nat_tests, first, rest)

pub one_named : (s : State) → IsWellFormed s → list_all (names_the_one_mutex s.waits) s.waits ≡ true
one_named s h = all_alone s s.waits h (λ c a e. e)
