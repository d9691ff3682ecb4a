-- The list of waits: a wait found, and a wait taken out.
use Rattle.std.proofs.Common.{◌≡◌, ℕ, ◌+◌, ◌≤◌, Bool, true, false, eqb, List, [], ◌∷◌, length, Some, None, refl, arith}
use Rattle.std.specs.List.{list_any, list_all, find, filter, IsDistinct, AllByRecursion}
use Rattle.std.proofs.lemmas.Bool.Decides.{nat_tests}
use Rattle.ckrt_thread.specs.declared.records.Wait.{Wait}
use Rattle.ckrt_thread.specs.Waits.{is_of, without, is_unwind_of}
use Rattle.ckrt_thread.specs.State.{count_of}
use Rattle.ckrt_thread.specs.Queues.{ids}
use Rattle.ckrt_thread.proofs.Counting.{count_of_some, count_of_none}

-- who has the first of some waits waits
pub found_waits : (p : Wait → Bool) (ws : List Wait) (w : Wait) → find p ws ≡ Some w → list_any (is_of w.thread) ws ≡ true
found_waits p [] w e = absurd (cc)
found_waits p (v ∷ ws) w e = grind (arith, nat_tests, found_waits p ws w)

pub count_of-find : (p : Wait → Bool) (ws : List Wait) → find p ws ≡ None → count_of p ws ≡ 0
count_of-find p [] e = refl
count_of-find p (w ∷ ws) e = grind (arith, nat_tests, count_of-find p ws)

-- the list when a wait has been taken out has no more of any kind
pub count_of-without : (p : Wait → Bool) (t : ℕ) (ws : List Wait) → count_of p (without t ws) ≤ count_of p ws
count_of-without p t [] = omega arith
count_of-without p t (w ∷ ws) = grind (arith, nat_tests, count_of-without p t ws)

-- and one less of a kind whose first wait was taken out
pub count_of-without_found : (p : Wait → Bool) (ws : List Wait) (w : Wait) → find p ws ≡ Some w → count_of (is_of w.thread) ws ≤ 1 → count_of p (without w.thread ws) + 1 ≡ count_of p ws
count_of-without_found p [] w e l = absurd (cc)
count_of-without_found p (v ∷ ws) w e l =
    let f = found_waits p ws w in
    let c = count_of_some (is_of w.thread) ws in
    let r = count_of-without_found p ws w in
    grind (arith, nat_tests, f, c, r)

-- who waits to unwind waits
pub unwind_of : (t : ℕ) (ws : List Wait) → count_of (is_unwind_of t) ws ≤ count_of (is_of t) ws
unwind_of t [] = omega arith
unwind_of t (w ∷ ws) = grind (arith, nat_tests, unwind_of t ws)

pub no_unwind : (t : ℕ) (ws : List Wait) → list_any (is_of t) ws ≡ false → count_of (is_unwind_of t) ws ≡ 0
no_unwind t ws h = (let l = unwind_of t ws in let n = count_of_none (is_of t) ws h in omega (arith, l, n))

pub length-without : (t : ℕ) (ws : List Wait) → list_any (is_of t) ws ≡ true → length (without t ws) + 1 ≡ length ws
length-without t [] h = absurd (cc)
length-without t (w ∷ ws) h = grind (arith, nat_tests, length-without t ws)

-- a thread that waits once does not wait after that
pub gone : (t : ℕ) (ws : List Wait) → count_of (is_of t) ws ≤ 1 → list_any (is_of t) (without t ws) ≡ false
gone t [] c = refl
gone t (w ∷ ws) c = grind (arith, nat_tests, gone t ws, count_of_some (is_of t) ws)

pub length_fewer : (t : ℕ) (ws : List Wait) → length (without t ws) ≤ length ws
length_fewer t [] = omega arith
length_fewer t (w ∷ ws) = grind (arith, nat_tests, length_fewer t ws)

pub list_all-without : (p : Wait → Bool) (t : ℕ) (ws : List Wait) → list_all p ws ≡ true → list_all p (without t ws) ≡ true
list_all-without p t [] h = refl
list_all-without p t (w ∷ ws) h = grind (arith, nat_tests, list_all-without p t ws)

-- a part of the list is no longer than the list
pub length-part : (p : Wait → Bool) (ws : List Wait) → length (filter p ws) ≤ length ws
length-part p [] = omega arith
length-part p (w ∷ ws) = grind (arith, nat_tests, length-part p ws)

pub apart : (t : ℕ) (ws : List Wait) → list_any (is_of t) ws ≡ false → AllByRecursion (λ u. eqb t u ≡ false) (ids ws)
apart t [] h = tt
apart t (w ∷ ws) h = (grind (arith, nat_tests), apart t ws (grind (arith, nat_tests)))

pub ids_distinct : (ws : List Wait) → ((t : ℕ) → count_of (is_of t) ws ≤ 1) → IsDistinct eqb (ids ws)
unfolding IsDistinct
ids_distinct [] h = tt
ids_distinct (w ∷ ws) h =
    (apart w.thread ws (grind (arith, nat_tests, h w.thread, count_of_some (is_of w.thread) ws)), ids_distinct ws (λ t. grind (arith, nat_tests, h t)))
