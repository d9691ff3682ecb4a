-- How many objects of one kind waits may name, by the queues.
use Rattle.std.proofs.Common.{◌≡◌, ℕ, zero, suc, ◌+◌, ◌≤◌, Bool, true, false, cond, List, [], ◌∷◌, length, drop, slice_get, Some, None, refl, sym, ap, ◌∙◌, arith}
use Rattle.std.specs.List.{filter, list_any}
use Rattle.std.proofs.lemmas.Bool.Decides.{nat_tests}
use Rattle.std.proofs.lemmas.List.{length-map}
use Rattle.ckrt_thread.specs.declared.records.Wait.{Wait}
use Rattle.ckrt_thread.specs.declared.records.Object.{Object}
use Rattle.ckrt_thread.specs.declared.links.Ends.{Ends}
use Rattle.ckrt_thread.specs.declared.queues.Queue.{Queue}
use Rattle.ckrt_thread.specs.declared.queues.Queues.{Queues}
use Rattle.ckrt_thread.specs.Waits.{is_for}
use Rattle.ckrt_thread.specs.Queues.{object_of, is_same, is_queue_of, may_name_another, named_at_most, named_by, named_by_all, no_ends, ends_of, IsDirectory, AreQueues}
use Rattle.ckrt_thread.proofs.Directory.{same_self, same_equal, stored, removed, stored_ends, removed_ends, stored_directory, removed_directory}
use Rattle.ckrt_thread.proofs.QueueLemmas.{waits_for}

-- THE SUM over the queues from a place on

pub named_at : (qs : List Queue) (i : ℕ) (q : Queue) → slice_get qs i ≡ Some q → named_by_all (drop i qs) ≡ named_by q.object q.ends.count + named_by_all (drop (i + 1) qs)
named_at [] i q e = absurd (cc)
named_at (p ∷ qs) zero q e = grind (arith, nat_tests)
named_at (p ∷ qs) (suc i) q e =
    let d : drop (suc i + 1) (p ∷ qs) ≡ drop (i + 1) qs = grind (arith, nat_tests) in
    rw d (named_at qs i q (grind (arith, nat_tests, e)))

-- A QUEUE that is stored or removed

named_same : (o p : Object) (n : ℕ) → is_same o p ≡ true → named_by p n ≡ named_by o n
named_same o p n e = ap (λ x. named_by x n) (sym (same_equal o p e))

named_stored : (o : Object) (e : Ends) (qs : List Queue) → named_by_all (stored o e qs) + named_by o (ends_of o qs).count ≡ named_by_all qs + named_by o e.count
named_stored o e [] = grind (arith, nat_tests)
named_stored o e (q ∷ qs) =
    let s : is_queue_of o q ≡ true → named_by q.object q.ends.count ≡ named_by o q.ends.count = named_same o q.object q.ends.count in
    grind (arith, nat_tests, named_stored o e qs, s)

named_removed : (o : Object) (qs : List Queue) → named_by_all (removed o qs) + named_by o (ends_of o qs).count ≡ named_by_all qs
named_removed o [] = grind (arith, nat_tests)
named_removed o (q ∷ qs) =
    let s : is_queue_of o q ≡ true → named_by q.object q.ends.count ≡ named_by o q.ends.count = named_same o q.object q.ends.count in
    grind (arith, nat_tests, named_removed o qs, s)

-- THE WAITS of each queue

filtered_none : {X : Type 0} (p : X → Bool) (xs : List X) → length (filter p xs) ≡ 0 → list_any p xs ≡ false
filtered_none p [] h = refl
filtered_none p (x ∷ xs) h = grind (arith, nat_tests, filtered_none p xs)

filtered_some : {X : Type 0} (p : X → Bool) (xs : List X) (n : ℕ) → length (filter p xs) ≡ suc n → list_any p xs ≡ true
filtered_some p [] n h = absurd (cc)
filtered_some p (x ∷ xs) n h = grind (arith, nat_tests, filtered_some p xs n)

-- each queue is as long as its waits are many
abbrev AreCounted : List Queue → List Wait → Type 0
AreCounted qs ws = (o : Object) → (ends_of o qs).count ≡ length (filter (is_for o) ws)

counted_tail : (qs : List Queue) (w : Wait) (ws : List Wait) → object_of w.reason ≡ None → AreCounted qs (w ∷ ws) → AreCounted qs ws
counted_tail qs w ws e c o = (let n = waits_for o w None e in let k = c o in grind (arith, nat_tests, n, k))

-- the queues with another count at the object of the first wait, as many as are left
counted_with : (o : Object) (e : Ends) (old new : List Queue) (w : Wait) (ws : List Wait) → object_of w.reason ≡ Some o → e.count ≡ length (filter (is_for o) ws)
    → ((p : Object) → ends_of p new ≡ cond (is_same p o) e (ends_of p old)) → AreCounted old (w ∷ ws) → AreCounted new ws
counted_with o e old new w ws k n h c p =
    let m = waits_for p w (Some o) k in
    let a : is_same p o ≡ true → length (filter (is_for p) ws) ≡ length (filter (is_for o) ws) = λ s. ap (λ x. length (filter (is_for x) ws)) (same_equal p o s) in
    let q = h p in let d = c p in
    grind (arith, nat_tests, m, a, n, q, d)

no_queue : (q : Queue) (qs : List Queue) → IsDirectory (q ∷ qs) → AreCounted (q ∷ qs) [] → named_by_all (q ∷ qs) ≡ 0
no_queue q qs d c = absurd (let m = same_self q.object in let k = c q.object in let l = d.1 in grind (arith, nat_tests, m, k, l))

pub named_counted : (ws : List Wait) (qs : List Queue) → IsDirectory qs → AreCounted qs ws → named_by_all qs ≡ named_at_most ws
named_counted [] [] d c = refl
named_counted [] (q ∷ qs) d c = no_queue q qs d c
named_counted (w ∷ ws) qs d c =
    elim (object_of w.reason) as (λ a. object_of w.reason ≡ a → named_by_all qs ≡ cond (may_name_another a ws) 1 0 + named_at_most ws) [
      | None ↦ λ e. (let i = named_counted ws qs d (counted_tail qs w ws e c) in omega (arith, i))
      | Some o ↦ λ e.
          elim (length (filter (is_for o) ws)) as (λ n. length (filter (is_for o) ws) ≡ n → named_by_all qs ≡ cond (may_name_another (Some o) ws) 1 0 + named_at_most ws) [
            | zero ↦ λ h.
                let m = waits_for o w (Some o) e ∙ same_self o in
                let i = named_counted ws (removed o qs) (removed_directory o qs d) (counted_with o no_ends qs (removed o qs) w ws e (sym h) (removed_ends o qs d) c) in
                let k = c o in
                let f = filtered_none (is_for o) ws h in
                let r = named_removed o qs in
                grind (arith, nat_tests, m, i, k, h, f, r)
            | suc n ↦ λ h.
                let left : Ends = record { first = 0; last = 0; count = suc n } in
                let m = waits_for o w (Some o) e ∙ same_self o in
                let i = named_counted ws (stored o left qs) (stored_directory o left qs (omega arith) d) (counted_with o left qs (stored o left qs) w ws e (sym h) (stored_ends o left qs) c) in
                let k = c o in
                let f = filtered_some (is_for o) ws n h in
                let r = named_stored o left qs in
                grind (arith, nat_tests, m, i, k, h, f, r)
          ] refl
    ] refl

queue_counted : (q : Queues) (ws : List Wait) → AreQueues q ws → AreCounted q.directory.items ws
queue_counted q ws h o = (h.chains o).count ∙ length-map (filter (is_for o) ws) (λ w. w.thread)

-- the queues tell how many objects the waits may name
pub named_in_queues : (q : Queues) (ws : List Wait) → AreQueues q ws → named_by_all q.directory.items ≡ named_at_most ws
named_in_queues q ws h = named_counted ws q.directory.items h.directory (queue_counted q ws h)

-- a wait may name one object
pub named_le : (ws : List Wait) → named_at_most ws ≤ length ws
named_le [] = omega arith
named_le (w ∷ ws) = grind (arith, nat_tests, named_le ws)
