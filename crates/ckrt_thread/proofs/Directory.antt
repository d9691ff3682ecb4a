-- The directory of queues: its entries while ends are stored and removed.
use Rattle.std.proofs.Common.{◌≡◌, ℕ, zero, suc, ◌+◌, ◌≤◌, ◌<◌, true, false, cond, eqb-true, ◌||◌, List, [], ◌∷◌, ◌++◌, length, Some, None, refl, sym, ap, ◌∙◌, arith, slice_set}
use Rattle.std.specs.List.{position, remove, find, list_any, refill}
use Rattle.std.proofs.lemmas.Bool.Decides.{nat_tests}
use Rattle.std.proofs.lemmas.List.Recursion.{is_position_or_len}
use Rattle.std.proofs.lemmas.List.{length-set}
use Rattle.arrayvec.proofs.ArrayVecLemmas.{items-with_items}
use Rattle.ckrt_thread.specs.declared.records.Object.{Object}
use Rattle.ckrt_thread.specs.declared.records.Object.TheVariants as object
use Rattle.ckrt_thread.specs.declared.links.Ends.{Ends}
use Rattle.ckrt_thread.specs.declared.queues.Queue.{Queue}
use Rattle.ckrt_thread.specs.Queues.{is_same, is_queue_of, no_ends, ends_of, total, IsDirectory, IsWithEnds}

-- OBJECTS

pub same_self : (o : Object) → is_same o o ≡ true
unfolding is_same
same_self object.Input = refl
same_self (object.End t) = grind (arith, nat_tests)
same_self (object.Mutex a) = grind (arith, nat_tests)
same_self (object.Condition a) = grind (arith, nat_tests)
same_self (object.Barrier a) = grind (arith, nat_tests)
same_self (object.RwLock a) = grind (arith, nat_tests)

pub same_equal : (o p : Object) → is_same o p ≡ true → o ≡ p
unfolding is_same
same_equal object.Input object.Input e = refl
same_equal (object.End t) (object.End u) e = ap object.End (eqb-true t u e)
same_equal (object.Mutex a) (object.Mutex b) e = ap object.Mutex (eqb-true a b e)
same_equal (object.Condition a) (object.Condition b) e = ap object.Condition (eqb-true a b e)
same_equal (object.Barrier a) (object.Barrier b) e = ap object.Barrier (eqb-true a b e)
same_equal (object.RwLock a) (object.RwLock b) e = ap object.RwLock (eqb-true a b e)
same_equal _ _ e = absurd (cc)

-- an object that is another is told from a third as that one is
pub same_as : (p o q : Object) → is_same o q ≡ true → is_same p q ≡ is_same p o
same_as p o q e = ap (is_same p) (sym (same_equal o q e))

same_from : (p o q : Object) → is_same p o ≡ true → is_same p q ≡ is_same o q
same_from p o q e = ap (λ x. is_same x q) (same_equal p o e)

pub same_back : (o p : Object) → is_same o p ≡ true → is_same p o ≡ true
same_back o p e = same_from p p o (same_self p) ∙ (ap (λ x. is_same x o) (sym (same_equal o p e)) ∙ same_self o)

-- ENDS STORED AND REMOVED

abbrev pub entry : Object → Ends → Queue
entry o e = record { object = o; ends = e }

abbrev pub stored : Object → Ends → List Queue → List Queue
stored o e [] = entry o e ∷ []
stored o e (q ∷ qs) = cond (is_queue_of o q) (entry o e ∷ qs) (q ∷ stored o e qs)

abbrev pub removed : Object → List Queue → List Queue
removed o [] = []
removed o (q ∷ qs) = cond (is_queue_of o q) qs (q ∷ removed o qs)

-- how many entries stand before the object's
abbrev place_in : Object → List Queue → ℕ
place_in o [] = 0
place_in o (q ∷ qs) = cond (is_queue_of o q) 0 (1 + place_in o qs)

set_at : (o : Object) (e : Ends) (qs : List Queue) (i : ℕ) → i ≡ place_in o qs → i < length qs → slice_set qs i (entry o e) ≡ stored o e qs
set_at o e [] i k l = absurd (omega arith)
set_at o e (q ∷ qs) zero k l = grind (arith, nat_tests)
set_at o e (q ∷ qs) (suc i) k l =
    let f : i ≡ place_in o qs → slice_set qs i (entry o e) ≡ stored o e qs = λ h. set_at o e qs i h (omega arith) in
    grind (arith, nat_tests, f)

removed_at : (o : Object) (qs : List Queue) (i : ℕ) → i ≡ place_in o qs → i < length qs → remove qs i ≡ removed o qs
removed_at o [] i k l = absurd (omega arith)
removed_at o (q ∷ qs) zero k l = grind (arith, nat_tests)
removed_at o (q ∷ qs) (suc i) k l =
    let f : i ≡ place_in o qs → remove qs i ≡ removed o qs = λ h. removed_at o qs i h (omega arith) in
    grind (arith, nat_tests, f)

pushed_behind : (o : Object) (e : Ends) (qs : List Queue) → length qs ≤ place_in o qs → qs ++ entry o e ∷ [] ≡ stored o e qs
pushed_behind o e [] l = refl
pushed_behind o e (q ∷ qs) l = grind (arith, nat_tests, pushed_behind o e qs)

none_removed : (o : Object) (qs : List Queue) → length qs ≤ place_in o qs → qs ≡ removed o qs
none_removed o [] l = refl
none_removed o (q ∷ qs) l = grind (arith, nat_tests, none_removed o qs)

pub set_stored : (o : Object) (e : Ends) (qs : List Queue) (i : ℕ) → position (is_queue_of o) qs ≡ Some i → slice_set qs i (entry o e) ≡ stored o e qs
set_stored o e qs i k =
    let p = is_position_or_len (place_in o) (is_queue_of o) refl (λ _ _. refl) qs in
    let f : i ≡ place_in o qs → i < length qs → slice_set qs i (entry o e) ≡ stored o e qs = set_at o e qs i in
    grind (arith, nat_tests, p, f)

-- the same, written through a slice that was lent
pub set_through : (o : Object) (e : Ends) (qs : List Queue) (i : ℕ) → position (is_queue_of o) qs ≡ Some i → refill (length qs) qs (slice_set qs i (entry o e)) ≡ stored o e qs
set_through o e qs i k = items-with_items (record { items = qs }) _ (length-set qs i _) ∙ set_stored o e qs i k

pub remove_removed : (o : Object) (qs : List Queue) (i : ℕ) → position (is_queue_of o) qs ≡ Some i → remove qs i ≡ removed o qs
remove_removed o qs i k =
    let p = is_position_or_len (place_in o) (is_queue_of o) refl (λ _ _. refl) qs in
    let f : i ≡ place_in o qs → i < length qs → remove qs i ≡ removed o qs = removed_at o qs i in
    grind (arith, nat_tests, p, f)

pub push_stored : (o : Object) (e : Ends) (qs : List Queue) → position (is_queue_of o) qs ≡ None → qs ++ entry o e ∷ [] ≡ stored o e qs
push_stored o e qs k =
    let p = is_position_or_len (place_in o) (is_queue_of o) refl (λ _ _. refl) qs in
    grind (arith, nat_tests, p, pushed_behind o e qs)

pub kept_removed : (o : Object) (qs : List Queue) → position (is_queue_of o) qs ≡ None → qs ≡ removed o qs
kept_removed o qs k =
    let p = is_position_or_len (place_in o) (is_queue_of o) refl (λ _ _. refl) qs in
    grind (arith, nat_tests, p, none_removed o qs)

-- stored

pub stored_ends : (o : Object) (e : Ends) (qs : List Queue) → IsWithEnds o e qs (stored o e qs)
stored_ends o e [] p = refl
stored_ends o e (q ∷ qs) p =
    let a : is_queue_of o q ≡ true → is_same p q.object ≡ is_same p o = same_as p o q.object in
    let b : is_same p o ≡ true → is_same p q.object ≡ is_same o q.object = same_from p o q.object in
    let i = stored_ends o e qs p in
    grind (arith, nat_tests, a, b, i)

any_stored : (o p : Object) (e : Ends) (qs : List Queue) → list_any (is_queue_of p) (stored o e qs) ≡ (is_same p o || list_any (is_queue_of p) qs)
any_stored o p e [] = refl
any_stored o p e (q ∷ qs) =
    let a : is_queue_of o q ≡ true → is_same p q.object ≡ is_same p o = same_as p o q.object in
    let i = any_stored o p e qs in
    grind (arith, nat_tests, a, i)

pub stored_directory : (o : Object) (e : Ends) (qs : List Queue) → 0 < e.count → IsDirectory qs → IsDirectory (stored o e qs)
stored_directory o e [] l h = (refl, l, tt)
stored_directory o e (q ∷ qs) l h =
    elim (is_queue_of o q) as (λ b. is_queue_of o q ≡ b → IsDirectory (cond b (entry o e ∷ qs) (q ∷ stored o e qs))) [
      | true ↦ λ k. (ap (λ x. list_any (is_queue_of x) qs) (same_equal o q.object k) ∙ h.0, l, h.2)
      | false ↦ λ k.
          let a = any_stored o q.object e qs in
          let b = same_back q.object o in
          (grind (arith, nat_tests, a, b, h.0, k), h.1, stored_directory o e qs l h.2)
    ] refl

pub stored_total : (o : Object) (e : Ends) (qs : List Queue) → total (stored o e qs) + (ends_of o qs).count ≡ total qs + e.count
stored_total o e [] = omega arith
stored_total o e (q ∷ qs) = grind (arith, nat_tests, stored_total o e qs)

-- removed

pub no_entry : (o : Object) (qs : List Queue) → list_any (is_queue_of o) qs ≡ false → ends_of o qs ≡ no_ends
no_entry o [] h = refl
no_entry o (q ∷ qs) h = grind (arith, nat_tests, no_entry o qs)

removed_head : (o p : Object) (q : Queue) (qs : List Queue) → is_queue_of o q ≡ true → list_any (is_queue_of q.object) qs ≡ false → ends_of p qs ≡ cond (is_same p o) no_ends (cond (is_queue_of p q) q.ends (ends_of p qs))
removed_head o p q qs k n =
    let a : is_same p q.object ≡ is_same p o = same_as p o q.object k in
    let z : is_same p o ≡ true → ends_of p qs ≡ no_ends = λ s. no_entry p qs (ap (λ x. list_any (is_queue_of x) qs) (same_equal p q.object (a ∙ s)) ∙ n) in
    grind (arith, nat_tests, a, z)

pub removed_ends : (o : Object) (qs : List Queue) → IsDirectory qs → IsWithEnds o no_ends qs (removed o qs)
removed_ends o [] h p = grind (arith, nat_tests)
removed_ends o (q ∷ qs) h p =
    let a : is_queue_of o q ≡ true → ends_of p qs ≡ cond (is_same p o) no_ends (cond (is_queue_of p q) q.ends (ends_of p qs)) = λ k. removed_head o p q qs k h.0 in
    let b : is_same p o ≡ true → is_same p q.object ≡ is_same o q.object = same_from p o q.object in
    let i = removed_ends o qs h.2 p in
    grind (arith, nat_tests, a, b, i)

any_removed : (o p : Object) (qs : List Queue) → list_any (is_queue_of p) qs ≡ false → list_any (is_queue_of p) (removed o qs) ≡ false
any_removed o p [] h = refl
any_removed o p (q ∷ qs) h = grind (arith, nat_tests, any_removed o p qs)

pub removed_directory : (o : Object) (qs : List Queue) → IsDirectory qs → IsDirectory (removed o qs)
removed_directory o [] h = tt
removed_directory o (q ∷ qs) h =
    elim (is_queue_of o q) as (λ b. IsDirectory (cond b qs (q ∷ removed o qs))) [
      | true ↦ h.2
      | false ↦ (any_removed o q.object qs h.0, h.1, removed_directory o qs h.2)
    ]

pub removed_total : (o : Object) (qs : List Queue) → total (removed o qs) + (ends_of o qs).count ≡ total qs
removed_total o [] = refl
removed_total o (q ∷ qs) = grind (arith, nat_tests, removed_total o qs)

-- there are no more entries than waits
pub length_total : (qs : List Queue) → IsDirectory qs → length qs ≤ total qs
length_total [] h = omega arith
length_total (q ∷ qs) h = (let i = length_total qs h.2 in let l = h.1 in omega (arith, i, l))

-- the ends of an object, by its entry
pub found_ends : (o : Object) (qs : List Queue) (q : Queue) → find (is_queue_of o) qs ≡ Some q → ends_of o qs ≡ q.ends
found_ends o [] q e = absurd (cc)
found_ends o (p ∷ qs) q e = grind (arith, nat_tests, found_ends o qs q)

pub no_ends_found : (o : Object) (qs : List Queue) → find (is_queue_of o) qs ≡ None → ends_of o qs ≡ no_ends
no_ends_found o [] e = refl
no_ends_found o (p ∷ qs) e = grind (arith, nat_tests, no_ends_found o qs)

-- an object that has no place has no ends
no_place : (o : Object) (qs : List Queue) → length qs ≤ place_in o qs → (ends_of o qs).count ≡ 0
no_place o [] l = refl
no_place o (q ∷ qs) l = grind (arith, nat_tests, no_place o qs)

pub no_place_ends : (o : Object) (qs : List Queue) → position (is_queue_of o) qs ≡ None → (ends_of o qs).count ≡ 0
no_place_ends o qs k =
    let p = is_position_or_len (place_in o) (is_queue_of o) refl (λ _ _. refl) qs in
    grind (arith, nat_tests, p, no_place o qs)
