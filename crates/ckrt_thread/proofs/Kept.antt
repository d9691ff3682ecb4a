-- The list of waits, by the table that keeps it.
use Rattle.std.proofs.Common.{◌≡◌, ◌≢◌, ℕ, zero, suc, ◌+◌, ◌≤◌, ◌<◌, Bool, true, false, cond, eqb, eqb-true, nat_eq, List, [], ◌∷◌, ◌++◌, length, map, replicate, Some, None, refl, sym, ap, subst, ◌∙◌, arith, slice_index, slice_index_or, slice_set, take, drop, get_or-set_other, get_or-set_same}
use Rattle.std.specs.List.{find, filter, list_any}
use Rattle.std.proofs.lemmas.Bool.Decides.{nat_tests}
use Rattle.std.proofs.lemmas.List.{length-set, length-map}
use Rattle.ckrt_thread.specs.declared.records.Wait.{Wait}
use Rattle.ckrt_thread.specs.declared.records.Object.{Object}
use Rattle.ckrt_thread.specs.declared.links.Links.{Links}
use Rattle.ckrt_thread.specs.declared.links.Ends.{Ends}
use Rattle.ckrt_thread.specs.declared.queues.Queues.{Queues}
use Rattle.ckrt_thread.specs.Waits.{is_for, is_of, without}
use Rattle.ckrt_thread.specs.State.{count_of}
use Rattle.ckrt_thread.specs.Links.{row, dropped, first_of, IsPath, IsChain}
use Rattle.ckrt_thread.specs.Queues.{ids, queued, ends_of, WaitOnce, AreQueues, MayJoin, MayLeave}
use Rattle.ckrt_thread.specs.WaitList.{entry_at, nobody, AreEntries, AreMarked, waits_along, AreKept}
use Rattle.ckrt_thread.proofs.Counting.{count_of_none}
use Rattle.ckrt_thread.proofs.Paths.{row_is, path_in, path_first}
use Rattle.ckrt_thread.proofs.QueueLemmas.{ids_any, ids_append}
use Rattle.ckrt_thread.proofs.Marks.{marks_none, marks_more, marks_without}

-- THE VIEW

along_ids : (table : List Wait) (ws : List Wait) → AreEntries table ws → map (entry_at table) (ids ws) ≡ ws
along_ids table [] h = refl
along_ids table (w ∷ ws) h = ap (λ v. v ∷ map (entry_at table) (ids ws)) h.0 ∙ ap (λ vs. w ∷ vs) (along_ids table ws h.1)

module _ (table : List Wait) (waiting : List Bool) (links : Links) (ends : Ends) (queues : Queues) where
  pub kept_is : (ws : List Wait) → AreKept table waiting links ends queues ws → waits_along table links ends ≡ ws
  kept_is ws h = ap (map (entry_at table)) (row_is links ends (ids ws) h.order) ∙ along_ids table ws h.entries

  pub kept_view : (ws : List Wait) → AreKept table waiting links ends queues ws → AreKept table waiting links ends queues (waits_along table links ends)
  kept_view ws h = subst (AreKept table waiting links ends queues) (sym (kept_is ws h)) h

  pub kept_row : (ws : List Wait) → AreKept table waiting links ends queues ws → row links ends ≡ ids ws
  kept_row ws h = row_is links ends (ids ws) h.order

  -- who waits has a number that the table has
  pub waiting_below : (ws : List Wait) (t : ℕ) → AreKept table waiting links ends queues ws → list_any (is_of t) ws ≡ true → t < 65
  waiting_below ws t h m = (path_in links.next ends.first t (ids ws) h.order.forth (ids_any t ws ∙ m)).1

path_once : (next : List ℕ) (f : ℕ) (ws : List Wait) → IsPath next f (ids ws) → WaitOnce ws
path_once next f [] h t = omega arith
path_once next f (w ∷ ws) h t =
    let none : eqb t w.thread ≡ true → count_of (is_of t) ws ≡ 0 = λ e. count_of_none (is_of t) ws (ap (λ q. list_any (is_of q) ws) (eqb-true t w.thread e) ∙ (sym (ids_any w.thread ws) ∙ h.3)) in
    let i = path_once next (slice_index next w.thread) ws h.4 t in
    grind (arith, nat_tests, none, i)

-- ENTRIES

-- the entry of who waits
pub found_entry : (table : List Wait) (ws : List Wait) (t : ℕ) → AreEntries table ws → list_any (is_of t) ws ≡ true → find (is_of t) ws ≡ Some (entry_at table t)
found_entry table [] t h m = absurd (cc)
found_entry table (w ∷ ws) t h m =
    elim (is_of t w) as (λ b. is_of t w ≡ b → find (is_of t) (w ∷ ws) ≡ Some (entry_at table t)) [
      | true ↦ λ e. subst (λ q. find (is_of q) (w ∷ ws) ≡ Some (entry_at table q)) (sym (eqb-true t w.thread e)) (let k = h.0 in grind (arith, nat_tests, k))
      | false ↦ λ e. let i = found_entry table ws t h.1 (grind (arith, nat_tests, e, m)) in grind (arith, nat_tests, e, i)
    ] refl

entry_set : (table : List Wait) (v : Wait) (i t : ℕ) → nat_eq i t ≡ false → entry_at (slice_set table i v) t ≡ entry_at table t
entry_set table v i t n = let ne : t ≢ i = (λ e. grind (arith, nat_tests)) in get_or-set_other table i t v nobody ne

pub entries_set : (table : List Wait) (v : Wait) (i : ℕ) (ws : List Wait) → list_any (is_of i) ws ≡ false → AreEntries table ws → AreEntries (slice_set table i v) ws
entries_set table v i [] n h = tt
entries_set table v i (w ∷ ws) n h =
    (entry_set table v i w.thread (grind (arith, nat_tests, n)) ∙ h.0, entries_set table v i ws (grind (arith, nat_tests, n)) h.1)

pub entries_more : (table : List Wait) (w : Wait) (ws : List Wait) → w.thread < length table → list_any (is_of w.thread) ws ≡ false → AreEntries table ws → AreEntries (slice_set table w.thread w) (ws ++ w ∷ [])
entries_more table w [] l n h = (get_or-set_same table w.thread w nobody l, tt)
entries_more table w (v ∷ ws) l n h =
    (entry_set table w w.thread v.thread (grind (arith, nat_tests, n)) ∙ h.0, entries_more table w ws l (grind (arith, nat_tests, n)) h.1)

pub entries_without : (table : List Wait) (t : ℕ) (ws : List Wait) → AreEntries table ws → AreEntries table (without t ws)
entries_without table t [] h = tt
entries_without table t (w ∷ ws) h =
    elim (is_of t w) as (λ b. AreEntries table (cond b ws (w ∷ without t ws))) [
      | true ↦ h.1
      | false ↦ (h.0, entries_without table t ws h.1)
    ]

pub ids_without : (t : ℕ) (ws : List Wait) → ids (without t ws) ≡ dropped t (ids ws)
ids_without t [] = refl
ids_without t (w ∷ ws) = grind (arith, nat_tests, ids_without t ws)

-- the wait of a thread has its number
pub same_thread : (ws : List Wait) (t : ℕ) (w : Wait) → find (is_of t) ws ≡ Some w → t ≡ w.thread
same_thread [] t w e = absurd (cc)
same_thread (v ∷ ws) t w e =
    elim (is_of t v) as (λ b. is_of t v ≡ b → t ≡ w.thread) [
      | true ↦ λ k. let s : v ≡ w = grind (arith, nat_tests, k, e) in eqb-true t v.thread k ∙ ap (λ x. x.thread) s
      | false ↦ λ k. same_thread ws t w (grind (arith, nat_tests, k, e))
    ] refl

-- WALKING: the wait at a place, its entry, and the links behind it
pub walk_at : (next : List ℕ) (table : List Wait) (t : ℕ) (ws : List Wait) (i : ℕ) → IsPath next t (ids (drop i ws)) → AreEntries table ws → i < length ws
    → (t < 65) × IsPath next (slice_index next t) (ids (drop (i + 1) ws)) × (take (i + 1) ws ≡ take i ws ++ entry_at table t ∷ [])
walk_at next table t [] i h a l = absurd (omega arith)
walk_at next table t (w ∷ ws) zero h a l =
    let b = h.2 in let k = h.0 in
    let d : drop (0 + 1) (w ∷ ws) ≡ ws = grind (arith, nat_tests) in
    let e : take (0 + 1) (w ∷ ws) ≡ w ∷ [] = grind (arith, nat_tests) in
    (omega (arith, b, k), rw (d, k) h.4, rw (e, k, a.0) refl)
walk_at next table t (w ∷ ws) (suc i) h a l =
    let r = walk_at next table t ws i h a.1 (omega arith) in
    let d : drop (suc i + 1) (w ∷ ws) ≡ drop (i + 1) ws = grind (arith, nat_tests) in
    let e : take (suc i + 1) (w ∷ ws) ≡ w ∷ take (i + 1) ws = grind (arith, nat_tests) in
    (r.0, rw d r.1, e ∙ ap (λ vs. w ∷ vs) r.2)

-- THE FIRST OF A QUEUE

first_queued : (p : Wait → Bool) (ws : List Wait) → find p ws ≡ None → first_of (ids (filter p ws)) ≡ 0
first_queued p [] e = refl
first_queued p (w ∷ ws) e = grind (arith, nat_tests, first_queued p ws)

found_queued : (p : Wait → Bool) (ws : List Wait) (w : Wait) → find p ws ≡ Some w → first_of (ids (filter p ws)) ≡ w.thread
found_queued p [] w e = absurd (cc)
found_queued p (v ∷ ws) w e = grind (arith, nat_tests, found_queued p ws w)

found_in : (table : List Wait) (p : Wait → Bool) (ws : List Wait) (w : Wait) → find p ws ≡ Some w → AreEntries table ws → entry_at table w.thread ≡ w
found_in table p [] w e h = absurd (cc)
found_in table p (v ∷ ws) w e h =
    elim (p v) as (λ b. p v ≡ b → entry_at table w.thread ≡ w) [
      | true ↦ λ k. let s : v ≡ w = grind (arith, nat_tests, k, e) in subst (λ x. entry_at table x.thread ≡ x) s h.0
      | false ↦ λ k. found_in table p ws w (grind (arith, nat_tests, k, e)) h.1
    ] refl

waits_there : (p : Wait → Bool) (ws : List Wait) (w : Wait) → find p ws ≡ Some w → list_any (is_of w.thread) ws ≡ true
waits_there p [] w e = absurd (cc)
waits_there p (v ∷ ws) w e = grind (arith, nat_tests, waits_there p ws w)

module _ (table : List Wait) (waiting : List Bool) (links : Links) (ends : Ends) (queues : Queues) where
  first_is : (o : Object) (ws : List Wait) → AreKept table waiting links ends queues ws → (ends_of o queues.directory.items).first ≡ first_of (queued o ws)
  first_is o ws h = path_first queues.links.next (ends_of o queues.directory.items).first (queued o ws) (h.queues.chains o).forth

  -- nobody waits for an object whose queue has no first
  pub nobody_first : (o : Object) (ws : List Wait) → AreKept table waiting links ends queues ws → (ends_of o queues.directory.items).first ≡ 0 → find (is_for o) ws ≡ None
  nobody_first o ws h z =
      elim (find (is_for o) ws) as (λ f. find (is_for o) ws ≡ f → find (is_for o) ws ≡ None) [
        | None ↦ λ e. e
        | Some w ↦ λ e. absurd (
            let a = first_is o ws h in let b = found_queued (is_for o) ws w e in
            let c = (path_in links.next ends.first w.thread (ids ws) h.order.forth (ids_any w.thread ws ∙ waits_there (is_for o) ws w e)).0 in
            omega (arith, a, b, c, z))
      ] refl

  -- else the first of the queue has its entry
  pub first_found : (o : Object) (ws : List Wait) → AreKept table waiting links ends queues ws → (ends_of o queues.directory.items).first ≢ 0
      → (find (is_for o) ws ≡ Some (entry_at table (ends_of o queues.directory.items).first)) × ((ends_of o queues.directory.items).first < 65)
  first_found o ws h z =
      elim (find (is_for o) ws) as (λ f. find (is_for o) ws ≡ f → (find (is_for o) ws ≡ Some (entry_at table (ends_of o queues.directory.items).first)) × ((ends_of o queues.directory.items).first < 65)) [
        | None ↦ λ e. absurd (z (first_is o ws h ∙ first_queued (is_for o) ws e))
        | Some w ↦ λ e.
            let k : w.thread ≡ (ends_of o queues.directory.items).first = sym (first_is o ws h ∙ found_queued (is_for o) ws w e) in (
              e ∙ subst (λ t. Some w ≡ Some (entry_at table t)) k (ap Some (sym (found_in table (is_for o) ws w e h.entries))),
              subst (λ t. t < 65) k (path_in links.next ends.first w.thread (ids ws) h.order.forth (ids_any w.thread ws ∙ waits_there (is_for o) ws w e)).1,
            )
      ] refl

  -- A WAIT COMES AND GOES

  pub kept_more : (ws : List Wait) (w : Wait) (more : Links) (last : Ends) (joined : Queues) → AreKept table waiting links ends queues ws → (0 < w.thread) × (w.thread ≤ 64) → list_any (is_of w.thread) ws ≡ false
      → IsChain more last (ids ws ++ w.thread ∷ []) → AreQueues joined (ws ++ w ∷ []) → AreKept (slice_set table w.thread w) (slice_set waiting w.thread true) more last joined (ws ++ w ∷ [])
  kept_more ws w more last joined h r n chain q =
      let below : w.thread < length table = (let s = h.size in let k = r.1 in omega (arith, s, k)) in
      let few : w.thread < 256 = (let k = r.1 in omega (arith, k)) in
      record {
        size = length-set table w.thread w ∙ h.size;
        entries = entries_more table w ws below n h.entries;
        marks = marks_more waiting ws w h.marks few;
        order = subst (IsChain more last) (sym (ids_append ws (w ∷ []))) chain;
        queues = q;
      }

  pub kept_without : (ws : List Wait) (t : ℕ) (fewer : Links) (last : Ends) (left : Queues) → AreKept table waiting links ends queues ws → t < 256
      → IsChain fewer last (dropped t (ids ws)) → AreQueues left (without t ws) → AreKept table (slice_set waiting t false) fewer last left (without t ws)
  kept_without ws t fewer last left h l chain q = record {
    size = h.size;
    entries = entries_without table t ws h.entries;
    marks = marks_without waiting ws t h.marks (path_once links.next ends.first ws h.order.forth t) l;
    order = subst (IsChain fewer last) (sym (ids_without t ws)) chain;
    queues = q;
  }

  pub may_join : (ws : List Wait) (w : Wait) → AreKept table waiting links ends queues ws → (0 < w.thread) × (w.thread ≤ 64) → list_any (is_of w.thread) ws ≡ false → length ws < 64 → MayJoin queues w ws
  may_join ws w h r n l = record {
    number = r;
    free = ids_any w.thread ws ∙ n;
    once = path_once links.next ends.first ws h.order.forth;
    room = l;
    queues = h.queues;
  }

  pub may_leave : (ws : List Wait) (t : ℕ) → AreKept table waiting links ends queues ws → list_any (is_of t) ws ≡ true → MayLeave queues (entry_at table t) ws
  may_leave ws t h m =
      let f = found_entry table ws t h.entries m in
      record {
        there = subst (λ q. find (is_of q) ws ≡ Some (entry_at table t)) (same_thread ws t (entry_at table t) f) f;
        once = path_once links.next ends.first ws h.order.forth;
        queues = h.queues;
      }

-- WHO WAITS, by the marks

pub none_found : (p : Wait → Bool) (ws : List Wait) → list_any p ws ≡ false → find p ws ≡ None
none_found p [] h = refl
none_found p (w ∷ ws) h = grind (arith, nat_tests, none_found p ws)

pub none_out : (t : ℕ) (ws : List Wait) → list_any (is_of t) ws ≡ false → without t ws ≡ ws
none_out t [] h = refl
none_out t (w ∷ ws) h = grind (arith, nat_tests, none_out t ws)

pub unmarked : (waiting : List Bool) (ws : List Wait) (t : ℕ) → AreMarked waiting ws → t < 256 → slice_index_or waiting t false ≡ false → list_any (is_of t) ws ≡ false
unmarked waiting ws t h l n = (let m = h.marked t l in grind (arith, nat_tests, m, n))

pub marked : (waiting : List Bool) (ws : List Wait) (t : ℕ) → AreMarked waiting ws → t < 256 → slice_index_or waiting t false ≡ true → list_any (is_of t) ws ≡ true
marked waiting ws t h l n = (let m = h.marked t l in grind (arith, nat_tests, m, n))

pub queue_length : (links : Links) (ends : Ends) (p : Wait → Bool) (ws : List Wait) → IsChain links ends (ids (filter p ws)) → ends.count ≡ length (filter p ws)
queue_length links ends p ws h = h.count ∙ length-map (filter p ws) (λ w. w.thread)

-- the list is empty at the start
pub kept_none : (queues : Queues) → AreQueues queues [] → AreKept (replicate 65 nobody) (replicate 256 false) (record { next = replicate 65 0; previous = replicate 65 0 }) (record { first = 0; last = 0; count = 0 }) queues []
kept_none queues q = record {
  size = refl;
  entries = tt;
  marks = marks_none;
  order = record { next_size = refl; previous_size = refl; forth = refl; back = refl; count = refl };
  queues = q;
}

pub length_taken : (n : ℕ) (ws : List Wait) → length (take n ws) ≤ n
length_taken zero ws = (let d : take 0 ws ≡ [] = grind (arith, nat_tests) in grind (arith, nat_tests, d))
length_taken (suc n) [] = omega arith
length_taken (suc n) (w ∷ ws) = (let i = length_taken n ws in let d : take (suc n) (w ∷ ws) ≡ w ∷ take n ws = grind (arith, nat_tests) in grind (arith, nat_tests, i, d))
