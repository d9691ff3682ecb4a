-- The tests of a row are exact: they hold exactly where the state with the row behind the others is well-formed.
use Rattle.std.proofs.Common.{◌≡◌, ℕ, zero, suc, ◌+◌, ◌≤◌, ◌<◌, Bool, true, false, ◌&&◌, eqb, eqb-true, cond, ◌↔◌, List, [], ◌∷◌, ◌++◌, length, map, drop, Option, Some, None, is_some, is_none, refl, sym, ap, subst, ◌∙◌, arith, slice_get, slice_set}
use Rattle.std.specs.List.{list_any, list_all, find}
use Rattle.std.specs.Option.{option_flatten}
use Rattle.std.proofs.lemmas.Bool.Decides.{nat_tests}
use Rattle.std.proofs.lemmas.List.Folds.{list_all-append}
use Rattle.ckrt_thread.specs.declared.records.Thread.{Thread}
use Rattle.ckrt_thread.specs.declared.records.Wait.{Wait}
use Rattle.ckrt_thread.specs.declared.records.Reason.{Reason}
use Rattle.ckrt_thread.specs.declared.records.Reason.TheVariants as reason
use Rattle.ckrt_thread.specs.declared.records.Object.TheVariants as object
use Rattle.ckrt_thread.specs.Waits.{is_of, is_for, is_reason_for, is_deadline_of, has_proper_deadline, joins_another, is_unwind_of}
use Rattle.ckrt_thread.specs.Keys.{data_of, HasValuesOf, are_of_keys}
use Rattle.ckrt_thread.proofs.KeyLemmas.{both, values_of_keys, of_keys}
use Rattle.ckrt_thread.specs.State.{State, IsWellFormed, thread_of, is_live, is_live_thread, is_initial, is_ready, is_joined, is_proper_slot, holds, off, count_of, places, joiners, may_join, may_unwind, blocked}
use Rattle.ckrt_thread.specs.Contents.{ThreadRow, GoesOnWithThread, GoesOnWithWait, GoesOnWithHart, who_is_on, thread_appended, wait_appended, is_next_id, is_sole_initial, takes_thread, takes_wait, takes_on_hart}
use Rattle.ckrt_thread.proofs.Counting.{count_of-append, none_of_count}
use Rattle.ckrt_thread.proofs.SlotLemmas.{slot_at}
use Rattle.ckrt_thread.proofs.Known.{absent_places, absent_joiners}
use Rattle.ckrt_thread.proofs.Changes.{may_stand_free, well_formed_slot, well_formed_blocked, well_formed_placed}
use Rattle.ckrt_thread.proofs.ThreadRows.{at}

-- a test that is exact, as it came out
pub exact_as : {P : Type 0} (b c : Bool) → b ≡ c → (c ≡ true) ↔ P → (b ≡ true) ↔ P
exact_as b c e x = (λ t. x.0 (sym e ∙ t), λ p. e ∙ x.1 p)

-- THREADS

-- nothing stands from an id on, as it is tested

pub free_from : (slots : List (Option Thread)) (id t : ℕ) → list_all is_none (drop id slots) ≡ true → id ≤ t → at slots t ≡ None
free_from [] id t h l = refl
free_from (None ∷ slots) zero zero h l = refl
free_from (Some x ∷ slots) zero zero h l = absurd (cc)
free_from (x ∷ slots) zero (suc t) h l = free_from slots 0 t (grind (arith, nat_tests, h)) (omega arith)
free_from (x ∷ slots) (suc id) zero h l = absurd (omega arith)
free_from (x ∷ slots) (suc id) (suc t) h l = free_from slots id t h (omega arith)

pub all_free : (slots : List (Option Thread)) (id : ℕ) → ((t : ℕ) → id ≤ t → at slots t ≡ None) → list_all is_none (drop id slots) ≡ true
all_free [] zero f = refl
all_free [] (suc id) f = refl
all_free (None ∷ slots) zero f = all_free slots 0 (λ t l. f (suc t) (omega arith))
all_free (Some x ∷ slots) zero f = absurd (let z = f 0 (omega arith) in cc)
all_free (x ∷ slots) (suc id) f = all_free slots id (λ t l. f (suc t) (omega arith))

-- no thread is the initial one, as it is tested

pub none_initial : (slots : List (Option Thread)) (t : ℕ) → list_any is_initial slots ≡ false → is_initial (at slots t) ≡ false
none_initial [] t h = refl
none_initial (x ∷ slots) zero h = grind (arith, nat_tests, h)
none_initial (x ∷ slots) (suc t) h = none_initial slots t (grind (arith, nat_tests, h))

pub no_initial : (slots : List (Option Thread)) → ((t : ℕ) → is_initial (at slots t) ≡ false) → list_any is_initial slots ≡ false
no_initial [] f = refl
no_initial (x ∷ slots) f = (let z = f 0 in let n = no_initial slots (λ t. f (suc t)) in grind (arith, nat_tests, z, n))

module _ (r : ThreadRow) (s : State) (h : IsWellFormed s) where
  -- the thread may stand for its id, where nothing stood from that on
  pub goes_on : 0 < r.id → r.id ≤ 64 → ((t : ℕ) → r.id ≤ t → thread_of s t ≡ None) → ((q : ℕ) → is_initial (Some r.thread) ≡ true → is_initial (thread_of s q) ≡ true → r.id ≡ q) → is_proper_slot (Some r.thread) ≡ true → HasValuesOf s.keys (Some r.thread) → GoesOnWithThread r s
  goes_on p w a i proper v =
      let absent : is_live s r.id ≡ false = ap is_live_thread (a r.id (omega arith)) in
      record {
        above = a;
        within = w;
        well_formed = well_formed_slot s r.id (Some r.thread) h p w (may_stand_free s r.id (Some r.thread) (absent_places s r.id h absent) (absent_joiners s r.id h absent) i proper v);
      }

  sole_initial : is_sole_initial (Some r.thread) s.threads ≡ true → (q : ℕ) → is_initial (Some r.thread) ≡ true → is_initial (thread_of s q) ≡ true → r.id ≡ q
  sole_initial t q i j = absurd (let n = none_initial s.threads q (grind (arith, nat_tests, t, i)) in cc)

  -- the tests of a thread, one by one

  module _ (t : takes_thread r s ≡ true) where
    first_two : (is_next_id r.id s.threads && is_proper_slot (Some r.thread)) ≡ true
    first_two = (both _ (is_sole_initial (Some r.thread) s.threads) (both _ (are_of_keys s.keys (data_of (Some r.thread))) t).0).0

    taken_next : is_next_id r.id s.threads ≡ true
    taken_next = (both _ (is_proper_slot (Some r.thread)) first_two).0

    pub taken_proper : is_proper_slot (Some r.thread) ≡ true
    taken_proper = (both _ (is_proper_slot (Some r.thread)) first_two).1

    taken_sole : is_sole_initial (Some r.thread) s.threads ≡ true
    taken_sole = (both _ (is_sole_initial (Some r.thread) s.threads) (both _ (are_of_keys s.keys (data_of (Some r.thread))) t).0).1

    pub taken_values : HasValuesOf s.keys (Some r.thread)
    taken_values = values_of_keys s.keys (Some r.thread) taken_proper (both _ (are_of_keys s.keys (data_of (Some r.thread))) t).1

  thread_taken : takes_thread r s ≡ true → GoesOnWithThread r s
  thread_taken t =
      let next = taken_next t in
      let all : list_all is_none (drop r.id s.threads) ≡ true = grind (arith, nat_tests, next) in
      goes_on (grind (arith, nat_tests, next)) (grind (arith, nat_tests, next)) (λ q l. free_from s.threads r.id q all l) (sole_initial (taken_sole t)) (taken_proper t) (taken_values t)

  module _ (g : GoesOnWithThread r s) where
    standing : (q : ℕ) → thread_of (thread_appended r s) q ≡ cond (eqb r.id q) (Some r.thread) (thread_of s q)
    standing q =
        let n = h.size in
        let w = g.within in
        slot_at s.threads r.id q (Some r.thread) (omega (arith, n, w))

    here : thread_of (thread_appended r s) r.id ≡ Some r.thread
    here = standing r.id ∙ grind (arith, nat_tests)

    positive : 0 < r.id
    positive = grind (arith, nat_tests, standing 0, g.well_formed.zero)

    another : (q : ℕ) → is_initial (Some r.thread) ≡ true → is_initial (thread_of s q) ≡ true → r.id ≡ q
    another q i j =
        elim (eqb r.id q) as (λ b. eqb r.id q ≡ b → r.id ≡ q) [
          | true ↦ λ e. eqb-true r.id q e
          | false ↦ λ e.
              let there : thread_of (thread_appended r s) q ≡ thread_of s q = standing q ∙ ap (λ b. cond b (Some r.thread) (thread_of s q)) e in
              g.well_formed.one_initial r.id q (ap is_initial here ∙ i) (ap is_initial there ∙ j)
        ] refl

    alone : is_initial (Some r.thread) ≡ true → (q : ℕ) → is_initial (thread_of s q) ≡ false
    alone i q =
        elim (is_initial (thread_of s q)) as (λ b. is_initial (thread_of s q) ≡ b → b ≡ false) [
          | true ↦ λ e.
              let free = g.above q (let same = another q i e in omega (arith, same)) in
              sym e ∙ ap is_initial free
          | false ↦ λ e. refl
        ] refl

    sole : is_sole_initial (Some r.thread) s.threads ≡ true
    sole =
        let none : is_initial (Some r.thread) ≡ true → list_any is_initial s.threads ≡ false = λ i. no_initial s.threads (alone i) in
        grind (arith, nat_tests, none)

    goes_on_taken : takes_thread r s ≡ true
    goes_on_taken =
        let all = all_free s.threads r.id g.above in
        let proper : is_proper_slot (Some r.thread) ≡ true = sym (ap is_proper_slot here) ∙ g.well_formed.proper r.id in
        let values = of_keys s.keys (Some r.thread) (subst (HasValuesOf s.keys) here (g.well_formed.values r.id)) in
        grind (arith, nat_tests, all, proper, positive, g.within, sole, values)

  -- nothing is asked of the id of a thread that is taken

  absent : takes_thread r s ≡ true → is_live s r.id ≡ false
  absent t = ap is_live_thread ((thread_taken t).above r.id (omega arith))

  pub taken_places : takes_thread r s ≡ true → places s r.id ≡ 0
  taken_places t = absent_places s r.id h (absent t)

  pub taken_joiners : takes_thread r s ≡ true → joiners s r.id ≡ 0
  taken_joiners t = absent_joiners s r.id h (absent t)

  pub taken_initial : takes_thread r s ≡ true → (q : ℕ) → is_initial (Some r.thread) ≡ true → is_initial (thread_of s q) ≡ true → r.id ≡ q
  taken_initial t q i j = sole_initial (taken_sole t) q i j

  pub thread_exact : (takes_thread r s ≡ true) ↔ GoesOnWithThread r s
  thread_exact = (thread_taken, goes_on_taken)

-- WAITS

-- taking off a thread that is on no hart changes nothing
pub off_none : (t : ℕ) (hs : List (Option ℕ)) → list_any (holds t) hs ≡ false → map (off t) hs ≡ hs
off_none t [] n = refl
off_none t (None ∷ hs) n = ap (λ x. None ∷ x) (off_none t hs (grind (arith, nat_tests, n)))
off_none t (Some u ∷ hs) n =
    let this : holds t (Some u) ≡ false = grind (arith, nat_tests, n) in
    let rest = off_none t hs (grind (arith, nat_tests, n)) in
    let same : off t (Some u) ≡ Some u = ap (λ b. cond b None (Some u)) this in
    rw (rest, same) refl

-- a thread that is on no hart waits, and that is all
pub blocked_ready : (s : State) (w : Wait) → is_ready s w.thread ≡ true → blocked w.thread w.reason w.deadline s ≡ wait_appended w s
blocked_ready s w r = ap (λ hs. record { threads = s.threads; waits = s.waits ++ w ∷ []; harts = hs; hart_count = s.hart_count; keys = s.keys }) (off_none w.thread s.harts (grind (arith, nat_tests, r)))

pub blocked_taken : (s : State) (w : Wait) → takes_wait w s ≡ true → blocked w.thread w.reason w.deadline s ≡ wait_appended w s
blocked_taken s w t = blocked_ready s w (grind (arith, nat_tests, t))

find_none : {X : Type 0} (p : X → Bool) (xs : List X) → count_of p xs ≡ 0 → find p xs ≡ None
find_none p [] e = refl
find_none p (x ∷ xs) e = grind (arith, nat_tests, e, find_none p xs)

module _ (w : Wait) (s : State) (h : IsWellFormed s) where
  more : List Wait
  more = w ∷ []

  wait_taken : takes_wait w s ≡ true → GoesOnWithWait w s
  wait_taken t =
      let ready : is_ready s w.thread ≡ true = grind (arith, nat_tests, t) in
      let k = well_formed_blocked s w.thread w.reason w.deadline h (grind (arith, nat_tests, t)) (grind (arith, nat_tests, t)) (grind (arith, nat_tests, t)) in
      subst IsWellFormed (blocked_ready s w ready) k

  module _ (g : GoesOnWithWait w s) where
    ready : is_ready s w.thread ≡ true
    ready =
        let placed = g.placed w.thread in
        let counted = count_of-append (is_of w.thread) s.waits (w ∷ []) in
        let waits = none_of_count (is_of w.thread) s.waits in
        let harts = none_of_count (holds w.thread) s.harts in
        grind (arith, nat_tests, placed, counted, waits, harts)

    deadline : is_deadline_of w.reason w.deadline ≡ true
    deadline = grind (arith, nat_tests, g.deadlines, list_all-append has_proper_deadline s.waits (w ∷ []))

    by_another : joins_another w ≡ true
    by_another = grind (arith, nat_tests, g.joined_by_another, list_all-append joins_another s.waits (w ∷ []))

    not_joined_yet : (q : ℕ) → joiners s q ≡ 0 → is_joined q s ≡ false
    not_joined_yet q e = ap is_some (find_none (is_for (object.End q)) s.waits e)

    joins_for : (r : Reason) → w.reason ≡ r → may_join w.thread r s ≡ true
    joins_for (reason.Join q) e =
        let target = g.joined_target q in
        let counted = count_of-append (is_for (object.End q)) s.waits (w ∷ []) in
        let mine : is_for (object.End q) w ≡ true = ap (is_reason_for (object.End q)) e ∙ grind (arith, nat_tests) in
        let other : is_for (object.End w.thread) w ≡ eqb w.thread q = ap (is_reason_for (object.End w.thread)) e in
        let alone = not_joined_yet q in
        grind (arith, nat_tests, target, counted, mine, other, by_another, alone)
    joins_for reason.Input e = refl
    joins_for reason.Sleep e = refl
    joins_for (reason.Lock m) e = refl
    joins_for (reason.Retake m v) e = refl
    joins_for (reason.Condition c m) e = refl
    joins_for (reason.Barrier b) e = refl
    joins_for (reason.Read l) e = refl
    joins_for (reason.Write l) e = refl

    unwinds : may_unwind w.thread w.reason s ≡ true
    unwinds =
        let few = g.unwinding_waits w.thread in
        let counted = count_of-append (is_unwind_of w.thread) s.waits (w ∷ []) in
        grind (arith, nat_tests, few, counted)

    goes_on_waits : takes_wait w s ≡ true
    goes_on_waits = grind (arith, nat_tests, ready, deadline, joins_for w.reason refl, unwinds)

  pub wait_exact : (takes_wait w s ≡ true) ↔ GoesOnWithWait w s
  wait_exact = (wait_taken, goes_on_waits)

-- HARTS

-- a thread put onto an idle hart is on one hart more
pub count_of-put_idle : (hs : List (Option ℕ)) (h t : ℕ) → h < length hs → option_flatten (slice_get hs h) ≡ None → count_of (holds t) (slice_set hs h (Some t)) ≡ 1 + count_of (holds t) hs
count_of-put_idle [] h t l e = absurd (omega arith)
count_of-put_idle (None ∷ hs) zero t l e = grind (arith, nat_tests)
count_of-put_idle (Some u ∷ hs) zero t l e = absurd (cc)
count_of-put_idle (None ∷ hs) (suc h) t l e = grind (arith, nat_tests, count_of-put_idle hs h t)
count_of-put_idle (Some u ∷ hs) (suc h) t l e = grind (arith, nat_tests, count_of-put_idle hs h t)

idle_is_none : (o : Option ℕ) → is_none o ≡ true → o ≡ None
idle_is_none None e = refl
idle_is_none (Some t) e = absurd (cc)

module _ (i t : ℕ) (s : State) (h : IsWellFormed s) where
  hart_taken : takes_on_hart i t s ≡ true → GoesOnWithHart i t s
  hart_taken e =
      let within : i < s.hart_count = grind (arith, nat_tests, e) in
      record {
        within = within;
        idle = idle_is_none (who_is_on s i) (grind (arith, nat_tests, e));
        well_formed = well_formed_placed s i t h within (grind (arith, nat_tests, e));
      }

  goes_on_hart : GoesOnWithHart i t s → takes_on_hart i t s ≡ true
  goes_on_hart g =
      let size = h.harts in
      let few = h.hart_count in
      let within = g.within in
      let put = count_of-put_idle s.harts i t (omega (arith, size, few, within)) g.idle in
      let placed = g.well_formed.placed t in
      let waits = none_of_count (is_of t) s.waits in
      let harts = none_of_count (holds t) s.harts in
      let idle : is_none (who_is_on s i) ≡ true = ap is_none g.idle in
      grind (arith, nat_tests, put, placed, waits, harts, idle, within)

  pub hart_exact : (takes_on_hart i t s ≡ true) ↔ GoesOnWithHart i t s
  hart_exact = (hart_taken, goes_on_hart)
