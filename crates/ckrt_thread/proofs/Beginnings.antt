-- Each row of a well-formed state goes on from the rows before it.
use Rattle.std.proofs.Common.{◌≡◌, ℕ, zero, suc, ◌+◌, ◌≤◌, ◌<◌, nat_lt, Bool, true, false, eqb, eqb-true, cond, List, [], ◌∷◌, ◌++◌, length, Option, Some, None, refl, sym, ap, subst, ◌∙◌, arith, slice_get, slice_set, append_assoc}
use Rattle.std.specs.List.{list_all}
use Rattle.std.specs.Option.{option_flatten}
use Rattle.std.proofs.lemmas.Bool.Decides.{nat_tests}
use Rattle.std.proofs.lemmas.List.{length-set}
use Rattle.std.proofs.lemmas.List.Folds.{list_all-append}
use Rattle.ckrt_thread.specs.declared.records.Thread.{Thread}
use Rattle.ckrt_thread.specs.declared.records.Wait.{Wait}
use Rattle.ckrt_thread.specs.declared.records.Object.TheVariants as object
use Rattle.ckrt_thread.specs.Waits.{is_of, is_for, has_proper_deadline, joins_another, is_unwind_of}
use Rattle.ckrt_thread.specs.Keys.{KeyTable, HasValuesOf}
use Rattle.ckrt_thread.specs.State.{State, IsWellFormed, thread_of, is_initial, is_proper_slot, holds, count_of}
use Rattle.ckrt_thread.specs.Contents.{ThreadRow, rows_from, thread_rows, who_is_on, GoesOnWithThread, GoesOnWithWait, GoesOnWithHart, HasNextThread, HasNextWait, HasNextOnHart, NextGoesOn}
use Rattle.ckrt_thread.proofs.Counting.{count_of-append}
use Rattle.ckrt_thread.proofs.SlotLemmas.{slot_at}
use Rattle.ckrt_thread.proofs.HartLemmas.{idle_put}
use Rattle.ckrt_thread.proofs.Known.{thread_range}
use Rattle.ckrt_thread.proofs.ThreadRows.{at, later, no_threads, same_threads}
use Rattle.ckrt_thread.proofs.Taking.{goes_on}

-- THREADS

-- the slots xs are the beginning of ys before the thread of a row; both begin with the slot of the id k
record Begins (k : ℕ) (xs ys : List (Option Thread)) (r : ThreadRow) : Type 0 where
  place : ℕ
  id : r.id ≡ k + place
  there : at ys place ≡ Some r.thread
  free : (i : ℕ) → place ≤ i → at xs i ≡ None
  kept : (i : ℕ) (x : Thread) → at xs i ≡ Some x → at ys i ≡ Some x

-- one slot more before them

free_more : (a : Option Thread) (xs : List (Option Thread)) (p : ℕ) → ((i : ℕ) → p ≤ i → at xs i ≡ None) → (i : ℕ) → suc p ≤ i → at (a ∷ xs) i ≡ None
free_more a xs p f zero l = absurd (omega arith)
free_more a xs p f (suc i) l = f i (omega arith)

kept_more : (a b : Option Thread) (xs ys : List (Option Thread)) → ((x : Thread) → a ≡ Some x → b ≡ Some x) → ((i : ℕ) (x : Thread) → at xs i ≡ Some x → at ys i ≡ Some x) → (i : ℕ) (x : Thread) → at (a ∷ xs) i ≡ Some x → at (b ∷ ys) i ≡ Some x
kept_more a b xs ys h k zero x e = h x e
kept_more a b xs ys h k (suc i) x e = k i x e

begins_more : (k : ℕ) (a b : Option Thread) (xs ys : List (Option Thread)) (r : ThreadRow) → ((x : Thread) → a ≡ Some x → b ≡ Some x) → Begins (suc k) xs ys r → Begins k (a ∷ xs) (b ∷ ys) r
begins_more k a b xs ys r h g = record {
  place = suc g.place;
  id = (let i = g.id in omega (arith, i));
  there = g.there;
  free = free_more a xs g.place g.free;
  kept = kept_more a b xs ys h g.kept;
}

all_none : (xs : List (Option Thread)) → ((i : ℕ) → at xs i ≡ None) → (i : ℕ) → at (None ∷ xs) i ≡ None
all_none xs n zero = refl
all_none xs n (suc i) = n i

-- the thread is in the first slot
begins_here : (k : ℕ) (xs ys : List (Option Thread)) (y : Thread) (r : ThreadRow) → record { id = k; thread = y } ≡ r → ((i : ℕ) → at xs i ≡ None) → Begins k (None ∷ xs) (Some y ∷ ys) r
begins_here k xs ys y r e n = record {
  place = 0;
  id = (let i : k ≡ r.id = ap (λ (q : ThreadRow). q.id) e in omega (arith, i));
  there = ap (λ (q : ThreadRow). Some q.thread) e;
  free = λ i _. all_none xs n i;
  kept = λ i x f. absurd (let z = all_none xs n i in cc);
}

begins : (k : ℕ) (xs ys : List (Option Thread)) (r : ThreadRow) (more : List ThreadRow) → length xs ≡ length ys → rows_from k ys ≡ rows_from k xs ++ r ∷ more → Begins k xs ys r
begins k [] [] r more n e = absurd (cc)
begins k [] (y ∷ ys) r more n e = absurd (omega arith)
begins k (x ∷ xs) [] r more n e = absurd (omega arith)
begins k (None ∷ xs) (None ∷ ys) r more n e = begins_more k None None xs ys r (λ x f. f) (begins (suc k) xs ys r more (omega arith) e)
begins k (None ∷ xs) (Some y ∷ ys) r more n e =
    elim (rows_from (suc k) xs) as (λ o. rows_from (suc k) xs ≡ o → rows_from k (Some y ∷ ys) ≡ o ++ r ∷ more → Begins k (None ∷ xs) (Some y ∷ ys) r) [
      | [] ↦ λ none f. begins_here k xs ys y r (let same : record { id = k; thread = y } ≡ r = cc in same) (no_threads (suc k) xs none)
      | q ∷ qs ↦ λ some f.
          let same : record { id = k; thread = y } ≡ q = cc in
          let i : k ≡ q.id = ap (λ (p : ThreadRow). p.id) same in
          let l = later (suc k) k xs q qs (omega arith) some in
          absurd (omega (arith, i, l))
    ] refl e
begins k (Some x ∷ xs) (None ∷ ys) r more n e =
    absurd (let l = later (suc k) k ys (record { id = k; thread = x }) (rows_from (suc k) xs ++ r ∷ more) (omega arith) e in omega (arith, l))
begins k (Some x ∷ xs) (Some y ∷ ys) r more n e =
    let row : record { id = k; thread = y } ≡ record { id = k; thread = x } = cc in
    let rest : rows_from (suc k) ys ≡ rows_from (suc k) xs ++ r ∷ more = cc in
    let here : Some y ≡ Some x = ap (λ (q : ThreadRow). Some q.thread) row in
    begins_more k (Some x) (Some y) xs ys r (λ z f. here ∙ f) (begins (suc k) xs ys r more (omega arith) rest)

kept_initial : (o p : Option Thread) → ((x : Thread) → o ≡ Some x → p ≡ Some x) → is_initial o ≡ true → is_initial p ≡ true
kept_initial None p k i = absurd (cc)
kept_initial (Some x) p k i = ap is_initial (k x refl) ∙ i

pub next_thread : NextGoesOn HasNextThread GoesOnWithThread
next_thread r begun s h k n =
    let g = begins 0 begun.threads s.threads r n.threads.0 (h.size ∙ sym k.size) n.threads.1 in
    let i = g.id in
    let same : g.place ≡ r.id = omega (arith, i) in
    let there : thread_of s r.id ≡ Some r.thread = subst (λ (j : ℕ). at s.threads j ≡ Some r.thread) same g.there in
    let range = thread_range s r.id r.thread k there in
    goes_on r begun h range.0 range.1 (λ t l. g.free t (omega (arith, same, l)))
    (λ q a b. k.one_initial r.id q (ap is_initial there ∙ a) (kept_initial (thread_of begun q) (thread_of s q) (g.kept q) b))
    (sym (ap is_proper_slot there) ∙ k.proper r.id)
    (subst (λ (ks : KeyTable). HasValuesOf ks (Some r.thread)) n.keys (subst (HasValuesOf s.keys) there (k.values r.id)))

-- WAITS AND HARTS

-- these waits and so many harts are a part of those of a state
record IsPart (s : State) (waits : List Wait) (harts : List (Option ℕ)) (count : ℕ) : Type 0 where
  fewer_waits : (p : Wait → Bool) → count_of p waits ≤ count_of p s.waits
  all_waits : (p : Wait → Bool) → list_all p s.waits ≡ true → list_all p waits ≡ true
  fewer_harts : (t : ℕ) → count_of (holds t) harts ≤ count_of (holds t) s.harts
  size : length harts ≡ 8
  few : count ≤ 8
  idle : (h : ℕ) → count ≤ h → option_flatten (slice_get harts h) ≡ None

-- with a part of the waits and of the harts a state is well-formed, too
well_formed_part : (s : State) (waits : List Wait) (harts : List (Option ℕ)) (count : ℕ) (keys : KeyTable) → s.keys ≡ keys → IsWellFormed s → IsPart s waits harts count → IsWellFormed (record { threads = s.threads; waits = waits; harts = harts; hart_count = count; keys = keys })
well_formed_part s waits harts count keys e h p = subst (λ (ks : KeyTable). IsWellFormed (record { threads = s.threads; waits = waits; harts = harts; hart_count = count; keys = ks })) e (record {
  size = h.size;
  zero = h.zero;
  harts = p.size;
  hart_count = p.few;
  idle = p.idle;
  proper = h.proper;
  one_initial = h.one_initial;
  placed = λ t. omega (arith, h.placed t, p.fewer_waits (is_of t), p.fewer_harts t);
  joined_target = λ t. omega (arith, h.joined_target t, p.fewer_waits (is_for (object.End t)));
  joined_by_another = p.all_waits joins_another h.joined_by_another;
  deadlines = p.all_waits has_proper_deadline h.deadlines;
  unwinding_waits = λ t. omega (arith, h.unwinding_waits t, p.fewer_waits (is_unwind_of t));
  proper_keys = h.proper_keys;
  values = h.values;
})

-- the beginning of a list

fewer_before : {X : Type 0} (p : X → Bool) (xs ys zs : List X) → zs ≡ xs ++ ys → count_of p xs ≤ count_of p zs
fewer_before p xs ys zs e = (let a = count_of-append p xs ys in let b = ap (count_of p) e in omega (arith, a, b))

all_before : {X : Type 0} (p : X → Bool) (xs ys zs : List X) → zs ≡ xs ++ ys → list_all p zs ≡ true → list_all p xs ≡ true
all_before p xs ys zs e h = (let a = list_all-append p xs ys in let b : list_all p (xs ++ ys) ≡ true = sym (ap (list_all p) e) ∙ h in grind (arith, nat_tests, a, b))

none_on : (hs : List (Option ℕ)) (t : ℕ) → ((h : ℕ) → option_flatten (slice_get hs h) ≡ None) → count_of (holds t) hs ≡ 0
none_on [] t n = refl
none_on (None ∷ hs) t n = (let r = none_on hs t (λ h. n (suc h)) in omega (arith, r))
none_on (Some u ∷ hs) t n = absurd (let z = n 0 in cc)

-- who is on a hart of some harts is there in others
fewer_on : (xs ys : List (Option ℕ)) (t : ℕ) → length xs ≡ length ys → ((i u : ℕ) → option_flatten (slice_get xs i) ≡ Some u → option_flatten (slice_get ys i) ≡ Some u) → count_of (holds t) xs ≤ count_of (holds t) ys
fewer_on [] ys t n k = omega arith
fewer_on (x ∷ xs) [] t n k = absurd (omega arith)
fewer_on (None ∷ xs) (y ∷ ys) t n k = (let r = fewer_on xs ys t (omega arith) (λ i u. k (suc i) u) in omega (arith, r))
fewer_on (Some u ∷ xs) (None ∷ ys) t n k = absurd (let z = k 0 u refl in cc)
fewer_on (Some u ∷ xs) (Some v ∷ ys) t n k =
    let r = fewer_on xs ys t (omega arith) (λ i u. k (suc i) u) in
    let same : Some v ≡ Some u = k 0 u refl in
    let here : holds t (Some v) ≡ holds t (Some u) = ap (holds t) same in
    grind (arith, nat_tests, r, here)

-- the threads of one state in another with the same rows
with_threads : (begun s : State) → IsWellFormed begun → IsWellFormed s → thread_rows s ≡ thread_rows begun → IsWellFormed (record s { threads = begun.threads })
with_threads begun s h k e = subst (λ ts. IsWellFormed (record { threads = ts; waits = s.waits; harts = s.harts; hart_count = s.hart_count; keys = s.keys })) (same_threads s begun k h e) k

pub next_wait : NextGoesOn HasNextWait GoesOnWithWait
next_wait w begun s h k n =
    let waits : List Wait = begun.waits ++ w ∷ [] in
    let split : s.waits ≡ waits ++ n.waits.0 = n.waits.1 ∙ sym (append_assoc begun.waits (w ∷ []) n.waits.0) in
    well_formed_part (record s { threads = begun.threads }) waits begun.harts begun.hart_count begun.keys n.keys (with_threads begun s h k n.threads)
    (record {
      fewer_waits = λ p. fewer_before p waits n.waits.0 s.waits split;
      all_waits = λ p. all_before p waits n.waits.0 s.waits split;
      fewer_harts = λ t. (let z = none_on begun.harts t n.idle in omega (arith, z));
      size = h.harts;
      few = h.hart_count;
      idle = h.idle;
    })

-- who is on a hart once one more is, is there in s
kept_on : (i t : ℕ) (begun s : State) → HasNextOnHart i t begun s → i < length begun.harts → (j u : ℕ) → option_flatten (slice_get (slice_set begun.harts i (Some t)) j) ≡ Some u → who_is_on s j ≡ Some u
kept_on i t begun s n l j u e =
    let there : cond (eqb i j) (Some t) (who_is_on begun j) ≡ Some u = sym (slot_at begun.harts i j (Some t) l) ∙ e in
    elim (eqb i j) as (λ b. eqb i j ≡ b → cond b (Some t) (who_is_on begun j) ≡ Some u → who_is_on s j ≡ Some u) [
      | true ↦ λ same f. sym (ap (who_is_on s) (eqb-true i j same)) ∙ (n.next ∙ f)
      | false ↦ λ other f. n.others j u f
    ] refl there

-- a hart with a thread is one of those that there are
hart_below : (s : State) (i t : ℕ) → IsWellFormed s → who_is_on s i ≡ Some t → i < s.hart_count
hart_below s i t k e =
    elim (nat_lt i s.hart_count) as (λ b. nat_lt i s.hart_count ≡ b → i < s.hart_count) [
      | true ↦ λ l. grind (arith, nat_tests, l)
      | false ↦ λ l. absurd (let idle = k.idle i (grind (arith, nat_tests, l)) in cc)
    ] refl

pub next_on_hart : (i : ℕ) → NextGoesOn (HasNextOnHart i) (GoesOnWithHart i)
next_on_hart i t begun s h k n =
    let size = h.harts in
    let few = h.hart_count in
    let count = n.hart_count in
    let below = hart_below s i t k n.next in
    let within : i < begun.hart_count = omega (arith, below, count) in
    let room : i < length begun.harts = omega (arith, size, few, within) in
    let harts : List (Option ℕ) = slice_set begun.harts i (Some t) in
    let same_size : length harts ≡ 8 = length-set begun.harts i (Some t) ∙ size in
    record {
      within = within;
      idle = n.idle;
      well_formed =
          well_formed_part (record s { threads = begun.threads }) begun.waits harts begun.hart_count begun.keys n.keys (with_threads begun s h k n.threads)
          (record {
            fewer_waits = λ p. (let e = ap (count_of p) n.waits in omega (arith, e));
            all_waits = λ p a. sym (ap (list_all p) n.waits) ∙ a;
            fewer_harts = λ q. fewer_on harts s.harts q (same_size ∙ sym k.harts) (kept_on i t begun s n room);
            size = same_size;
            few = few;
            idle = λ j l. idle_put begun.harts i j t (omega (arith, within, l)) (h.idle j l);
          });
    }
