-- The queues of the list of waits, while a wait comes and goes.
use Rattle.std.proofs.Common.{◌≡◌, ℕ, ◌+◌, ◌≤◌, ◌<◌, Bool, true, false, cond, eqb, eqb-true, nat_eq, ◌||◌, List, [], ◌∷◌, ◌++◌, length, Option, Some, None, refl, sym, ap, subst, ◌∙◌, arith}
use Rattle.std.specs.List.{find, filter, list_any}
use Rattle.std.proofs.lemmas.Bool.Decides.{nat_tests}
use Rattle.std.proofs.lemmas.List.{length-append}
use Rattle.std.proofs.lemmas.List.Elements.{filter-append}
use Rattle.ckrt_thread.specs.declared.records.Wait.{Wait}
use Rattle.ckrt_thread.specs.declared.records.Reason.{Reason}
use Rattle.ckrt_thread.specs.declared.records.Reason.TheVariants as reason
use Rattle.ckrt_thread.specs.declared.records.Object.{Object}
use Rattle.ckrt_thread.specs.declared.records.Object.TheVariants as object
use Rattle.ckrt_thread.specs.declared.links.Links.{Links}
use Rattle.ckrt_thread.specs.declared.links.Ends.{Ends}
use Rattle.ckrt_thread.specs.declared.queues.Queues.{Queues}
use Rattle.ckrt_thread.specs.Waits.{is_for, is_of, is_reason_for, without}
use Rattle.ckrt_thread.specs.State.{count_of}
use Rattle.ckrt_thread.specs.Links.{dropped, IsChain, AreApart, KeepsOthers}
use Rattle.ckrt_thread.specs.Queues.{object_of, is_same, has_object, ids, queued, no_ends, ends_of, total, IsDirectory, IsWithEnds, AreQueues, WaitOnce}
use Rattle.ckrt_thread.proofs.Counting.{count_of-append, none_of_count}
use Rattle.ckrt_thread.proofs.Paths.{length-dropped}
use Rattle.ckrt_thread.proofs.Directory.{same_self, same_equal, same_as, length_total}

-- WHICH WAITS ARE IN A QUEUE

abbrev pub is_same_option : Object → Option Object → Bool
is_same_option o None = false
is_same_option o (Some p) = is_same o p

for_reason : (o : Object) (r : Reason) → is_reason_for o r ≡ is_same_option o (object_of r)
unfolding is_same
for_reason object.Input reason.Input = refl
for_reason (object.End t) (reason.Join u) = refl
for_reason (object.Mutex a) (reason.Lock m) = refl
for_reason (object.Mutex a) (reason.Retake m v) = refl
for_reason (object.Condition a) (reason.Condition c m) = refl
for_reason (object.Barrier a) (reason.Barrier b) = refl
for_reason (object.RwLock a) (reason.Read l) = refl
for_reason (object.RwLock a) (reason.Write l) = refl
for_reason _ _ = refl

pub waits_for : (o : Object) (w : Wait) (a : Option Object) → object_of w.reason ≡ a → is_for o w ≡ is_same_option o a
waits_for o w a e = for_reason o w.reason ∙ ap (is_same_option o) e

-- who waits for one object waits for no other
one_object : (o p : Object) (a : Option Object) → is_same p o ≡ false → is_same_option o a ≡ true → is_same_option p a ≡ false
one_object o p None n m = absurd (cc)
one_object o p (Some q) n m = same_as p o q m ∙ n

other_queue : (o p : Object) (w : Wait) → is_same p o ≡ false → is_for o w ≡ true → is_for p w ≡ false
other_queue o p w n m = for_reason p w.reason ∙ one_object o p (object_of w.reason) n (sym (for_reason o w.reason) ∙ m)

-- THREADS IN A QUEUE

pub ids_any : (q : ℕ) (ws : List Wait) → list_any (nat_eq q) (ids ws) ≡ list_any (is_of q) ws
ids_any q [] = refl
ids_any q (w ∷ ws) = ap (λ b. nat_eq q w.thread || b) (ids_any q ws)

-- who doesn't wait is in no queue
pub not_queued : (o : Object) (x : ℕ) (ws : List Wait) → list_any (nat_eq x) (ids ws) ≡ false → list_any (nat_eq x) (queued o ws) ≡ false
not_queued o x [] n = refl
not_queued o x (w ∷ ws) n = grind (arith, nat_tests, not_queued o x ws)

tail_once : (w : Wait) (ws : List Wait) → WaitOnce (w ∷ ws) → WaitOnce ws
tail_once w ws h t = grind (arith, nat_tests, h t)

head_once : (w : Wait) (ws : List Wait) → WaitOnce (w ∷ ws) → list_any (nat_eq w.thread) (ids ws) ≡ false
head_once w ws h = ids_any w.thread ws ∙ none_of_count (is_of w.thread) ws (grind (arith, nat_tests, h w.thread))

-- nobody is in two queues
apart_step : (o p : Object) (x : ℕ) (w : Wait) (ws : List Wait) → is_same p o ≡ false → list_any (nat_eq w.thread) (ids ws) ≡ false
    → (list_any (nat_eq x) (queued o ws) ≡ true → list_any (nat_eq x) (queued p ws) ≡ false) → list_any (nat_eq x) (queued o (w ∷ ws)) ≡ true → list_any (nat_eq x) (queued p (w ∷ ws)) ≡ false
apart_step o p x w ws n h i m =
    let a : is_for o w ≡ true → is_for p w ≡ false = other_queue o p w n in
    let none : eqb x w.thread ≡ true → list_any (nat_eq x) (ids ws) ≡ false = λ e. ap (λ q. list_any (nat_eq q) (ids ws)) (eqb-true x w.thread e) ∙ h in
    let not_o : list_any (nat_eq x) (ids ws) ≡ false → list_any (nat_eq x) (queued o ws) ≡ false = not_queued o x ws in
    let not_p : list_any (nat_eq x) (ids ws) ≡ false → list_any (nat_eq x) (queued p ws) ≡ false = not_queued p x ws in
    grind (arith, nat_tests, a, none, not_o, not_p, i, m)

pub queues_apart : (o p : Object) (ws : List Wait) → WaitOnce ws → is_same p o ≡ false → AreApart (queued o ws) (queued p ws)
queues_apart o p [] h n x m = absurd (cc)
queues_apart o p (w ∷ ws) h n x m = apart_step o p x w ws n (head_once w ws h) (queues_apart o p ws (tail_once w ws h) n x) m

-- A WAIT COMES

pub ids_append : (ws vs : List Wait) → ids (ws ++ vs) ≡ ids ws ++ ids vs
ids_append [] vs = refl
ids_append (w ∷ ws) vs = ap (λ xs. w.thread ∷ xs) (ids_append ws vs)

queued_append : (o : Object) (ws : List Wait) (w : Wait) → queued o (ws ++ w ∷ []) ≡ queued o ws ++ queued o (w ∷ [])
queued_append o ws w = ap ids (filter-append (is_for o) ws (w ∷ [])) ∙ ids_append (filter (is_for o) ws) (filter (is_for o) (w ∷ []))

append_none : (xs : List ℕ) → xs ++ [] ≡ xs
append_none [] = refl
append_none (x ∷ xs) = ap (λ ys. x ∷ ys) (append_none xs)

pub queued_more : (o : Object) (ws : List Wait) (w : Wait) → is_for o w ≡ true → queued o (ws ++ w ∷ []) ≡ queued o ws ++ w.thread ∷ []
queued_more o ws w e = queued_append o ws w ∙ ap (λ xs. queued o ws ++ xs) (grind (arith, nat_tests, e))

pub queued_no_more : (o : Object) (ws : List Wait) (w : Wait) → is_for o w ≡ false → queued o (ws ++ w ∷ []) ≡ queued o ws
queued_no_more o ws w e = queued_append o ws w ∙ (ap (λ xs. queued o ws ++ xs) (grind (arith, nat_tests, e)) ∙ append_none (queued o ws))

count_some : (w : Wait) (o : Object) (ws : List Wait) → object_of w.reason ≡ Some o → count_of has_object (ws ++ w ∷ []) ≡ count_of has_object ws + 1
count_some w o ws e = (let c = count_of-append has_object ws (w ∷ []) in grind (arith, nat_tests, c, e))

count_none : (w : Wait) (ws : List Wait) → object_of w.reason ≡ None → count_of has_object (ws ++ w ∷ []) ≡ count_of has_object ws
count_none w ws e = (let c = count_of-append has_object ws (w ∷ []) in grind (arith, nat_tests, c, e))

-- a wait for no object leaves each queue as it is
pub pushed_none : (q : Queues) (ws : List Wait) (w : Wait) → object_of w.reason ≡ None → AreQueues q ws → AreQueues q (ws ++ w ∷ [])
pushed_none q ws w e h = record {
  directory = h.directory;
  total = h.total ∙ sym (count_none w ws e);
  chains = λ o. subst (IsChain q.links (ends_of o q.directory.items)) (sym (queued_no_more o ws w (waits_for o w None e))) (h.chains o);
}

-- the queues after one of them was changed
chosen : (b : Bool) (e f g : Ends) (links : Links) (xs : List ℕ) → g ≡ cond b e f → (b ≡ true → IsChain links e xs) → (b ≡ false → IsChain links f xs) → IsChain links g xs
chosen true e f g links xs k y n = subst (λ x. IsChain links x xs) (sym k) (y refl)
chosen false e f g links xs k y n = subst (λ x. IsChain links x xs) (sym k) (n refl)

pushed_other : (o p : Object) (ws : List Wait) (w : Wait) → WaitOnce ws → list_any (nat_eq w.thread) (ids ws) ≡ false → is_same p o ≡ false → AreApart (w.thread ∷ queued o ws) (queued p ws)
pushed_other o p ws w once free n x m =
    let here : eqb x w.thread ≡ true → list_any (nat_eq x) (queued p ws) ≡ false = λ e. not_queued p x ws (ap (λ q. list_any (nat_eq q) (ids ws)) (eqb-true x w.thread e) ∙ free) in
    let there : list_any (nat_eq x) (queued o ws) ≡ true → list_any (nat_eq x) (queued p ws) ≡ false = queues_apart o p ws once n x in
    grind (arith, nat_tests, here, there, m)

pub pushed_queues : (o : Object) (ws : List Wait) (w : Wait) (old new : Queues) (e : Ends) → object_of w.reason ≡ Some o → WaitOnce ws → list_any (nat_eq w.thread) (ids ws) ≡ false → AreQueues old ws
    → IsChain new.links e (queued o ws ++ w.thread ∷ []) → KeepsOthers (w.thread ∷ queued o ws) old.links new.links
    → IsDirectory new.directory.items → IsWithEnds o e old.directory.items new.directory.items → total new.directory.items + (ends_of o old.directory.items).count ≡ total old.directory.items + e.count
    → AreQueues new (ws ++ w ∷ [])
pushed_queues o ws w old new e k once free h chain others directory ends sum = record {
  directory = directory;
  total = (
      let a = chain.count in
      let b = (h.chains o).count in
      let l = length-append (queued o ws) (w.thread ∷ []) in
      let c = count_some w o ws k in
      let t = h.total in
      omega (arith, a, b, l, c, t, sum));
  chains = λ p. chosen (is_same p o) e (ends_of p old.directory.items) (ends_of p new.directory.items) new.links (queued p (ws ++ w ∷ [])) (ends p)
      (λ s. subst (λ x. IsChain new.links e (queued x (ws ++ w ∷ []))) (sym (same_equal p o s)) (subst (IsChain new.links e) (sym (queued_more o ws w (waits_for o w (Some o) k ∙ same_self o))) chain))
      (λ n. subst (IsChain new.links (ends_of p old.directory.items)) (sym (queued_no_more p ws w (waits_for p w (Some o) k ∙ n))) (others (ends_of p old.directory.items) (queued p ws) (pushed_other o p ws w once free n) (h.chains p)));
}

-- A WAIT GOES

find_head : (t : ℕ) (v w : Wait) (ws : List Wait) → find (is_of t) (v ∷ ws) ≡ Some w → is_of t v ≡ true → v ≡ w
find_head t v w ws e m = grind (arith, nat_tests, e, m)

find_tail : (t : ℕ) (v w : Wait) (ws : List Wait) → find (is_of t) (v ∷ ws) ≡ Some w → is_of t v ≡ false → find (is_of t) ws ≡ Some w
find_tail t v w ws e m = grind (arith, nat_tests, e, m)

pub queued_out : (o : Object) (t : ℕ) (w : Wait) (ws : List Wait) → find (is_of t) ws ≡ Some w → is_for o w ≡ true → queued o (without t ws) ≡ dropped t (queued o ws)
queued_out o t w [] e m = absurd (cc)
queued_out o t w (v ∷ ws) e m =
    let first : is_of t v ≡ true → is_for o v ≡ true = λ k. rw (find_head t v w ws e k) m in
    let rest : is_of t v ≡ false → queued o (without t ws) ≡ dropped t (queued o ws) = λ k. queued_out o t w ws (find_tail t v w ws e k) m in
    grind (arith, nat_tests, first, rest)

pub queued_same : (o : Object) (t : ℕ) (w : Wait) (ws : List Wait) → find (is_of t) ws ≡ Some w → is_for o w ≡ false → queued o (without t ws) ≡ queued o ws
queued_same o t w [] e m = absurd (cc)
queued_same o t w (v ∷ ws) e m =
    let first : is_of t v ≡ true → is_for o v ≡ false = λ k. rw (find_head t v w ws e k) m in
    let rest : is_of t v ≡ false → queued o (without t ws) ≡ queued o ws = λ k. queued_same o t w ws (find_tail t v w ws e k) m in
    grind (arith, nat_tests, first, rest)

pub queued_there : (o : Object) (t : ℕ) (w : Wait) (ws : List Wait) → find (is_of t) ws ≡ Some w → is_for o w ≡ true → list_any (nat_eq t) (queued o ws) ≡ true
queued_there o t w [] e m = absurd (cc)
queued_there o t w (v ∷ ws) e m =
    let first : is_of t v ≡ true → is_for o v ≡ true = λ k. rw (find_head t v w ws e k) m in
    let rest : is_of t v ≡ false → list_any (nat_eq t) (queued o ws) ≡ true = λ k. queued_there o t w ws (find_tail t v w ws e k) m in
    grind (arith, nat_tests, first, rest)

count_out : (t : ℕ) (w : Wait) (o : Object) (ws : List Wait) → find (is_of t) ws ≡ Some w → object_of w.reason ≡ Some o → count_of has_object (without t ws) + 1 ≡ count_of has_object ws
count_out t w o [] e m = absurd (cc)
count_out t w o (v ∷ ws) e m =
    let first : is_of t v ≡ true → object_of v.reason ≡ Some o = λ k. rw (find_head t v w ws e k) m in
    let rest : is_of t v ≡ false → count_of has_object (without t ws) + 1 ≡ count_of has_object ws = λ k. count_out t w o ws (find_tail t v w ws e k) m in
    grind (arith, nat_tests, first, rest)

count_same : (t : ℕ) (w : Wait) (ws : List Wait) → find (is_of t) ws ≡ Some w → object_of w.reason ≡ None → count_of has_object (without t ws) ≡ count_of has_object ws
count_same t w [] e m = absurd (cc)
count_same t w (v ∷ ws) e m =
    let first : is_of t v ≡ true → object_of v.reason ≡ None = λ k. rw (find_head t v w ws e k) m in
    let rest : is_of t v ≡ false → count_of has_object (without t ws) ≡ count_of has_object ws = λ k. count_same t w ws (find_tail t v w ws e k) m in
    grind (arith, nat_tests, first, rest)

pub taken_none : (q : Queues) (ws : List Wait) (t : ℕ) (w : Wait) → find (is_of t) ws ≡ Some w → object_of w.reason ≡ None → AreQueues q ws → AreQueues q (without t ws)
taken_none q ws t w f e h = record {
  directory = h.directory;
  total = h.total ∙ sym (count_same t w ws f e);
  chains = λ o. subst (IsChain q.links (ends_of o q.directory.items)) (sym (queued_same o t w ws f (waits_for o w None e))) (h.chains o);
}

pub taken_queues : (o : Object) (ws : List Wait) (t : ℕ) (w : Wait) (old new : Queues) (e : Ends) → find (is_of t) ws ≡ Some w → object_of w.reason ≡ Some o → WaitOnce ws → AreQueues old ws
    → IsChain new.links e (dropped t (queued o ws)) → KeepsOthers (queued o ws) old.links new.links
    → IsDirectory new.directory.items → IsWithEnds o e old.directory.items new.directory.items → total new.directory.items + (ends_of o old.directory.items).count ≡ total old.directory.items + e.count
    → AreQueues new (without t ws)
taken_queues o ws t w old new e f k once h chain others directory ends sum = record {
  directory = directory;
  total = (
      let a = chain.count in
      let b = (h.chains o).count in
      let l = length-dropped t (queued o ws) (queued_there o t w ws f (waits_for o w (Some o) k ∙ same_self o)) in
      let c = count_out t w o ws f k in
      let s = h.total in
      omega (arith, a, b, l, c, s, sum));
  chains = λ p. chosen (is_same p o) e (ends_of p old.directory.items) (ends_of p new.directory.items) new.links (queued p (without t ws)) (ends p)
      (λ s. subst (λ x. IsChain new.links e (queued x (without t ws))) (sym (same_equal p o s)) (subst (IsChain new.links e) (sym (queued_out o t w ws f (waits_for o w (Some o) k ∙ same_self o))) chain))
      (λ n. subst (IsChain new.links (ends_of p old.directory.items)) (sym (queued_same p t w ws f (waits_for p w (Some o) k ∙ n))) (others (ends_of p old.directory.items) (queued p ws) (queues_apart o p ws once n) (h.chains p)));
}

-- ROOM AND ENDS

few_objects : (ws : List Wait) → count_of has_object ws ≤ length ws
few_objects [] = omega arith
few_objects (w ∷ ws) = grind (arith, nat_tests, few_objects ws)

pub directory_room : (q : Queues) (ws : List Wait) → AreQueues q ws → length ws < 64 → length q.directory.items < 64
directory_room q ws h l =
    let a = length_total q.directory.items h.directory in
    let b = h.total in
    let c = few_objects ws in
    omega (arith, a, b, c, l)

no_ends_by : (f l c : ℕ) → f ≡ 0 → l ≡ 0 → c ≡ 0 → (record { first = f; last = l; count = c }) ≡ no_ends
no_ends_by f l c a b d = rw (a, b, d) refl

pub ends_none : (links : Links) (e : Ends) (xs : List ℕ) → IsChain links e xs → e.count ≡ 0 → e ≡ no_ends
ends_none links e [] h c = no_ends_by e.first e.last e.count h.forth (sym h.back) c
ends_none links e (x ∷ xs) h c = absurd (let k = h.count in omega (arith, k, c))

-- who is for the object of its own reason
pub for_own : (o : Object) (w : Wait) → object_of w.reason ≡ Some o → is_for o w ≡ true
for_own o w k = waits_for o w (Some o) k ∙ same_self o

pub forgotten_total : (a b c : ℕ) → a + b ≡ c → a + b ≡ c + 0
forgotten_total a b c h = omega (arith, h)
