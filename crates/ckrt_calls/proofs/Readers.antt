-- Input, and who waits for it.
use Rattle.std.proofs.Common.{◌≡◌, ℕ, ◌+◌, ◌≤◌, Bool, true, false, not, List, [], ◌∷◌, ◌++◌, length, drop, slice_get, Option, Some, None, ◌⊎◌, inl, inr, refl, sym, ap, ◌∙◌, arith, length-append}
use Rattle.std.specs.Prelude.{option_map}
use Rattle.std.specs.List.{list_all, find}
use Rattle.std.proofs.lemmas.Bool.Decides.{nat_tests}
use Rattle.ckrt_thread.specs.declared.records.Wait.{Wait}
use Rattle.ckrt_thread.specs.declared.records.Waiter.{Waiter}
use Rattle.ckrt_thread.specs.declared.records.Object.TheVariants as object
use Rattle.ckrt_thread.specs.Abi.{A0}
use Rattle.ckrt_thread.specs.Waits.{is_for}
use Rattle.ckrt_thread.specs.Granting.{queue_of}
use Rattle.ckrt_thread.specs.State as threads
use Rattle.ckrt_thread.specs.State.{State, first_waiter, first_unwaited, of_wait, of_waiter, set_word, woken, all_woken, is_live, is_live_thread, is_any_live, with_word}
use Rattle.ckrt_thread.proofs.Grants.{first_of_queue}
use Rattle.ckrt_thread.proofs.Waking.{kept_all_woken, waiter_is, taken_woken, none_unwaited}
use Rattle.ckrt_thread.proofs.Waking as waking
use Rattle.ckrt_thread.proofs.SlotLemmas.{kept_at, live_change}
use Rattle.ckrt_objects.proofs.Granting.{well_formed_woken}
use Rattle.ckrt_mutex.specs.WellFormed.{IsWellFormedWith}
use Rattle.ckrt_calls.specs.declared.table.Tables.{Tables}
use Rattle.ckrt_calls.specs.WellFormed.{INPUT_LIMIT, IsWellFormed, lies_ahead, lacks_input, may_be_read}
use Rattle.ckrt_calls.specs.Table.{Fed, feed, feed_first, input_taken, input_closed, END_OF_INPUT}
use Rattle.ckrt_calls.proofs.ThreadRows as rows
use Rattle.ckrt_calls.proofs.ThreadRows.{AllWaits, any_live_woken}
use Rattle.ckrt_calls.proofs.MutexRows.{wait_rule}
use Rattle.ckrt_calls.proofs.Queues as queues
use Rattle.ckrt_calls.proofs.Queues.{barriers_same, locks_same, all_woken_leave_none}
use Rattle.ckrt_calls.proofs.KeptConditions.{conditions_woken}
use Rattle.ckrt_cond.specs.WellFormed as conditions

-- FEEDING

pub feed_none : (bs : List ℕ) (z : State) → first_waiter object.Input z ≡ None → feed bs z ≡ record { input = bs; threads = z }
feed_none [] z e = refl
feed_none (b ∷ bs) z e = ap (λ o. feed_first (feed bs) o (b ∷ bs) b z) e

pub feed_some : (bs : List ℕ) (b : ℕ) (w : Wait) (z : State) → slice_get bs 0 ≡ Some b → first_waiter object.Input z ≡ Some w → feed bs z ≡ feed (drop 1 bs) (woken w.thread b z)
feed_some [] b w z e f = absurd (cc)
feed_some (c ∷ bs) b w z e f =
    let same : c ≡ b = cc in
    let rest : drop 1 (c ∷ bs) ≡ bs = grind (arith, nat_tests) in
    ap (λ o. feed_first (feed bs) o (c ∷ bs) c z) f ∙ rw (rest, same) refl

-- the same by who was taken out of the list
pub feed_nobody : (bs : List ℕ) (z : State) → None ≡ option_map of_wait (first_waiter object.Input z) → feed bs z ≡ record { input = bs; threads = first_unwaited object.Input z }
feed_nobody bs z e =
    let none = waking.no_first (first_waiter object.Input z) e in
    feed_none bs z none ∙ ap (λ y. record { input = bs; threads = y }) (sym (none_unwaited object.Input z none))

pub feed_taken : (bs : List ℕ) (b : ℕ) (x : Waiter) (z : State) → Some b ≡ slice_get bs 0 → Some (of_waiter x) ≡ option_map of_wait (first_waiter object.Input z)
    → feed (drop 1 bs) (set_word x.thread A0 b (first_unwaited object.Input z)) ≡ feed bs z
feed_taken bs b x z e f =
    let i = waiter_is (first_waiter object.Input z) x f in
    ap (feed (drop 1 bs)) (taken_woken object.Input b x z i) ∙ sym (feed_some bs b i.wait z (sym e) i.first)

-- what the end of a wait keeps, feeding keeps
module _ (P : State → Type 0) (ends : (t v : ℕ) (s : State) → P s → P (woken t v s)) where
  kept_first : (o : Option Wait) (bs bytes : List ℕ) (b : ℕ) (z : State) → ((y : State) → P y → P (feed bs y).threads) → P z → P (feed_first (feed bs) o bytes b z).threads
  kept_first None bs bytes b z more h = h
  kept_first (Some w) bs bytes b z more h = more (woken w.thread b z) (ends w.thread b z h)

  pub kept_feed : (bs : List ℕ) (z : State) → P z → P (feed bs z).threads
  kept_feed [] z h = h
  kept_feed (b ∷ bs) z h = kept_first (first_waiter object.Input z) bs (b ∷ bs) b z (λ y k. kept_feed bs y k) h

less_first : (o : Option Wait) (bs : List ℕ) (b : ℕ) (z : State) → ((y : State) → length (feed bs y).input ≤ length bs) → length (feed_first (feed bs) o (b ∷ bs) b z).input ≤ length (b ∷ bs)
less_first None bs b z more = omega arith
less_first (Some w) bs b z more = (let m = more (woken w.thread b z) in omega arith)

less_input : (bs : List ℕ) (z : State) → length (feed bs z).input ≤ length bs
less_input [] z = omega arith
less_input (b ∷ bs) z = less_first (first_waiter object.Input z) bs b z (λ y. less_input bs y)

abbrev IsFed : Fed → Type 0
IsFed f = (f.input ≡ []) ⊎ (first_waiter object.Input f.threads ≡ None)

fed_first : (o : Option Wait) (bs bytes : List ℕ) (b : ℕ) (z : State) → first_waiter object.Input z ≡ o → ((y : State) → IsFed (feed bs y)) → IsFed (feed_first (feed bs) o bytes b z)
fed_first None bs bytes b z e more = inr e
fed_first (Some w) bs bytes b z e more = more (woken w.thread b z)

-- either no byte is left or nobody waits for one
fed : (bs : List ℕ) (z : State) → IsFed (feed bs z)
fed [] z = inl refl
fed (b ∷ bs) z = fed_first (first_waiter object.Input z) bs (b ∷ bs) b z refl (λ y. fed bs y)

-- WHO WAITS FOR INPUT

-- nobody waits for input
abbrev NoReader : State → Type 0
NoReader z = AllWaits (λ w. not (is_for object.Input w)) z

no_first : (ws : List Wait) → find (is_for object.Input) ws ≡ None → list_all (λ w. not (is_for object.Input w)) ws ≡ true
no_first [] e = refl
no_first (w ∷ ws) e = grind (arith, nat_tests, no_first ws)

lacks_any : (input : List ℕ) (closed : Bool) (ws : List Wait) → list_all (λ w. not (is_for object.Input w)) ws ≡ true → list_all (lacks_input input closed) ws ≡ true
lacks_any input closed [] h = refl
lacks_any input closed (w ∷ ws) h = grind (arith, nat_tests, lacks_any input closed ws)

lacks_all : (ws : List Wait) → list_all (lacks_input [] false) ws ≡ true
lacks_all [] = refl
lacks_all (w ∷ ws) = grind (arith, nat_tests, lacks_all ws)

lacks_none : (input : List ℕ) (closed : Bool) (ws : List Wait) → may_be_read input closed ≡ true → list_all (lacks_input input closed) ws ≡ true → list_all (λ w. not (is_for object.Input w)) ws ≡ true
lacks_none input closed [] m h = refl
lacks_none input closed (w ∷ ws) m h = grind (arith, nat_tests, lacks_none input closed ws m)

closed_readable : (input : List ℕ) → may_be_read input true ≡ true
closed_readable [] = refl
closed_readable (b ∷ bs) = refl

all_woken_waits : (f : Wait → Bool) (t v : ℕ) (z : State) → AllWaits f z → AllWaits f (woken t v z)
all_woken_waits f t v z h = rows.all_woken f t v z h

readers_fed : (f : Fed) → IsFed f → AllWaits (lacks_input f.input false) f.threads
readers_fed f (inl e) = rw e (lacks_all f.threads.waits)
readers_fed f (inr e) = lacks_any f.input false f.threads.waits (no_first f.threads.waits e)

-- after feeding, who waits for input has none to read
readers_after : (closed : Bool) (input bs : List ℕ) (z : State) → AllWaits (lacks_input input closed) z → AllWaits (lacks_input (feed bs z).input closed) (feed bs z).threads
readers_after false input bs z h = readers_fed (feed bs z) (fed bs z)
readers_after true input bs z h =
    lacks_any (feed bs z).input true (feed bs z).threads.waits
    (kept_feed NoReader (λ t v y k. rows.all_woken (λ w. not (is_for object.Input w)) t v y k) bs z (lacks_none input true z.waits (closed_readable input) h))

-- WHAT A WAIT'S END KEEPS

pub live_woken : (u t v : ℕ) (z : State) → is_live z u ≡ true → is_live (woken t v z) u ≡ true
live_woken u t v z h = kept_at is_live_thread (with_word A0 v) z.threads t u (live_change (with_word A0 v)) ∙ h

pub joined_woken : (s : Tables) (t v : ℕ) (z : State) → IsWellFormedWith z s.mutexes → IsWellFormedWith (woken t v z) s.mutexes
joined_woken s t v z h = (let rule = wait_rule s.mutexes in rule.unwaited t z (woken t v z) refl h)

-- bytes of input came
pub well_formed_input : (bytes : List ℕ) (s : Tables) → length s.input + length bytes ≤ INPUT_LIMIT → IsWellFormed s → IsWellFormed (input_taken bytes s)
well_formed_input bytes s n h = record {
  threads = kept_feed threads.IsWellFormed well_formed_woken (s.input ++ bytes) s.threads h.threads;
  mutexes = kept_feed (λ y. IsWellFormedWith y s.mutexes) (joined_woken s) (s.input ++ bytes) s.threads h.mutexes;
  conditions = kept_feed conditions.IsWellFormed conditions_woken (s.input ++ bytes) s.threads h.conditions;
  barriers = barriers_same s.threads (feed (s.input ++ bytes) s.threads).threads s.barriers (λ o p. queues.fed o p (s.input ++ bytes) s.threads h.threads) h.barriers;
  rwlocks = locks_same s.threads (feed (s.input ++ bytes) s.threads).threads s.rwlocks (λ o p. queues.fed o p (s.input ++ bytes) s.threads h.threads) h.rwlocks;
  running = λ e. kept_feed (λ y. is_any_live y ≡ true) any_live_woken (s.input ++ bytes) s.threads (h.running e);
  deadlines = λ e. kept_feed (AllWaits (lies_ahead s.clock)) (rows.all_woken (lies_ahead s.clock)) (s.input ++ bytes) s.threads (h.deadlines e);
  readers = readers_after s.closed s.input (s.input ++ bytes) s.threads h.readers;
  clock = h.clock;
  input = (let l = less_input (s.input ++ bytes) s.threads in let m = length-append s.input bytes in omega arith);
  fault = λ u pc c e. kept_feed (λ y. is_live y u ≡ true) (live_woken u) (s.input ++ bytes) s.threads (h.fault u pc c e);
  fault_pc = h.fault_pc;
}

-- THE END OF INPUT

-- where nobody is in the queue nobody waits for input
none_in_queue : (z : State) → queue_of object.Input z ≡ [] → first_waiter object.Input z ≡ None
none_in_queue z e = first_of_queue object.Input z ∙ ap (λ q. slice_get q 0) e

pub well_formed_closed : (s : Tables) → IsWellFormed s → IsWellFormed (input_closed s)
well_formed_closed s h =
    let q = queue_of object.Input s.threads in
    let z = all_woken END_OF_INPUT q s.threads in
    record {
      threads = kept_all_woken threads.IsWellFormed well_formed_woken END_OF_INPUT q s.threads h.threads;
      mutexes = kept_all_woken (λ y. IsWellFormedWith y s.mutexes) (joined_woken s) END_OF_INPUT q s.threads h.mutexes;
      conditions = kept_all_woken conditions.IsWellFormed conditions_woken END_OF_INPUT q s.threads h.conditions;
      barriers = barriers_same s.threads z s.barriers (λ o p. queues.readers_woken o p END_OF_INPUT s.threads h.threads) h.barriers;
      rwlocks = locks_same s.threads z s.rwlocks (λ o p. queues.readers_woken o p END_OF_INPUT s.threads h.threads) h.rwlocks;
      running = λ e. kept_all_woken (λ y. is_any_live y ≡ true) any_live_woken END_OF_INPUT q s.threads (h.running e);
      deadlines = λ e. kept_all_woken (AllWaits (lies_ahead s.clock)) (rows.all_woken (lies_ahead s.clock)) END_OF_INPUT q s.threads (h.deadlines e);
      readers = lacks_any s.input true z.waits (no_first z.waits (none_in_queue z (all_woken_leave_none object.Input END_OF_INPUT s.threads h.threads)));
      clock = h.clock;
      input = h.input;
      fault = λ u pc c e. kept_all_woken (λ y. is_live y u ≡ true) (live_woken u) END_OF_INPUT q s.threads (h.fault u pc c e);
      fault_pc = h.fault_pc;
    }
