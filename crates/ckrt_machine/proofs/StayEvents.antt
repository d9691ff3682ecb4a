-- A ready thread stays ready after each event but one that puts it onto a hart. A thread on a hart stays there after each event but one of that
-- hart, or one that puts it onto another.
use Rattle.std.proofs.Common.{◌≡◌, ◌==◌, ◌+◌, ◌<◌, ℕ, zero, suc, Bool, true, false, not, ◌&&◌, ◌||◌, cond, eqb, List, [], ◌∷◌, ◌++◌, length, Option, Some, None, is_some, refl, ◌≤◌, IfSome, ap, ◌∙◌, subst, arith, slice_get, slice_set}
use Rattle.std.specs.List.{list_any}
use Rattle.std.specs.Option.{option_flatten}
use Rattle.std.proofs.lemmas.Bool.Decides.{nat_tests}
use Rattle.ckrt_registers.specs.Registers.{Registers, get}
use Rattle.ckrt_rv32i.specs.Effect.{instruction_step}
use Rattle.ckrt_rv32i.specs.declared.execution.Outcome.{Outcome}
use Rattle.ckrt_rv32i.specs.declared.execution.Outcome.TheVariants as outcome
use Rattle.ckrt_thread.specs.declared.records.CallResult.{CallResult}
use Rattle.ckrt_thread.specs.declared.records.CallResult.TheVariants as result
use Rattle.ckrt_thread.specs.declared.records.Thread.{Thread}
use Rattle.ckrt_thread.specs.declared.records.Thread.TheVariants as thread
use Rattle.ckrt_thread.specs.declared.records.Live.{Live}
use Rattle.ckrt_thread.specs.declared.records.Wait.{Wait}
use Rattle.ckrt_thread.specs.declared.records.Reason.{Reason}
use Rattle.ckrt_thread.specs.declared.records.Reason.TheVariants as reason
use Rattle.ckrt_thread.specs.declared.records.RetakeResult.TheVariants as retake
use Rattle.ckrt_thread.specs.declared.records.Object.TheVariants as object
use Rattle.ckrt_thread.specs.Abi.{A0, RETURN_GATE, UNWIND_GATE}
use Rattle.ckrt_thread.specs.Deadlines.{due_waits}
use Rattle.ckrt_thread.specs.Granting.{queue_of}
use Rattle.ckrt_thread.specs.State as threads
use Rattle.ckrt_thread.specs.Waits.{is_of}
use Rattle.ckrt_thread.proofs.SlotLemmas.{cond_of, slot_at}
use Rattle.ckrt_calls.specs.declared.table.Tables.{Tables}
use Rattle.ckrt_calls.specs.Table as calls
use Rattle.ckrt_events.specs.declared.event.Event.{Event}
use Rattle.ckrt_events.specs.declared.event.Event.TheVariants.{Place, Run, Input, Eof, Tick, RunLong}
use Rattle.ckrt_machine.specs.declared.event.RunEnd.{RunEnd}
use Rattle.ckrt_machine.specs.Events.{step}
use Rattle.ckrt_machine.specs.Runs.{Ran, run_on, stopped}
use Rattle.ckrt_machine.specs.Steps.{State, Stepped, acted, hart_of, hart_step, handled, performed, returned, slot_step, step_of, thread_step, with_regs, with_result}
use Rattle.ckrt_thread.proofs.Counting.{none_of_count}
use Rattle.ckrt_thread.proofs.HartLemmas.{held_at}
use Rattle.ckrt_thread.proofs.Known.{if_on_hart}
use Rattle.ckrt_machine.specs.Stays.{IsOnHart, StayOnHart, StayReady, is_of_hart, is_placing}
use Rattle.ckrt_machine.proofs.StayLists.{neither, none_at, none_due, none_there}
use Rattle.ckrt_machine.proofs.StayCalls.{Stands, acts, all_woken, called_with, changed, is_at, next_handler, placed, resumed, split, unwinds, woken}

-- the event puts a thread onto this hart, or runs the one that is there
abbrev of_hart : Option ℕ → Event → Bool
of_hart hart (Place h u) = is_at hart h
of_hart hart (Run h n) = is_at hart h
of_hart hart (RunLong h n) = is_at hart h
of_hart hart _ = false

-- STEPS of another thread

module _ (q : ℕ) (hart : Option ℕ) (size : ℕ) where
  module _ (t : ℕ) (other : (q == t) ≡ false) where
    with_result_of : (v : CallResult) (s : Tables) → Stands q hart size s.threads → Stands q hart size (with_result v t s).threads
    with_result_of (result.Done v) s r = changed q hart size _ t s.threads r
    with_result_of result.Blocked s r = r
    with_result_of result.Moved s r = r

    performs : (o : Outcome) (x : Registers) (m : List ℕ) (s : State) → Stands q hart size s.tables.threads → Stands q hart size (performed o t x m s).state.tables.threads
    performs outcome.Next x m s r = changed q hart size _ t s.tables.threads r
    performs outcome.Call x m s r =
        let z = with_regs t x s.tables in
        with_result_of (calls.called t z).result (calls.called t z).tables
        (called_with q hart size t other (threads.regs_of (threads.thread_of z.threads t)) z (changed q hart size _ t s.tables.threads r))
    performs (outcome.Fault c) x m s r = r

    returns : (b : Bool) (v : ℕ) (s : State) → Stands q hart size s.tables.threads → Stands q hart size (returned b v t s).state.tables.threads
    returns true v s r = r
    returns false v s r = unwinds q hart size t v s.tables.threads other r

    gates : (b : Bool) (pc : ℕ) (s : State) → Stands q hart size s.tables.threads → Stands q hart size (handled b pc t s).state.tables.threads
    gates true pc s r = next_handler q hart size t other s.tables.threads r
    gates false pc s r = r

    abbrev of_step : Stepped → threads.State
    of_step e = e.state.tables.threads

    steps : (l : Live) (s : State) → Stands q hart size s.tables.threads → Stands q hart size (thread_step l t s).state.tables.threads
    steps l s r =
        let after = instruction_step l.regs s.bytes in
        let does = performed after.outcome t after.registers after.bytes s in
        let gate = handled (is_some l.cancellation.unwinding) l.regs.pc t s in
        let ends = returned l.initial (get l.regs A0) t s in
        split q hart size of_step _ (acted t s) (cond (l.regs.pc == RETURN_GATE) ends (cond (l.regs.pc == UNWIND_GATE) gate does)) (acts q hart size t s.tables.threads other r)
        (split q hart size of_step _ ends (cond (l.regs.pc == UNWIND_GATE) gate does) (returns l.initial (get l.regs A0) s r)
        (split q hart size of_step _ gate does (gates (is_some l.cancellation.unwinding) l.regs.pc s r) (performs after.outcome after.registers after.bytes s r)))

    slot_steps : (o : Option Thread) (s : State) → Stands q hart size s.tables.threads → Stands q hart size (slot_step o t s).state.tables.threads
    slot_steps None s r = r
    slot_steps (Some (thread.Ended v)) s r = r
    slot_steps (Some (thread.Live l)) s r = steps l s r

  -- RUNS of another hart

  step_by : (o : Option ℕ) (s : State) → threads.holds q o ≡ false → Stands q hart size s.tables.threads → Stands q hart size (step_of o s).state.tables.threads
  step_by None s n r = r
  step_by (Some t) s n r = slot_steps t n (threads.thread_of s.tables.threads t) s r

  module _ (h : ℕ) (away : is_at hart h ≡ false) where
    stops : (more : ℕ → State → List ℕ → Ran) → ((s : State) (out : List ℕ) → Stands q hart size s.tables.threads → Stands q hart size (more h s out).state.tables.threads)
        → (w : Option RunEnd) (n : ℕ) (s : State) (out : List ℕ) → Stands q hart size s.tables.threads → Stands q hart size (stopped more w n h s out).state.tables.threads
    stops more stay None n s out r = stay s out r
    stops more stay (Some w) n s out r = r

    runs : (n : ℕ) (s : State) (out : List ℕ) → Stands q hart size s.tables.threads → Stands q hart size (run_on n h s out).state.tables.threads
    runs zero s out r = r
    runs (suc n) s out r =
        stops (run_on n) (runs n) _ n (hart_step h s).state _ (step_by (hart_of s.tables h) s (r.harts h ∙ away) r)

  -- INPUT AND TIME

  feeds_first : (more : threads.State → calls.Fed) → ((z : threads.State) → Stands q hart size z → Stands q hart size (more z).threads) → (w : Option Wait) (bytes : List ℕ) (b : ℕ) (z : threads.State)
      → Stands q hart size z → Stands q hart size (calls.feed_first more w bytes b z).threads
  feeds_first more stay None bytes b z r = r
  feeds_first more stay (Some w) bytes b z r = stay (threads.woken w.thread b z) (woken q hart size w.thread b z r)

  feeds : (bytes : List ℕ) (z : threads.State) → Stands q hart size z → Stands q hart size (calls.feed bytes z).threads
  feeds [] z r = r
  feeds (b ∷ bs) z r = feeds_first (calls.feed bs) (feeds bs) _ (b ∷ bs) b z r

  times_out : (why : Reason) (t : ℕ) (s : Tables) → (q == t) ≡ false → Stands q hart size s.threads → Stands q hart size (calls.timed_out why t s).threads
  times_out (reason.Condition c a) t s n r = resumed q hart size t a retake.TimedOut s.threads s.mutexes n r
  times_out (reason.Join j) t s n r = woken q hart size t _ s.threads r
  times_out (reason.Lock a) t s n r = woken q hart size t _ s.threads r
  times_out (reason.Retake a how) t s n r = woken q hart size t _ s.threads r
  times_out (reason.Barrier b) t s n r = woken q hart size t _ s.threads r
  times_out (reason.Read l) t s n r = woken q hart size t _ s.threads r
  times_out (reason.Write l) t s n r = woken q hart size t _ s.threads r
  times_out reason.Input t s n r = woken q hart size t _ s.threads r
  times_out reason.Sleep t s n r = woken q hart size t _ s.threads r

  all_time_out : (ws : List Wait) (s : Tables) → list_any (is_of q) ws ≡ false → Stands q hart size s.threads → Stands q hart size (calls.all_timed_out ws s).threads
  all_time_out [] s e r = r
  all_time_out (w ∷ ws) s e r =
      let k = neither (is_of q w) (list_any (is_of q) ws) e in
      all_time_out ws (calls.timed_out w.reason w.thread s) k.1 (times_out w.reason w.thread s k.0 r)

  -- EVENTS that don't speak of its hart, and don't put it onto one

  stays : (e : Event) (s : State) → of_hart hart e ≡ false → is_placing q e ≡ false → Stands q hart size s.tables.threads → Stands q hart size (step e s).state.tables.threads
  stays (Place h t) s away n r = placed q hart size h t s.tables.threads n away r
  stays (Run h n) s away i r = runs h away n s [] r
  stays (RunLong h n) s away i r = runs h away n s [] r
  stays (Input bytes) s away i r = feeds (s.tables.input ++ bytes.items) s.tables.threads r
  stays Eof s away i r = all_woken q hart size calls.END_OF_INPUT (queue_of object.Input s.tables.threads) s.tables.threads r
  stays (Tick k) s away i r =
      let ws = s.tables.threads.waits in
      all_time_out (due_waits (s.tables.clock + k) ws) s.tables (none_due q (s.tables.clock + k) ws r.waits) r

-- A READY THREAD is on no hart

three : (a b c : Bool) → (a && not b && not c) ≡ true → (a ≡ true) × (b ≡ false) × (c ≡ false)
three true false false e = (refl, refl, refl)
three true false true e = absurd (cc)
three true true c e = absurd (cc)
three false b c e = absurd (cc)

three_true : (a b c : Bool) → a ≡ true → b ≡ false → c ≡ false → (a && not b && not c) ≡ true
three_true true false false x y z = refl
three_true true false true x y z = absurd (cc)
three_true true true c x y z = absurd (cc)
three_true false b c x y z = absurd (cc)

ready_stands : (t : ℕ) (s : threads.State) → threads.is_ready s t ≡ true → Stands t None (length s.harts) s
ready_stands t s r =
    let p = three (threads.is_live s t) (threads.is_waiting s t) (threads.is_on_hart s t) r in
    record { live = p.0; waits = p.1; harts = λ h. none_at t s.harts h p.2; room = refl }

stands_ready : (t size : ℕ) (s : threads.State) → Stands t None size s → threads.is_ready s t ≡ true
stands_ready t size s r = three_true (threads.is_live s t) (threads.is_waiting s t) (threads.is_on_hart s t) r.live r.waits (none_there t s.harts r.harts)

-- each hart is without it
pub off_harts : (t h : ℕ) (s : threads.State) → threads.is_ready s t ≡ true → threads.holds t (option_flatten (slice_get s.harts h)) ≡ false
off_harts t h s r = (let stands = ready_stands t s r in stands.harts h)

no_hart : (e : Event) → of_hart None e ≡ false
no_hart (Place h u) = refl
no_hart (Run h n) = refl
no_hart (RunLong h n) = refl
no_hart (Input bytes) = refl
no_hart Eof = refl
no_hart (Tick k) = refl

after_ready : (t : ℕ) (e : Event) (s : State) → threads.is_ready s.tables.threads t ≡ true → is_placing t e ≡ false → Stands t None (length s.tables.threads.harts) (step e s).state.tables.threads
after_ready t e s ready other = stays t None (length s.tables.threads.harts) e s (no_hart e) other (ready_stands t s.tables.threads ready)

pub stay_ready : StayReady
stay_ready t e s ready other = stands_ready t (length s.tables.threads.harts) (step e s).state.tables.threads (after_ready t e s ready other)

-- such an event leaves the list of harts as long as it is
pub same_room : (t : ℕ) (e : Event) (s : State) → threads.is_ready s.tables.threads t ≡ true → is_placing t e ≡ false → length (step e s).state.tables.threads.harts ≡ length s.tables.threads.harts
same_room t e s ready other = (let after = after_ready t e s ready other in after.room)

-- A THREAD ON A HART

that_hart : (g : ℕ) (e : Event) → of_hart (Some g) e ≡ is_of_hart g e
that_hart g (Place h u) = refl
that_hart g (Run h n) = refl
that_hart g (RunLong h n) = refl
that_hart g (Input bytes) = refl
that_hart g Eof = refl
that_hart g (Tick k) = refl

after_on_hart : (t g : ℕ) (e : Event) (s : State) → IsOnHart t g s.tables.threads → is_of_hart g e ≡ false → is_placing t e ≡ false → Stands t (Some g) (length s.tables.threads.harts) (step e s).state.tables.threads
after_on_hart t g e s on away other = stays t (Some g) (length s.tables.threads.harts) e s (that_hart g e ∙ away) other (record { live = on.live; waits = on.waits; harts = on.harts; room = refl })

pub stay_on_hart : StayOnHart
stay_on_hart t g e s on away other = let r = after_on_hart t g e s on away other in record { live = r.live; waits = r.waits; harts = r.harts }

pub same_room_on_hart : (t g : ℕ) (e : Event) (s : State) → IsOnHart t g s.tables.threads → is_of_hart g e ≡ false → is_placing t e ≡ false → length (step e s).state.tables.threads.harts ≡ length s.tables.threads.harts
same_room_on_hart t g e s on away other = (let after = after_on_hart t g e s on away other in after.room)

pub holds_it : (t : ℕ) (o : Option ℕ) → threads.holds t o ≡ true → o ≡ Some t
holds_it t None e = absurd (cc)
holds_it t (Some u) e = let same : u ≡ t = grind (arith, nat_tests) in ap (λ (k : ℕ). Some k) same

-- a hart that has the thread
pub record HasHart (t : ℕ) (hs : List (Option ℕ)) : Type 0 where
  pub hart : ℕ
  pub is : option_flatten (slice_get hs hart) ≡ Some t

here_or_later : (t : ℕ) (x : Option ℕ) (hs : List (Option ℕ)) (b : Bool) → threads.holds t x ≡ b → (b || list_any (threads.holds t) hs) ≡ true → (list_any (threads.holds t) hs ≡ true → HasHart t hs) → HasHart t (x ∷ hs)
here_or_later t x hs true h e later = record { hart = 0; is = holds_it t x h }
here_or_later t x hs false h e later = (let there = later e in record { hart = suc there.hart; is = there.is })

pub has_hart : (t : ℕ) (hs : List (Option ℕ)) → list_any (threads.holds t) hs ≡ true → HasHart t hs
has_hart t [] e = absurd (cc)
has_hart t (x ∷ hs) e = here_or_later t x hs (threads.holds t x) refl e (has_hart t hs)

-- A THREAD GOES ONTO A HART, AND OFF

put_on : (t g h u : ℕ) (hs : List (Option ℕ)) → g < length hs → threads.holds t (option_flatten (slice_get (slice_set hs g (Some u)) h)) ≡ cond (eqb g h) (t == u) (threads.holds t (option_flatten (slice_get hs h)))
put_on t g h u hs l = ap (threads.holds t) (slot_at hs g h (Some u) l) ∙ cond_of (threads.holds t) (eqb g h) (Some u) (option_flatten (slice_get hs h))

-- a ready thread that is put onto a hart is there
pub placed_there : (t g : ℕ) (s : threads.State) → g < length s.harts → threads.is_ready s t ≡ true → IsOnHart t g (threads.placed_on g t s)
placed_there t g s l ready =
    let r = ready_stands t s ready in
    record {
      live = r.live;
      waits = r.waits;
      harts = λ h. (let e = r.harts h in put_on t g h t s.harts l ∙ (let k : cond (eqb g h) (t == t) (threads.holds t (option_flatten (slice_get s.harts h))) ≡ (g == h) = grind (arith, nat_tests) in k));
    }

-- a thread on a hart onto which another is put is ready
pub taken_off : (t g u : ℕ) (s : threads.State) → IsOnHart t g s → g < length s.harts → (t == u) ≡ false → threads.is_ready (threads.placed_on g u s) t ≡ true
taken_off t g u s on l n =
    stands_ready t (length (threads.placed_on g u s).harts) (threads.placed_on g u s) (record {
      live = on.live;
      waits = on.waits;
      room = refl;
      harts = λ h. (let e = on.harts h in put_on t g h u s.harts l ∙ (let k : cond (eqb g h) (t == u) (threads.holds t (option_flatten (slice_get s.harts h))) ≡ false = grind (arith, nat_tests) in k));
    })

-- a thread that is on a hart, and at one place at most, is on no other
on_one : (t g h : ℕ) (hs : List (Option ℕ)) → threads.count_of (threads.holds t) hs ≤ 1 → option_flatten (slice_get hs g) ≡ Some t → threads.holds t (option_flatten (slice_get hs h)) ≡ (g == h)
on_one t g h [] l e = absurd (cc)
on_one t zero zero (x ∷ hs) l e = (let is : x ≡ Some t = e in rw is (grind (arith, nat_tests)))
on_one t zero (suc h) (x ∷ hs) l e =
    let is : x ≡ Some t = e in
    let here : threads.holds t x ≡ true = rw is (grind (arith, nat_tests)) in
    let none : threads.count_of (threads.holds t) hs ≡ 0 = grind (arith, nat_tests) in
    none_at t hs h (none_of_count (threads.holds t) hs none) ∙ (let k : false ≡ (zero == suc h) = grind (arith, nat_tests) in k)
on_one t (suc g) zero (x ∷ hs) l e =
    let there : 1 ≤ threads.count_of (threads.holds t) hs = held_at hs g t e in
    grind (arith, nat_tests)
on_one t (suc g) (suc h) (x ∷ hs) l e =
    let fewer : threads.count_of (threads.holds t) hs ≤ 1 = omega arith in
    on_one t g h hs fewer e ∙ (let k : (g == h) ≡ (suc g == suc h) = grind (arith, nat_tests) in k)

-- who is on a hart of a well-formed state is on it alone
pub on_hart_of : (t g : ℕ) (s : threads.State) → threads.IsWellFormed s → option_flatten (slice_get s.harts g) ≡ Some t → IsOnHart t g s
on_hart_of t g s w e =
    let there = subst (λ o. IfSome o (λ u. (threads.is_live s u ≡ true) × (threads.is_waiting s u ≡ false))) e (if_on_hart s g (option_flatten (slice_get s.harts g)) refl w) in
    let one : threads.count_of (threads.holds t) s.harts ≤ 1 = grind (arith, nat_tests, w.placed t) in
    record { live = there.0; waits = there.1; harts = λ h. on_one t g h s.harts one e }
