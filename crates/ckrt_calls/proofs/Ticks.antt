-- Waits whose deadlines come.
use Rattle.std.proofs.Common.{◌≡◌, ℕ, ◌+◌, ◌<◌, ◌^◌, true, ◌&&◌, List, [], ◌∷◌, ◌++◌, length, drop, slice_get, Option, Some, None, is_some, refl, sym, ap, ◌∙◌, arith}
use Rattle.std.specs.List.{list_all, list_any, find}
use Rattle.std.proofs.lemmas.Bool.Decides.{nat_tests}
use Rattle.ckrt_thread.specs.declared.records.Wait.{Wait}
use Rattle.ckrt_thread.specs.declared.records.Reason.{Reason}
use Rattle.ckrt_thread.specs.declared.records.Reason.TheVariants as reason
use Rattle.ckrt_thread.specs.declared.records.RetakeResult.TheVariants as retake
use Rattle.ckrt_thread.specs.Errors.{ETIMEDOUT}
use Rattle.ckrt_thread.specs.Waits.{is_of, without}
use Rattle.ckrt_thread.specs.Deadlines.{due_waits, earliest_due, is_reached}
use Rattle.ckrt_thread.specs.State.{State, woken, unwaited, is_live, is_waiting}
use Rattle.ckrt_thread.proofs.WaitLemmas.{found_waits}
use Rattle.ckrt_thread.proofs.Known.{live_range, waits_at_most_once}
use Rattle.ckrt_thread.proofs.DueWaits.{earliest_is_due, earliest_found, due_rest, due_more, none_due}
use Rattle.ckrt_mutex.specs.Rows.{After}
use Rattle.ckrt_mutex.specs.WellFormed.{IsWellFormedWith}
use Rattle.ckrt_mutex.proofs.Rows.{well_formed_retake}
use Rattle.ckrt_objects.proofs.Granting.{well_formed_woken}
use Rattle.ckrt_objects.proofs.Waits.{found_any}
use Rattle.ckrt_calls.specs.declared.table.Tables.{Tables}
use Rattle.ckrt_calls.specs.WellFormed.{IsWellFormed, lies_ahead, lacks_input}
use Rattle.ckrt_calls.specs.Table.{timed_out, all_timed_out, ticked}
use Rattle.ckrt_calls.proofs.ThreadRows as rows
use Rattle.ckrt_calls.proofs.ThreadRows.{any_live_woken}
use Rattle.ckrt_calls.proofs.MutexRows as mutex
use Rattle.ckrt_calls.proofs.MutexRows.{wait_rule}
use Rattle.ckrt_calls.proofs.Queues.{SameQueues, barriers_same, locks_same, timed_ended, timed_resumed}
use Rattle.ckrt_calls.proofs.Calling.{ahead, lacks, ahead_rule, lacks_rule}
use Rattle.ckrt_calls.proofs.KeptConditions.{resume_any_live, resume_all, conditions_woken}
use Rattle.ckrt_calls.proofs.Readers.{live_woken, joined_woken}
use Rattle.ckrt_cond.specs.Rows.{resume_row}
use Rattle.ckrt_cond.specs.WellFormed.{may_resume, is_at_condition_with}
use Rattle.ckrt_cond.proofs.ThreadsKept.{threads_resume}
use Rattle.ckrt_cond.proofs.Rows.{conditions_resume, resume_live, resume_free, resume_room, resume_count}

-- A THREAD WHOSE WAIT ENDS

pub found_waiting : (s : State) (w : Wait) → find (is_of w.thread) s.waits ≡ Some w → is_waiting s w.thread ≡ true
found_waiting s w e = found_waits (is_of w.thread) s.waits w e

-- its wait ends
well_formed_ended_wait : (t v : ℕ) (s : Tables) → IsWellFormed s → SameQueues s.threads (woken t v s.threads) → IsWellFormed (record s { threads = woken t v s.threads })
well_formed_ended_wait t v s h same = record {
  threads = well_formed_woken t v s.threads h.threads;
  mutexes = joined_woken s t v s.threads h.mutexes;
  conditions = conditions_woken t v s.threads h.conditions;
  barriers = barriers_same s.threads (woken t v s.threads) s.barriers same h.barriers;
  rwlocks = locks_same s.threads (woken t v s.threads) s.rwlocks same h.rwlocks;
  running = λ e. any_live_woken t v s.threads (h.running e);
  deadlines = λ e. rows.all_woken (lies_ahead s.clock) t v s.threads (h.deadlines e);
  readers = rows.all_woken (lacks_input s.input s.closed) t v s.threads h.readers;
  clock = h.clock;
  input = h.input;
  fault = λ u pc c e. live_woken u t v s.threads (h.fault u pc c e);
  fault_pc = h.fault_pc;
}

-- A CONDITION WAIT whose deadline came

abbrev Resumed : ℕ → ℕ → Tables → After
Resumed t a s = resume_row t a retake.TimedOut s.threads s.mutexes

resumed_live : (u t a : ℕ) (s : Tables) → is_live s.threads u ≡ true → is_live (Resumed t a s).threads u ≡ true
resumed_live u t a s h = mutex.kept_retake (λ z. is_live z u ≡ true) t a retake.TimedOut (unwaited t s.threads) s.mutexes (live_woken u t ETIMEDOUT s.threads h) h

waits_at_own : (w : Wait) (c a : ℕ) (ws : List Wait) → find (is_of w.thread) ws ≡ Some w → w.reason ≡ reason.Condition c a → list_any (λ v. is_of w.thread v && is_at_condition_with a v.reason) ws ≡ true
waits_at_own w c a ws e r =
    let own : (is_of w.thread w && is_at_condition_with a w.reason) ≡ true = rw r (grind (arith, nat_tests)) in
    found_any (is_of w.thread) (λ v. is_of w.thread v && is_at_condition_with a v.reason) ws w e own

-- a due condition wait may end
pub found_resumes : (w : Wait) (c a : ℕ) (s : State) → find (is_of w.thread) s.waits ≡ Some w → w.reason ≡ reason.Condition c a → may_resume w.thread a s ≡ true
found_resumes w c a s e r = waits_at_own w c a s.waits e r

resumed_mutexes : (t a : ℕ) (s : Tables) → IsWellFormed s → may_resume t a s.threads ≡ true → IsWellFormedWith (Resumed t a s).threads (Resumed t a s).mutexes
resumed_mutexes t a s h m =
    let live = resume_live t a s.threads m h.threads in
    let rule = wait_rule s.mutexes in
    well_formed_retake t a retake.TimedOut (unwaited t s.threads) s.mutexes (rule.unwaited t s.threads (unwaited t s.threads) refl h.mutexes)
    (live_range s.threads t h.threads live) (resume_free t s.threads h.threads) (resume_room t a s.threads m s.mutexes h.mutexes) (resume_count t a s.threads m s.mutexes h.mutexes)

well_formed_resumed : (t a : ℕ) (s : Tables) → IsWellFormed s → may_resume t a s.threads ≡ true → SameQueues s.threads (Resumed t a s).threads
    → IsWellFormed (record s { threads = (Resumed t a s).threads; mutexes = (Resumed t a s).mutexes })
well_formed_resumed t a s h m same = record {
  threads = threads_resume t a retake.TimedOut s.threads s.mutexes h.threads m refl;
  mutexes = resumed_mutexes t a s h m;
  conditions = conditions_resume t a retake.TimedOut s.threads s.mutexes h.conditions;
  barriers = barriers_same s.threads (Resumed t a s).threads s.barriers same h.barriers;
  rwlocks = locks_same s.threads (Resumed t a s).threads s.rwlocks same h.rwlocks;
  running = λ x. resume_any_live t a ETIMEDOUT retake.TimedOut s.threads s.mutexes refl (h.running x);
  deadlines = λ x. resume_all (ahead s) (ahead_rule s) retake.TimedOut (λ u b. refl) t a s.threads s.mutexes (h.deadlines x);
  readers = resume_all (lacks s) (lacks_rule s) retake.TimedOut (λ u b. refl) t a s.threads s.mutexes h.readers;
  clock = h.clock;
  input = h.input;
  fault = λ u pc c x. resumed_live u t a s (h.fault u pc c x);
  fault_pc = h.fault_pc;
}

-- A DUE WAIT ENDS

module _ (w : Wait) (s : Tables) (h : IsWellFormed s) (e : find (is_of w.thread) s.threads.waits ≡ Some w) (d : is_some w.deadline ≡ true) where
  timed_out_by : (r : Reason) → w.reason ≡ r → IsWellFormed (timed_out r w.thread s)
  timed_out_by reason.Sleep i = well_formed_ended_wait w.thread 0 s h (timed_ended w s.threads h.threads e d 0)
  timed_out_by (reason.Condition c a) i = well_formed_resumed w.thread a s h (found_resumes w c a s.threads e i) (timed_resumed w s.threads h.threads e d a s.mutexes)
  timed_out_by reason.Input i = well_formed_ended_wait w.thread ETIMEDOUT s h (timed_ended w s.threads h.threads e d ETIMEDOUT)
  timed_out_by (reason.Join j) i = well_formed_ended_wait w.thread ETIMEDOUT s h (timed_ended w s.threads h.threads e d ETIMEDOUT)
  timed_out_by (reason.Lock a) i = well_formed_ended_wait w.thread ETIMEDOUT s h (timed_ended w s.threads h.threads e d ETIMEDOUT)
  timed_out_by (reason.Retake a v) i = well_formed_ended_wait w.thread ETIMEDOUT s h (timed_ended w s.threads h.threads e d ETIMEDOUT)
  timed_out_by (reason.Barrier b) i = well_formed_ended_wait w.thread ETIMEDOUT s h (timed_ended w s.threads h.threads e d ETIMEDOUT)
  timed_out_by (reason.Read l) i = well_formed_ended_wait w.thread ETIMEDOUT s h (timed_ended w s.threads h.threads e d ETIMEDOUT)
  timed_out_by (reason.Write l) i = well_formed_ended_wait w.thread ETIMEDOUT s h (timed_ended w s.threads h.threads e d ETIMEDOUT)

  pub well_formed_timed_out : IsWellFormed (timed_out w.reason w.thread s)
  well_formed_timed_out = timed_out_by w.reason refl

reached_timed : (now : ℕ) (d : Option ℕ) → is_reached now d ≡ true → is_some d ≡ true
reached_timed now None h = absurd (cc)
reached_timed now (Some d) h = refl

-- THE OTHER DUE WAITS stay as they were

-- a wait for the mutex is due at no time
due_again : (now t a : ℕ) (ws ds : List Wait) → due_waits now ws ≡ ds → due_waits now (ws ++ (record { thread = t; reason = reason.Retake a retake.TimedOut; deadline = None }) ∷ []) ≡ ds
due_again now t a ws ds e = due_more now ws (record { thread = t; reason = reason.Retake a retake.TimedOut; deadline = None }) refl ∙ e

due_after : (now t : ℕ) (s : Tables) (r : Reason) → due_waits now (timed_out r t s).threads.waits ≡ due_waits now (without t s.threads.waits)
due_after now t s (reason.Condition c a) =
    mutex.kept_retake (λ z. due_waits now z.waits ≡ due_waits now (without t s.threads.waits)) t a retake.TimedOut (unwaited t s.threads) s.mutexes refl
    (due_again now t a (without t s.threads.waits) (due_waits now (without t s.threads.waits)) refl)
due_after now t s reason.Sleep = refl
due_after now t s reason.Input = refl
due_after now t s (reason.Join j) = refl
due_after now t s (reason.Lock a) = refl
due_after now t s (reason.Retake a v) = refl
due_after now t s (reason.Barrier b) = refl
due_after now t s (reason.Read l) = refl
due_after now t s (reason.Write l) = refl

-- what is due has a deadline
pub due_timed : (now : ℕ) (ws : List Wait) (w : Wait) → earliest_due now ws ≡ Some w → is_some w.deadline ≡ true
due_timed now ws w f = reached_timed now w.deadline (earliest_is_due now ws w f)

pub due_first : (now : ℕ) (w : Wait) (s z : Tables) → z ≡ timed_out w.reason w.thread s → earliest_due now s.threads.waits ≡ Some w → find (is_of w.thread) s.threads.waits ≡ Some w → due_waits now s.threads.waits ≡ w ∷ due_waits now z.threads.waits
due_first now w s z i f e =
    rw i (due_rest now s.threads.waits w e (earliest_is_due now s.threads.waits w f) f ∙ ap (λ x. w ∷ x) (sym (due_after now w.thread s w.reason)))

-- one due wait ends, and then the others
pub ends_first : (now : ℕ) (w : Wait) (s z : Tables) → z ≡ timed_out w.reason w.thread s → due_waits now s.threads.waits ≡ w ∷ due_waits now z.threads.waits → all_timed_out (due_waits now z.threads.waits) z ≡ all_timed_out (due_waits now s.threads.waits) s
ends_first now w s z i e = rw e (ap (all_timed_out (due_waits now z.threads.waits)) i)

none_of_length : {X : Type 0} (xs : List X) → length xs ≡ 0 → xs ≡ []
none_of_length [] e = refl
none_of_length (x ∷ xs) e = absurd (omega arith)

-- where none is due none ends
pub ends_none : (now : ℕ) (s : Tables) → length (due_waits now s.threads.waits) ≡ 0 → all_timed_out (due_waits now s.threads.waits) s ≡ s
ends_none now s e = ap (λ ds. all_timed_out ds s) (none_of_length (due_waits now s.threads.waits) e)

-- the clock goes on to a moment before every deadline
pub well_formed_clock : (now : ℕ) (s : Tables) → IsWellFormed s → now < 2 ^ 63 → list_all (lies_ahead now) s.threads.waits ≡ true → IsWellFormed (record s { clock = now })
well_formed_clock now s h l a = record {
  threads = h.threads;
  mutexes = h.mutexes;
  conditions = h.conditions;
  barriers = h.barriers;
  rwlocks = h.rwlocks;
  running = h.running;
  deadlines = λ e. a;
  readers = h.readers;
  clock = l;
  input = h.input;
  fault = h.fault;
  fault_pc = h.fault_pc;
}

-- ALL DUE WAITS END

record AllEnded (now : ℕ) (s : Tables) : Type 0 where
  tables : IsWellFormed s
  none : length (due_waits now s.threads.waits) ≡ 0

all_end : (now : ℕ) (ws : List Wait) (s : Tables) → due_waits now s.threads.waits ≡ ws → IsWellFormed s → AllEnded now (all_timed_out ws s)
all_end now [] s e h = record { tables = h; none = ap length e }
all_end now (w ∷ ws) s e h =
    let first : earliest_due now s.threads.waits ≡ Some w = ap (λ ds. slice_get ds 0) e in
    let found = earliest_found now s.threads.waits w first (waits_at_most_once s.threads w.thread h.threads) in
    let z = timed_out w.reason w.thread s in
    let rest = due_first now w s z refl first found in
    all_end now ws z (ap (λ ds. drop 1 ds) (sym rest ∙ e)) (well_formed_timed_out w s h found (due_timed now s.threads.waits w first))

-- ticks pass
pub well_formed_ticked : (k : ℕ) (s : Tables) → s.clock + k < 2 ^ 63 → IsWellFormed s → IsWellFormed (ticked k s).tables
well_formed_ticked k s l h =
    let now = s.clock + k in
    let z = all_timed_out (due_waits now s.threads.waits) s in
    let all = all_end now (due_waits now s.threads.waits) s refl h in
    well_formed_clock now z all.tables l (none_due now z.threads.waits all.none)
