-- The calls on cancellation and clean-up handlers keep the rules of the tables.
use Rattle.std.proofs.Common.{◌≡◌, ℕ, Bool, true, None, refl, ap}
use Rattle.std.specs.List.{filter}
use Rattle.ckrt_registers.specs.Registers.{Registers}
use Rattle.ckrt_registers.specs.Registers.{get}
use Rattle.ckrt_thread.specs.State as threads
use Rattle.ckrt_thread.specs.declared.records.Wait.{Wait}
use Rattle.ckrt_thread.specs.declared.records.Reason.TheVariants as reason
use Rattle.ckrt_thread.specs.declared.records.RetakeResult.TheVariants as retake
use Rattle.ckrt_thread.specs.Waits.{is_for}
use Rattle.ckrt_cancel.specs.Rows.{request_row, set_state_row, set_type_row, push_row, pop_row}
use Rattle.ckrt_cancel.proofs.Kept as kept_cancel
use Rattle.ckrt_cancel.proofs.Kept.{waits_set_state, waits_set_type, waits_push, waits_pop, live_set_state, live_set_type, live_push, live_pop, live_request, well_formed_request}
use Rattle.ckrt_cancel.proofs.ThreadsKept.{threads_request, threads_set_state, threads_set_type, threads_push, threads_pop}
use Rattle.ckrt_calls.specs.declared.table.Tables.{Tables}
use Rattle.ckrt_calls.specs.WellFormed.{IsWellFormed}
use Rattle.ckrt_calls.specs.declared.number.CancellationCall.{CancellationCall}
use Rattle.ckrt_calls.specs.declared.number.CancellationCall.TheVariants as cancellation_call
use Rattle.ckrt_calls.specs.Table.{cancellation_row}
use Rattle.ckrt_calls.specs.Calling.{MayCall}
use Rattle.ckrt_calls.proofs.ThreadRows.{IsWaitRule, AllWaits, all_blocked}
use Rattle.ckrt_calls.proofs.Queues as queues
use Rattle.ckrt_calls.proofs.MutexRows.{wait_rule, condition_rule}
use Rattle.ckrt_calls.proofs.Calling.{caller_lives, ahead, lacks, all_ahead, all_lack, ahead_rule, lacks_rule, IsAfter, changed}

-- the waits are the same, and who calls lives
pub kept_same : (t : ℕ) (s : Tables) (z : threads.State) → MayCall t s → threads.IsWellFormed z → z.waits ≡ s.threads.waits → threads.is_live z t ≡ true → IsAfter s z s.mutexes
kept_same t s z m k e l = record {
  threads = k;
  mutexes = (let rule = wait_rule s.mutexes in rule.same_waits s.threads z e m.well_formed.mutexes);
  conditions = (let rule = condition_rule in rule.same_waits s.threads z e m.well_formed.conditions);
  others = λ o p. ap (λ ws. filter (is_for o) ws) e;
  live = caller_lives t z l;
  deadlines = (let rule = ahead_rule s in rule.same_waits s.threads z e (all_ahead t s m));
  readers = (let rule = lacks_rule s in rule.same_waits s.threads z e (all_lack t s m));
}

kept_set_state : (t n : ℕ) (s : Tables) → MayCall t s → IsAfter s (set_state_row t n s.threads).threads s.mutexes
kept_set_state t n s m =
    kept_same t s (set_state_row t n s.threads).threads m (threads_set_state t s.threads m.well_formed.threads m.live n) (waits_set_state t n s.threads) (live_set_state t t n s.threads m.live)

kept_set_type : (t n : ℕ) (s : Tables) → MayCall t s → IsAfter s (set_type_row t n s.threads).threads s.mutexes
kept_set_type t n s m =
    kept_same t s (set_type_row t n s.threads).threads m (threads_set_type t s.threads m.well_formed.threads m.live n) (waits_set_type t n s.threads) (live_set_type t t n s.threads m.live)

kept_push : (t a b : ℕ) (s : Tables) → MayCall t s → IsAfter s (push_row t a b s.threads).threads s.mutexes
kept_push t a b s m =
    kept_same t s (push_row t a b s.threads).threads m (threads_push t s.threads m.well_formed.threads m.live a b) (waits_push t a b s.threads) (live_push t t a b s.threads m.live)

kept_pop : (t e back : ℕ) (s : Tables) → MayCall t s → IsAfter s (pop_row t e back s.threads).threads s.mutexes
kept_pop t e back s m =
    kept_same t s (pop_row t e back s.threads).threads m (threads_pop t s.threads m.well_formed.threads m.live e back) (waits_pop t e back s.threads) (live_pop t t e back s.threads m.live)

request_all : (f : Wait → Bool) → IsWaitRule (AllWaits f) → ((t a : ℕ) → f (record { thread = t; reason = reason.Retake a retake.Unwind; deadline = None }) ≡ true) → (id : ℕ) (s : Tables) → AllWaits f s.threads
    → AllWaits f (request_row id s.threads s.mutexes).threads
request_all f rule e id s h = kept_cancel.kept_request (AllWaits f) rule.same_waits rule.unwaited (λ t a z i. all_blocked f t (reason.Retake a retake.Unwind) None z (e t a) i) id s.threads s.mutexes h

kept_request : (t id : ℕ) (s : Tables) → MayCall t s → IsAfter s (request_row id s.threads s.mutexes).threads (request_row id s.threads s.mutexes).mutexes
kept_request t id s m =
    let k = well_formed_request id s.threads s.mutexes m.well_formed.threads m.well_formed.mutexes m.well_formed.conditions in
    record {
      threads = threads_request id s.threads s.mutexes m.well_formed.threads;
      mutexes = k.mutexes;
      conditions = k.conditions;
      others = λ o p. queues.request o p id s.threads s.mutexes m.well_formed.threads;
      live = caller_lives t (request_row id s.threads s.mutexes).threads (live_request t id s.threads s.mutexes m.live m.free);
      deadlines = request_all (ahead s) (ahead_rule s) (λ u a. refl) id s (all_ahead t s m);
      readers = request_all (lacks s) (lacks_rule s) (λ u a. refl) id s (all_lack t s m);
    }

pub kept_cancellation : (c : CancellationCall) (t : ℕ) (r : Registers) (s : Tables) → MayCall t s → IsWellFormed (cancellation_row c t r s).tables
kept_cancellation cancellation_call.Cancel t r s m = changed t s _ _ m (kept_request t (get r 10) s m)
kept_cancellation cancellation_call.TestCancel t r s m = m.well_formed
kept_cancellation cancellation_call.SetCancelState t r s m = changed t s _ _ m (kept_set_state t (get r 10) s m)
kept_cancellation cancellation_call.SetCancelType t r s m = changed t s _ _ m (kept_set_type t (get r 10) s m)
kept_cancellation cancellation_call.CleanupPush t r s m = changed t s _ _ m (kept_push t (get r 10) (get r 11) s m)
kept_cancellation cancellation_call.CleanupPop t r s m = changed t s _ _ m (kept_pop t (get r 10) r.pc s m)
