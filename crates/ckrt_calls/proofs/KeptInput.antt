-- The calls on the process, its console and its time keep the rules of the tables.
use Rattle.std.proofs.Common.{◌≡◌, ◌/◌, ◌^◌, ℕ, nat_le, not, Bool, true, false, Option, Some, None, List, [], ◌∷◌, refl, arith}
use Rattle.std.specs.List.{list_all}
use Rattle.std.proofs.lemmas.Bool.Decides.{nat_tests}
use Rattle.ckrt_registers.specs.Registers.{Registers}
use Rattle.ckrt_registers.specs.Registers.{get}
use Rattle.ckrt_thread.specs.State as threads
use Rattle.ckrt_thread.specs.declared.records.Wait.{Wait}
use Rattle.ckrt_thread.specs.declared.records.Reason.{Reason}
use Rattle.ckrt_thread.specs.declared.records.Reason.TheVariants as reason
use Rattle.ckrt_thread.specs.declared.records.Object.{Object}
use Rattle.ckrt_thread.specs.Abi.{A1}
use Rattle.ckrt_thread.specs.Waits.{is_reason_for, is_moment}
use Rattle.ckrt_thread.specs.State.{with_word, blocked}
use Rattle.ckrt_thread.proofs.Changes.{well_formed_blocked, well_formed_word}
use Rattle.ckrt_mutex.specs.Rows.{mutex_of}
use Rattle.ckrt_mutex.proofs.WellFormed.{well_formed_unnamed}
use Rattle.ckrt_cond.specs.WellFormed.{is_with}
use Rattle.ckrt_cond.proofs.Waits.{conditions_other}
use Rattle.ckrt_calls.specs.declared.table.Tables.{Tables}
use Rattle.ckrt_calls.specs.WellFormed.{IsWellFormed, lacks_input}
use Rattle.ckrt_calls.specs.declared.number.ProcessCall.{ProcessCall}
use Rattle.ckrt_calls.specs.declared.number.ProcessCall.TheVariants as process_call
use Rattle.ckrt_calls.specs.Table.{After, process_row, done, waits, getc_of, sleep_row, moment_of, END_OF_INPUT}
use Rattle.ckrt_calls.specs.Calling.{MayCall}
use Rattle.ckrt_calls.proofs.Choices.{choice_else}
use Rattle.ckrt_calls.proofs.ThreadRows.{all_blocked}
use Rattle.ckrt_calls.proofs.Queues as queues
use Rattle.ckrt_calls.proofs.Queues.{IsApart}
use Rattle.ckrt_calls.proofs.Calling.{some_live, ahead, lacks, all_ahead, all_lack, changed, later}
use Rattle.ckrt_calls.proofs.KeptEnds.{well_formed_change, well_formed_exited}

-- the thread that calls waits
kept_waits : (t : ℕ) (r : Reason) (d : Option ℕ) (s : Tables) → MayCall t s → mutex_of r ≡ None → ((c a : ℕ) → is_with c a r ≡ false) → ((o : Object) → IsApart o → is_reason_for o r ≡ false) → ahead s (record { thread = t; reason = r; deadline = d }) ≡ true → lacks s (record { thread = t; reason = r; deadline = d }) ≡ true
    → threads.may_wait t r d s.threads ≡ true → IsWellFormed (waits t r d s).tables
kept_waits t r d s m n i o a l w = changed t s (blocked t r d s.threads) s.mutexes m (record {
  threads = well_formed_blocked s.threads t r d m.well_formed.threads m.live m.free w;
  mutexes = well_formed_unnamed r t d s.threads s.mutexes n m.well_formed.mutexes;
  conditions = conditions_other t r d s.threads i m.well_formed.conditions;
  others = λ q p. queues.begun q p t r d s.threads (o q p);
  live = some_live t s m;
  deadlines = all_blocked (ahead s) t r d s.threads a (all_ahead t s m);
  readers = all_blocked (lacks s) t r d s.threads l (all_lack t s m);
})

-- who reads a byte leaves nobody waiting
fewer_bytes : (b : ℕ) (bs : List ℕ) (closed : Bool) (ws : List Wait) → list_all (lacks_input (b ∷ bs) closed) ws ≡ true → list_all (lacks_input bs closed) ws ≡ true
fewer_bytes b bs closed [] h = refl
fewer_bytes b bs closed (w ∷ ws) h = grind (arith, nat_tests, fewer_bytes b bs closed ws)

kept_byte : (b : ℕ) (bs : List ℕ) (s : Tables) → s.input ≡ b ∷ bs → IsWellFormed s → IsWellFormed (record s { input = bs })
kept_byte b bs s e h = record {
  threads = h.threads;
  mutexes = h.mutexes;
  conditions = h.conditions;
  barriers = h.barriers;
  rwlocks = h.rwlocks;
  running = h.running;
  deadlines = h.deadlines;
  readers = fewer_bytes b bs s.closed s.threads.waits (rw e at h.readers);
  clock = h.clock;
  input = (let n = rw e at h.input in omega arith);
  fault = h.fault;
  fault_pc = h.fault_pc;
}

kept_getc : (i : List ℕ) (t : ℕ) (s : Tables) → s.input ≡ i → MayCall t s → IsWellFormed (getc_of i t s).tables
kept_getc [] t s e m =
    choice_else {A = After} (λ r. IsWellFormed r.tables) s.closed (done END_OF_INPUT s) (waits t reason.Input None s) m.well_formed
    (λ c. kept_waits t reason.Input None s m refl (λ c a. refl) (λ o p. p.input) refl (rw (e, c) refl) refl)
kept_getc (b ∷ bs) t s e m = kept_byte b bs s e m.well_formed

not_not : (b : Bool) → not b ≡ false → b ≡ true
not_not true h = refl
not_not false h = absurd (cc)

may_sleep : (t d : ℕ) (s : threads.State) → is_moment d ≡ true → threads.may_wait t reason.Sleep (Some d) s ≡ true
may_sleep t d s e = rw e refl

kept_sleep : (t d : ℕ) (s : Tables) → MayCall t s → IsWellFormed (sleep_row t d s).tables
kept_sleep t d s m =
    choice_else {A = After} (λ r. IsWellFormed r.tables) (not (is_moment d)) _ _ m.well_formed (λ i.
    choice_else {A = After} (λ r. IsWellFormed r.tables) (nat_le d s.clock) _ _ m.well_formed (λ c.
    kept_waits t reason.Sleep (Some d) s m refl (λ c a. refl) (λ o p. p.sleep) (later d s.clock c) refl (may_sleep t d s.threads (not_not (is_moment d) i))))

pub kept_process : (c : ProcessCall) (t : ℕ) (r : Registers) (s : Tables) → MayCall t s → IsWellFormed (process_row c t r s).tables
kept_process process_call.Exit t r s m = well_formed_exited s (get r 10) m.well_formed
kept_process process_call.Putc t r s m = m.well_formed
kept_process process_call.Getc t r s m = kept_getc s.input t s refl m
kept_process process_call.Clock t r s m = well_formed_change (with_word A1 (s.clock / 2 ^ 32)) t s m.well_formed (well_formed_word s.threads t A1 (s.clock / 2 ^ 32) m.well_formed.threads)
kept_process process_call.SleepUntil t r s m = kept_sleep t (moment_of (get r 10) (get r 11)) s m
