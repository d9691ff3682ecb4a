-- Threads, waits and harts that are read and appended.
use Rattle.std.proofs.Common.{◌≡◌, ℕ, zero, suc, ◌==◌, nat_le, if◌then◌else◌, ◌+◌, ◌*◌, ◌-◌, ◌<◌, ◌≤◌, ◌↔◌, Bool, true, false, not, List, [], ◌∷◌, ◌++◌, length, get_or, take, replicate, Option, Some, None, is_some, unwrap_or, slice_get, slice_set, refl, sym, ap, subst, ◌∙◌, append_assoc, arith}
use Rattle.std.specs.List.{list_all}
use Rattle.std.specs.Option.{option_flatten}
use Rattle.std.proofs.lemmas.Bool.Decides.{nat_tests}
use Rattle.std.proofs.lemmas.List.{append-nil}
use Rattle.std.proofs.lemmas.Grind.{common_steps}
use Rattle.ckrt_registers.specs.Registers.{Registers}
use Rattle.ckrt_thread.specs.declared.records.Handler.{Handler}
use Rattle.ckrt_thread.specs.declared.records.Live.{Live}
use Rattle.ckrt_thread.specs.declared.records.Thread.{Thread}
use Rattle.ckrt_thread.specs.declared.records.Thread.TheVariants as thread
use Rattle.ckrt_thread.specs.declared.records.Wait.{Wait}
use Rattle.ckrt_thread.specs.declared.records.Reason.{Reason}
use Rattle.ckrt_thread.specs.declared.records.Reason.TheVariants as reason
use Rattle.ckrt_thread.specs.declared.records.RetakeResult.TheVariants as retake
use Rattle.ckrt_thread.specs.declared.keys.SpecificData.{SpecificData}
use Rattle.ckrt_thread.specs.Keys.{KeyTable, all_keys, HasValuesOf}
use Rattle.ckrt_thread.specs.State.{State, IsWellFormed, is_proper_slot}
use Rattle.ckrt_thread.proofs.KeyLemmas.{both, no_value, enough_values, of_keys}
use Rattle.ckrt_thread.specs.Contents.{ThreadRow, GoesOnWithThread, GoesOnWithWait, GoesOnWithHart, thread_rows, rows_from, thread_appended, wait_appended, hart_appended, who_is_on, empty, with_keys, has_values_of, are_all_of_keys}
use Rattle.ckrt_thread.proofs.ThreadRows.{thread_behind, known_by_rows}
use Rattle.ckrt_thread.proofs.Beginnings.{next_thread, next_wait, next_on_hart}
use Rattle.ckrt_tables.specs.Records.{flag, flags_of, value_of, registers_of, handlers_of, specific_of, kind_of, result_of, first_name, second_name, reason_from}
use Rattle.ckrt_tables.specs.Savable.{is_byte, is_word, is_long, fits_reason, fits_wait, fit_registers, fits_handler, fits_slot, fits_thread, is_without_data, is_slot_without_data, if_there}
use Rattle.ckrt_tables.specs.DecodingThreads.{AreThreadBytes, fits_row, fits_data_in, ThreadsLeadTo, WaitsLeadTo, HartsLeadTo}
use Rattle.ckrt_tables.proofs.Distinct.{flag_times, live_below_64, in_version, thread_fits, names_fit, moment_fits, reason_is}
use Rattle.ckrt_tables.proofs.Rows.{at_place}
use Rattle.ckrt_tables.proofs.Filled.{filled, filled_next, filled_same, none_among, none_behind, some_among}

-- MARKS

-- what is said of the next mark among flags
abbrev pub IsNextMark : ℕ → Bool → ℕ → Type 0
IsNextMark old found new = (mark : Bool) (more : ℕ) → old ≡ flag 1 mark + 2 * more → (found ≡ mark) × (new ≡ more)

abbrev pub IsNumberIf : Bool → ℕ → Option ℕ → Type 0
IsNumberIf is_there number found = (o : Option ℕ) → is_there ≡ is_some o → number ≡ unwrap_or o 0 → found ≡ o

not_twice : (b : Bool) → not (not b) ≡ b
not_twice true = refl
not_twice false = refl

pub live_found : (flags value : ℕ) (regs : Registers) (handlers : List Handler) (i d n a q u : Bool) (m1 m2 m3 m4 m5 m6 : ℕ) (o : Option ℕ) (specific : SpecificData)
    → IsNextMark flags i m1 → IsNextMark m1 d m2 → IsNextMark m2 n m3 → IsNextMark m3 a m4 → IsNextMark m4 q m5 → IsNextMark m5 u m6 → IsNumberIf u value o
    → (l : Live) → AreThreadBytes flags value regs handlers specific (thread.Live l)
    → record { regs = regs; initial = i; detached = d; cancellation = record { is_enabled = not n; is_asynchronous = a; is_requested = q; unwinding = o }; handlers = record { items = handlers }; specific = specific } ≡ l
live_found flags value regs handlers i d n a q u m1 m2 m3 m4 m5 m6 o specific first second third fourth fifth sixth number l are =
    let c = l.cancellation in
    let r5 = flag 1 (is_some c.unwinding) + 2 * 0 in
    let r4 = flag 1 c.is_requested + 2 * r5 in
    let r3 = flag 1 c.is_asynchronous + 2 * r4 in
    let r2 = flag 1 (not c.is_enabled) + 2 * r3 in
    let r1 = flag 1 l.detached + 2 * r2 in
    let f = are.flags_are in
    let one = first l.initial r1 (omega (arith, f, flag_times 2 l.detached, flag_times 4 (not c.is_enabled), flag_times 8 c.is_asynchronous, flag_times 16 c.is_requested, flag_times 32 (is_some c.unwinding))) in
    let two = second l.detached r2 one.1 in
    let three = third (not c.is_enabled) r3 two.1 in
    let four = fourth c.is_asynchronous r4 three.1 in
    let five = fifth c.is_requested r5 four.1 in
    let six = sixth (is_some c.unwinding) 0 five.1 in
    let enabled : not n ≡ c.is_enabled = ap not three.0 ∙ not_twice c.is_enabled in
    let unwinding = number c.unwinding six.0 are.value_is in
    let r = are.registers_are in
    let h = are.handlers_are in
    let k = are.specific_is in
    rw (r, one.0, two.0, enabled, four.0, five.0, unwinding, h, k) refl

-- ONE ROW MORE

pub thread_leads : (begun new : State) (r : ThreadRow) (took : Bool) → IsWellFormed begun → (took ≡ true) ↔ GoesOnWithThread r begun → (took ≡ true → new ≡ thread_appended r begun)
    → (goal : State) (more : List ThreadRow) → ThreadsLeadTo begun (r ∷ more) goal → ThreadsLeadTo new more goal
thread_leads begun new r took well exact appended goal more leads =
    let goes_on = next_thread r begun goal well leads.well_formed (record { keys = sym leads.keys; threads = (more, leads.rows_are) }) in
    subst (λ s. ThreadsLeadTo s more goal) (sym (appended (exact.1 goes_on))) (record {
      well_formed = leads.well_formed;
      rows_are = leads.rows_are ∙ sym (append_assoc (thread_rows begun) (r ∷ []) more) ∙ ap (λ l. l ++ more) (sym (thread_behind r begun goes_on));
      no_waits = leads.no_waits;
      idle = leads.idle;
      hart_count = leads.hart_count;
      keys = leads.keys;
    })

nobody : (s : State) → s.harts ≡ replicate 8 None → (h : ℕ) → who_is_on s h ≡ None
nobody s e h = ap (λ hs. option_flatten (slice_get hs h)) e ∙ none_among 8 h

pub wait_leads : (begun new : State) (w : Wait) (took : Bool) → IsWellFormed begun → (took ≡ true) ↔ GoesOnWithWait w begun → (took ≡ true → new ≡ wait_appended w begun)
    → (goal : State) (more : List Wait) → WaitsLeadTo begun (w ∷ more) goal → WaitsLeadTo new more goal
wait_leads begun new w took well exact appended goal more leads =
    let goes_on = next_wait w begun goal well leads.well_formed (record { keys = sym leads.keys; threads = leads.threads; waits = (more, leads.waits_are); idle = nobody begun leads.idle }) in
    subst (λ s. WaitsLeadTo s more goal) (sym (appended (exact.1 goes_on))) (record {
      well_formed = leads.well_formed;
      threads = leads.threads;
      waits_are = leads.waits_are ∙ sym (append_assoc begun.waits (w ∷ []) more);
      idle = leads.idle;
      hart_count = leads.hart_count;
      keys = leads.keys;
    })

-- who is on a hart of a well-formed state, as an element of its list
pub on_hart : (s : State) (h : ℕ) → IsWellFormed s → h < 8 → who_is_on s h ≡ get_or s.harts h None
on_hart s h well lt = let size = well.harts in at_place s.harts h (omega (arith, size, lt))

pub hart_leads : (begun new : State) (h t : ℕ) (took : Bool) → IsWellFormed begun → (took ≡ true) ↔ GoesOnWithHart h t begun → (took ≡ true → new ≡ hart_appended h t begun)
    → (goal : State) → h < 8 → who_is_on goal h ≡ Some t → HartsLeadTo h begun goal → HartsLeadTo (h + 1) new goal
hart_leads begun new h t took well exact appended goal lt next leads =
    let at : (i : ℕ) → who_is_on begun i ≡ option_flatten (slice_get (filled None 8 h goal.harts) i) = λ i. ap (λ hs. option_flatten (slice_get hs i)) leads.harts_are in
    let goes_on = next_on_hart h t begun goal well leads.well_formed (record {
      keys = sym leads.keys;
      threads = leads.threads;
      waits = leads.waits;
      hart_count = sym leads.hart_count;
      next = next;
      idle = at h ∙ none_behind goal.harts h (8 - h) h (omega arith);
      others = λ i u e. some_among goal.harts h (8 - h) i u (sym (at i) ∙ e);
    }) in
    let here : get_or goal.harts h None ≡ Some t = sym (on_hart goal h leads.well_formed lt) ∙ next in
    subst (λ s. HartsLeadTo (h + 1) s goal) (sym (appended (exact.1 goes_on))) (record {
      well_formed = leads.well_formed;
      threads = leads.threads;
      waits = leads.waits;
      harts_are =
          ap (λ hs. slice_set hs h (Some t)) leads.harts_are
          ∙ ap (λ o. slice_set (filled None 8 h goal.harts) h o) (sym here)
          ∙ filled_next None 8 goal.harts h leads.well_formed.harts lt;
      hart_count = leads.hart_count;
      keys = leads.keys;
    })

-- a hart that stays idle
pub idle_leads : (begun goal : State) (h : ℕ) → h < 8 → who_is_on goal h ≡ None → HartsLeadTo h begun goal → HartsLeadTo (h + 1) begun goal
idle_leads begun goal h lt next leads = record {
  well_formed = leads.well_formed;
  threads = leads.threads;
  waits = leads.waits;
  harts_are = leads.harts_are ∙ filled_same None 8 goal.harts h leads.well_formed.harts lt (sym (on_hart goal h leads.well_formed lt) ∙ next);
  hart_count = leads.hart_count;
  keys = leads.keys;
}

-- all of them
pub placed_all : (begun goal : State) → IsWellFormed begun → HartsLeadTo 8 begun goal → begun ≡ goal
placed_all begun goal well leads = known_by_rows begun goal well leads.well_formed (record {
  threads = sym leads.threads;
  waits = sym leads.waits;
  harts = leads.harts_are ∙ append-nil (take 8 goal.harts) ∙ whole goal.harts leads.well_formed.harts;
  hart_count = leads.hart_count;
  keys = leads.keys;
})
  where
    whole : (hs : List (Option ℕ)) → length hs ≡ 8 → take 8 hs ≡ hs
    whole hs e = grind (arith, common_steps)

-- ROWS THAT FIT THEIR RECORDS

pub rows_fit_records : (version k : ℕ) (slots : List (Option Thread)) → k + length slots ≤ 256 → list_all fits_slot slots ≡ true → (version ≡ 1 → list_all is_slot_without_data slots ≡ true) → list_all (fits_row version) (rows_from k slots) ≡ true
rows_fit_records version k [] few f b = refl
rows_fit_records version k (None ∷ slots) few f b = rows_fit_records version (suc k) slots (omega (arith, few)) (both (fits_slot None) (list_all fits_slot slots) f).1 (λ v. (both (is_slot_without_data None) (list_all is_slot_without_data slots) (b v)).1)
rows_fit_records version k (Some x ∷ slots) few f b =
    let rest = rows_fit_records version (suc k) slots (omega (arith, few)) (both (fits_slot (Some x)) (list_all fits_slot slots) f).1 (λ v. (both (is_slot_without_data (Some x)) (list_all is_slot_without_data slots) (b v)).1) in
    let this : fits_thread x ≡ true = (both (fits_slot (Some x)) (list_all fits_slot slots) f).0 in
    let bare = in_version version x (λ v. (both (is_slot_without_data (Some x)) (list_all is_slot_without_data slots) (b v)).0) in
    let id : is_byte k ≡ true = grind (arith, nat_tests, few) in
    grind (arith, rest, this, bare, id)

-- WAITS

pub record FitWait (w : Wait) : Type 0 where
  pub thread : is_byte w.thread ≡ true
  pub reason : fits_reason w.reason ≡ true
  pub kind : is_byte (kind_of w.reason) ≡ true
  pub outcome : is_byte (result_of w.reason) ≡ true
  pub is_timed : is_byte (flag 1 (is_some w.deadline)) ≡ true
  pub first : is_word (first_name w.reason) ≡ true
  pub second : is_word (second_name w.reason) ≡ true
  pub moment : is_long (unwrap_or w.deadline 0) ≡ true

kind_fits : (r : Reason) → is_byte (kind_of r) ≡ true
kind_fits (reason.Join id) = refl
kind_fits (reason.Lock a) = refl
kind_fits (reason.Retake a r) = refl
kind_fits (reason.Condition c a) = refl
kind_fits (reason.Barrier a) = refl
kind_fits (reason.Read a) = refl
kind_fits (reason.Write a) = refl
kind_fits reason.Input = refl
kind_fits reason.Sleep = refl

result_fits : (r : Reason) → is_byte (result_of r) ≡ true
result_fits (reason.Join id) = refl
result_fits (reason.Lock a) = refl
result_fits (reason.Retake a retake.Done) = refl
result_fits (reason.Retake a retake.TimedOut) = refl
result_fits (reason.Retake a retake.Unwind) = refl
result_fits (reason.Condition c a) = refl
result_fits (reason.Barrier a) = refl
result_fits (reason.Read a) = refl
result_fits (reason.Write a) = refl
result_fits reason.Input = refl
result_fits reason.Sleep = refl

pub flag_fits : (b : Bool) → is_byte (flag 1 b) ≡ true
flag_fits true = refl
flag_fits false = refl

pub wait_fits : (w : Wait) → fits_wait w ≡ true → FitWait w
wait_fits w f =
    let r : fits_reason w.reason ≡ true = grind (arith, nat_tests, f) in
    let names = names_fit w.reason r in
    record {
      thread = grind (arith, nat_tests, f);
      reason = r;
      kind = kind_fits w.reason;
      outcome = result_fits w.reason;
      is_timed = flag_fits (is_some w.deadline);
      first = names.0;
      second = names.1;
      moment = moment_fits w.deadline (grind (arith, nat_tests, f));
    }

pub reason_found : (r : Reason) (kind outcome first second : ℕ) → fits_reason r ≡ true → kind ≡ kind_of r → outcome ≡ result_of r → first ≡ first_name r → second ≡ second_name r
    → reason_from kind outcome first second ≡ r
reason_found r kind outcome first second f k o a b =
    ap (λ x. reason_from x outcome first second) k
    ∙ ap (λ x. reason_from (kind_of r) x first second) o
    ∙ ap (λ x. reason_from (kind_of r) (result_of r) x second) a
    ∙ ap (λ x. reason_from (kind_of r) (result_of r) (first_name r) x) b
    ∙ reason_is r f

pub same_wait : (t : ℕ) (r : Reason) (deadline : Option ℕ) (w : Wait) → t ≡ w.thread → r ≡ w.reason → deadline ≡ w.deadline → record { thread = t; reason = r; deadline = deadline } ≡ w
same_wait t r deadline w e₁ e₂ e₃ = rw (e₁, e₂, e₃) refl

-- A THREAD

pub record FitRow (version : ℕ) (r : ThreadRow) : Type 0 where
  pub id : is_byte r.id ≡ true
  pub flags : is_byte (flags_of r.thread) ≡ true
  pub count : is_byte (length (handlers_of r.thread)) ≡ true
  pub value : is_word (value_of r.thread) ≡ true
  pub registers : fit_registers (registers_of r.thread) ≡ true
  pub handlers : list_all fits_handler (handlers_of r.thread) ≡ true
  pub few : length (handlers_of r.thread) ≤ 16
  pub specific : fits_data_in version (specific_of r.thread) ≡ true

flags_fit : (t : Thread) → is_byte (flags_of t) ≡ true
flags_fit (thread.Ended v) = refl
flags_fit (thread.Live l) = (let below = live_below_64 l in grind (arith, nat_tests, below))

few_handlers : (t : Thread) → fits_thread t ≡ true → length (handlers_of t) ≤ 16
few_handlers (thread.Ended v) f = omega arith
few_handlers (thread.Live l) f = (let n = (both (nat_le (length l.handlers.items) 16) _ (both (if_there is_word l.cancellation.unwinding) _ (both (fit_registers l.regs) _ f).1).1).0 in grind (arith, nat_tests, n))

pub row_fits : (version : ℕ) (r : ThreadRow) → fits_row version r ≡ true → FitRow version r
row_fits version r f =
    let rest = (both (is_byte r.id) _ f).1 in
    let t : fits_thread r.thread ≡ true = (both (fits_thread r.thread) _ rest).0 in
    let bare = (both (fits_thread r.thread) (if version == 1 then is_without_data (specific_of r.thread) else true) rest).1 in
    let p = thread_fits r.thread t in
    let own = p.specific in
    let few = few_handlers r.thread t in
    record {
      id = (both (is_byte r.id) _ f).0;
      flags = flags_fit r.thread;
      count = grind (arith, nat_tests, few);
      value = p.value;
      registers = p.registers;
      handlers = p.handlers;
      few = few;
      specific = grind (arith, own, bare);
    }

pub same_row : (id : ℕ) (t : Thread) (r : ThreadRow) → id ≡ r.id → t ≡ r.thread → ◌≡◌ {A = ThreadRow} (record { id = id; thread = t }) r
same_row id t r e₁ e₂ = rw (e₁, e₂) refl

-- FROM ONE PART TO THE NEXT

-- until its keys are known, each number is one

any_keys : (k : ℕ) (n : ℕ) → (let zero : Option ℕ = Some 0 in is_some (option_flatten (slice_get (replicate n zero) k)) ≡ false) → n ≤ k
any_keys k zero e = omega arith
any_keys zero (suc n) e = absurd (cc)
any_keys (suc k) (suc n) e = (let r = any_keys k n e in omega (arith, r))

beyond : (xs : List ℕ) (k : ℕ) → length xs ≤ k → get_or xs k 0 ≡ 0
beyond [] k l = refl
beyond (x ∷ xs) zero l = absurd (omega arith)
beyond (x ∷ xs) (suc k) l = beyond xs k (omega arith)

values_under_any : (o : Option Thread) → is_proper_slot o ≡ true → HasValuesOf all_keys o
values_under_any None p = λ k _. no_value k
values_under_any (Some (thread.Ended v)) p = λ k _. no_value k
values_under_any (Some (thread.Live l)) p = λ k e. beyond l.specific.values k (let n = enough_values l p in let m = any_keys k 32 e in omega (arith, n, m))

pub well_formed_any : (s : State) → IsWellFormed s → IsWellFormed (with_keys all_keys s)
well_formed_any s h = record {
  size = h.size;
  zero = h.zero;
  harts = h.harts;
  hart_count = h.hart_count;
  idle = h.idle;
  proper = h.proper;
  one_initial = h.one_initial;
  placed = h.placed;
  joined_target = h.joined_target;
  joined_by_another = h.joined_by_another;
  deadlines = h.deadlines;
  unwinding_waits = h.unwinding_waits;
  proper_keys = refl;
  values = λ t. values_under_any (option_flatten (slice_get s.threads t)) (h.proper t);
}

all_under : (keys : KeyTable) (ts : List (Option Thread)) → ((t : ℕ) → HasValuesOf keys (option_flatten (slice_get ts t))) → list_all (has_values_of keys) ts ≡ true
all_under keys [] v = refl
all_under keys (o ∷ ts) v = (let here = of_keys keys o (v 0) in let rest = all_under keys ts (λ t. v (suc t)) in grind (arith, here, rest))

-- and then its keys are set
pub keys_are_set : (s : State) → IsWellFormed s → are_all_of_keys s.keys (with_keys all_keys s) ≡ true
keys_are_set s h = all_under s.keys s.threads h.values

-- what was built with any keys is the whole with its own
pub set_whole : (s : State) (keys : KeyTable) (built : State) (was_set : Bool) (new : State) → IsWellFormed s → keys ≡ s.keys → built ≡ with_keys all_keys s
    → was_set ≡ are_all_of_keys keys built → (was_set ≡ true → new ≡ with_keys keys built) → new ≡ s
set_whole s keys built was_set new h same any exact set =
    let all : are_all_of_keys keys built ≡ true = rw (same, any) (keys_are_set s h) in
    set (exact ∙ all) ∙ rw (same, any) refl

pub threads_begin : (s : State) → IsWellFormed s → ThreadsLeadTo (empty s.keys s.hart_count) (thread_rows s) s
threads_begin s well = record { well_formed = well; rows_are = refl; no_waits = refl; idle = refl; hart_count = refl; keys = refl }

pub waits_begin : (now s : State) → ThreadsLeadTo now [] s → WaitsLeadTo now s.waits s
waits_begin now s leads = record {
  well_formed = leads.well_formed;
  threads = leads.rows_are ∙ append-nil (thread_rows now);
  waits_are = ap (λ l. l ++ s.waits) (sym leads.no_waits);
  idle = leads.idle;
  hart_count = leads.hart_count;
  keys = leads.keys;
}

pub harts_begin : (now s : State) → WaitsLeadTo now [] s → HartsLeadTo 0 now s
harts_begin now s leads = record {
  well_formed = leads.well_formed;
  threads = leads.threads;
  waits = leads.waits_are ∙ append-nil now.waits;
  harts_are = leads.idle;
  hart_count = leads.hart_count;
  keys = leads.keys;
}
