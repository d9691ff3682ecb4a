-- The places of operations rise, from step to step and from event to event.
use Rattle.std.proofs.Common.{◌≡◌, ◌≤◌, ℕ, zero, suc, ◌+◌, ◌*◌, ◌^◌, Bool, true, false, if◌then◌else◌, List, [], ◌∷◌, ◌++◌, length, Option, Some, None, refl, sym, ap, subst, arith}
use Rattle.std.specs.List.{AllByRecursion}
use Rattle.ckrt_registers.specs.Registers.{Registers, get}
use Rattle.ckrt_rv32i.specs.declared.instruction.Instr.{Instr}
use Rattle.ckrt_rv32i.specs.declared.instruction.Instr.TheVariants as instr
use Rattle.ckrt_rv32i.specs.declared.memory_bus.Size.{Size}
use Rattle.ckrt_rv32i.specs.Effect.{load_size}
use Rattle.ckrt_rv32i.specs.Words.{word_add_signed}
use Rattle.ckrt_thread.specs.State as threads
use Rattle.ckrt_events.specs.Bytes.{IsInRange}
use Rattle.ckrt_events.specs.declared.event.Event.{Event}
use Rattle.ckrt_events.specs.declared.event.Event.TheVariants as event
use Rattle.ckrt_machine.specs.Events as machine
use Rattle.ckrt_machine.specs.declared.event.RunEnd.{RunEnd}
use Rattle.ckrt_machine.specs.Runs.{stop_of, with_byte}
use Rattle.ckrt_machine.specs.Steps.{State, hart_of, hart_step}
use Rattle.ckrt_look_recording.specs.Quiet.{is_quiet}
use Rattle.ckrt_look_clocks.specs.declared.operation.Place.{Place}
use Rattle.ckrt_look_clocks.specs.declared.operation.Operation.{Operation}
use Rattle.ckrt_look_clocks.specs.declared.operation.Operation.TheVariants as operation
use Rattle.ckrt_look_clocks.specs.Detection.{Found, Watched, behind_all, watched}
use Rattle.ckrt_look_clocks.specs.Histories.{History, moment}
use Rattle.ckrt_look_clocks.specs.Laws.{HasNumbers, IsOrderly, IsRaceOf, moment_of, next_moment}
use Rattle.ckrt_look_clocks.proofs.RaceLemmas.{only_races}
use Rattle.ckrt_look_races.specs.declared.accesses.Stepping.{Stepping}
use Rattle.ckrt_look_races.specs.declared.accesses.Order.{Order}
use Rattle.ckrt_look_races.specs.declared.accesses.Order.TheVariants as order
use Rattle.ckrt_look_races.specs.declared.holders.Lock.TheVariants as lock
use Rattle.ckrt_look_recording.specs.Accesses.{fetched, may_access}
use Rattle.ckrt_look_races.specs.Accesses.{access_of, accesses, fence_by, fence_operations, is_renewal, is_thread_fence, load_at, load_operations, load_order, of_instruction, of_registers, renewal, store_at, store_operations, store_order}
use Rattle.ckrt_look_races.specs.Holders.{HOLDERS}
use Rattle.ckrt_look_races.specs.Kit.{is_in_kit}
use Rattle.ckrt_look_races.specs.Orders.{between}
use Rattle.ckrt_look_races.specs.Steps.{at, before_step, of_event, of_events, of_other, of_run, of_step, unless_ended}
use Rattle.ckrt_look_calls.specs.Rooms.{words_of}
use Rattle.ckrt_look_races.specs.Laws.{FoundIsOfTheHistory, HistoriesAreOrderly, OnlyRacesAreTold, history_of, latest_first}
use Rattle.ckrt_look_races.proofs.NumberLemmas.{ArePassesAt, between_passes, lock_number, thread_number, waits_pass}

-- when the next one may come
abbrev pub next_of : Operation → ℕ
next_of (operation.Access a) = moment a.place + 1
next_of (operation.Pass from to p) = moment p
next_of (operation.Renew b) = moment b.place
next_of (operation.Lock l p) = moment p

-- in order, from a moment on, to another
abbrev pub Rises : (m : ℕ) → List Operation → (e : ℕ) → Type 0
Rises m [] e = m ≤ e
Rises m (o ∷ os) e = HasNumbers HOLDERS o × (m ≤ moment_of o) × Rises (next_of o) os e

earlier : (k m : ℕ) (os : List Operation) (e : ℕ) → k ≤ m → Rises m os e → Rises k os e
earlier k m [] e le up = omega (arith, le, up)
earlier k m (o ∷ os) e le up = (up.0, omega (arith, le, up.1), up.2)

further : (m : ℕ) (os : List Operation) (e f : ℕ) → e ≤ f → Rises m os e → Rises m os f
further m [] e f le up = omega (arith, le, up)
further m (o ∷ os) e f le up = (up.0, up.1, further (next_of o) os e f le up.2)

both : (m : ℕ) (xs ys : List Operation) (e f : ℕ) → Rises m xs e → Rises e ys f → Rises m (xs ++ ys) f
both m [] ys e f up also = earlier m e ys f up also
both m (x ∷ xs) ys e f up also = (up.0, up.1, both (next_of x) xs ys e f up.2 also)

-- WHAT ORDERS, AT ONE PLACE

passes_rise : (p : Place) (m : ℕ) (os : List Operation) → m ≤ moment p → ArePassesAt p os → Rises m os (moment p + 1)
passes_rise p m [] le are = omega (arith, le)
passes_rise p m (operation.Access a ∷ os) le are = absurd are.0
passes_rise p m (operation.Renew b ∷ os) le are = absurd are.0
passes_rise p m (operation.Lock l q ∷ os) le are =
    let same : moment q ≡ moment p = ap moment are.0 in
    (tt, omega (arith, same, le), passes_rise p (moment q) os (omega (arith, same)) are.1)
passes_rise p m (operation.Pass from to q ∷ os) le are =
    let same : moment q ≡ moment p = ap moment are.0.2 in
    ((are.0.0, are.0.1), omega (arith, same, le), passes_rise p (moment q) os (omega (arith, same)) are.1)

-- WHAT IS ACCESSED, AT ONE PLACE

abbrev pub IsAtMostOne : Place → List Operation → Type 0
IsAtMostOne p os = Rises (moment p) os (moment p + 1)

nothing_rises : (p : Place) → IsAtMostOne p []
nothing_rises p = omega arith

if_so : (p : Place) (b : Bool) (os : List Operation) → IsAtMostOne p os → IsAtMostOne p (if b then os else [])
if_so p true os up = up
if_so p false os up = nothing_rises p

told_rises : (s : Stepping) (b : Bool) (o : Operation) → IsAtMostOne s.place (o ∷ []) → IsAtMostOne s.place (if b then [] else o ∷ [])
told_rises s true o up = nothing_rises s.place
told_rises s false o up = up

loads_rise : (s : Stepping) (o : Order) (a : ℕ) (z : Size) → IsAtMostOne s.place (load_operations s o a z)
loads_rise s order.Plain a z = told_rises s s.is_in_kit (operation.Access (access_of s false false a z)) (thread_number s.thread, omega arith, omega arith)
loads_rise s order.Relaxed a z = ((lock_number (lock.Word a), lock_number (lock.Loaded s.thread)), omega arith, (thread_number s.thread, omega arith, omega arith))
loads_rise s order.Orders a z = ((lock_number (lock.Word a), omega (arith, thread_number s.thread)), omega arith, (thread_number s.thread, omega arith, omega arith))

stores_rise : (s : Stepping) (o : Order) (a : ℕ) (z : Size) → IsAtMostOne s.place (store_operations s o a z)
stores_rise s order.Plain a z = told_rises s s.is_in_kit (operation.Access (access_of s true false a z)) (thread_number s.thread, omega arith, omega arith)
stores_rise s order.Relaxed a z = (thread_number s.thread, omega arith, ((lock_number (lock.Fenced s.thread), lock_number (lock.Word a)), omega arith, omega arith))
stores_rise s order.Orders a z = (thread_number s.thread, omega arith, ((omega (arith, thread_number s.thread), lock_number (lock.Word a)), omega arith, omega arith))

load_rises : (bytes : List ℕ) (s : Stepping) (a : ℕ) (z : Size) → IsAtMostOne s.place (load_at bytes s a z)
load_rises bytes s a z = if_so s.place (may_access bytes a z) (load_operations s (load_order bytes s) a z) (loads_rise s (load_order bytes s) a z)

store_rises : (bytes : List ℕ) (s : Stepping) (a : ℕ) (z : Size) → IsAtMostOne s.place (store_at bytes s a z)
store_rises bytes s a z = if_so s.place (may_access bytes a z) (store_operations s (store_order bytes s) a z) (stores_rise s (store_order bytes s) a z)

fence_rises : (s : Stepping) (sets : ℕ) → IsAtMostOne s.place (fence_by s sets)
fence_rises s sets = if_so s.place (is_thread_fence sets) (fence_operations s)
    ((lock_number (lock.Loaded s.thread), omega (arith, thread_number s.thread)), omega arith, ((omega (arith, thread_number s.thread), lock_number (lock.Fenced s.thread)), omega arith, omega arith))

instruction_rises : (bytes : List ℕ) (s : Stepping) (o : Option Instr) → IsAtMostOne s.place (of_instruction bytes s o)
instruction_rises bytes s (Some (instr.Load k rd rs1 offset)) = load_rises bytes s (word_add_signed (get s.regs rs1) offset) (load_size k)
instruction_rises bytes s (Some (instr.Store z rs1 rs2 offset)) = store_rises bytes s (word_add_signed (get s.regs rs1) offset) z
instruction_rises bytes s (Some (instr.Lui rd imm)) = nothing_rises s.place
instruction_rises bytes s (Some (instr.Auipc rd imm)) = nothing_rises s.place
instruction_rises bytes s (Some (instr.Jal rd offset)) = nothing_rises s.place
instruction_rises bytes s (Some (instr.Jalr rd rs1 offset)) = nothing_rises s.place
instruction_rises bytes s (Some (instr.Branch c rs1 rs2 offset)) = nothing_rises s.place
instruction_rises bytes s (Some (instr.AluImm op rd rs1 imm)) = nothing_rises s.place
instruction_rises bytes s (Some (instr.Shift op rd rs1 shamt)) = nothing_rises s.place
instruction_rises bytes s (Some (instr.Alu op rd rs1 rs2)) =
    if_so s.place (is_renewal op rd) (renewal s (get s.regs rs1) (get s.regs rs2)) (tt, omega arith, omega arith)
instruction_rises bytes s (Some (instr.Fence rd rs1 sets)) = fence_rises s sets
instruction_rises bytes s (Some instr.Ecall) = nothing_rises s.place
instruction_rises bytes s (Some instr.Ebreak) = nothing_rises s.place
instruction_rises bytes s None = nothing_rises s.place

registers_rise : (t : ℕ) (k : Bool) (p : Place) (bytes : List ℕ) (o : Option Registers) → IsAtMostOne p (of_registers t k p bytes o)
registers_rise t k p bytes None = nothing_rises p
registers_rise t k p bytes (Some r) = instruction_rises bytes (record { thread = t; is_in_kit = k; place = p; regs = r }) (fetched bytes r.pc)

accesses_rise : (p : Place) (o : Option ℕ) (s : State) → IsAtMostOne p (accesses p o s)
accesses_rise p None s = nothing_rises p
accesses_rise p (Some t) s = registers_rise t (is_in_kit t s.tables) p s.bytes (threads.regs_of (threads.thread_of s.tables.threads t))

-- A STEP

step_rises : (p : Place) (h : ℕ) (s : State) → IsAtMostOne p (of_step p h s)
step_rises p h s = go (is_quiet (hart_of s.tables h) s)
  where
    go : (b : Bool) → IsAtMostOne p (if b then accesses p (hart_of s.tables h) s else between p (before_step h s) (hart_step h s).state.tables)
    go true = accesses_rise p (hart_of s.tables h) s
    go false = passes_rise p (moment p) (between p (before_step h s) (hart_step h s).state.tables) (omega arith) (between_passes p (before_step h s) (hart_step h s).state.tables)

-- A RUN

unless_rises : (m e : ℕ) (o : Option RunEnd) (os : List Operation) → m ≤ e → Rises m os e → Rises m (unless_ended o os) e
unless_rises m e None os le up = up
unless_rises m e (Some how) os le up = le

run_rises : (k n made h : ℕ) (s : State) (out : List ℕ) → Rises (k * 2 ^ 32 + made) (of_run k n made h s out) (k * 2 ^ 32 + made + n)
run_rises k zero made h s out = omega arith
run_rises k (suc n) made h s out =
    let e = hart_step h s in
    let next : List ℕ = with_byte e.put out in
    let rest : Rises (k * 2 ^ 32 + made + 1) (of_run k n (suc made) h e.state next) (k * 2 ^ 32 + made + suc n) =
    further (k * 2 ^ 32 + made + 1) (of_run k n (suc made) h e.state next) (k * 2 ^ 32 + suc made + n) (k * 2 ^ 32 + made + suc n) (omega arith)
    (earlier (k * 2 ^ 32 + made + 1) (k * 2 ^ 32 + suc made) (of_run k n (suc made) h e.state next) (k * 2 ^ 32 + suc made + n) (omega arith) (run_rises k n (suc made) h e.state next)) in
    both (k * 2 ^ 32 + made) (of_step (at k made) h s) (unless_ended (stop_of h e.state.tables next) (of_run k n (suc made) h e.state next)) (k * 2 ^ 32 + made + 1) (k * 2 ^ 32 + made + suc n)
    (step_rises (at k made) h s) (unless_rises (k * 2 ^ 32 + made + 1) (k * 2 ^ 32 + made + suc n) (stop_of h e.state.tables next) (of_run k n (suc made) h e.state next) (omega arith) rest)

-- AN EVENT

of_a_run : (k n h : ℕ) (s : State) → n ≤ 1000000 → Rises (k * 2 ^ 32) (of_run k n 0 h s []) ((k + 1) * 2 ^ 32)
of_a_run k n h s few =
    further (k * 2 ^ 32) (of_run k n 0 h s []) (k * 2 ^ 32 + 0 + n) ((k + 1) * 2 ^ 32) (omega (arith, few))
    (earlier (k * 2 ^ 32) (k * 2 ^ 32 + 0) (of_run k n 0 h s []) (k * 2 ^ 32 + 0 + n) (omega arith) (run_rises k n 0 h s []))

of_another : (k : ℕ) (e : Event) (s : State) → Rises (k * 2 ^ 32) (of_other k e s) ((k + 1) * 2 ^ 32)
of_another k e s =
    let os = of_other k e s in
    further (k * 2 ^ 32) os (k * 2 ^ 32 + 0 + 1) ((k + 1) * 2 ^ 32) (omega arith)
    (passes_rise (at k 0) (k * 2 ^ 32) os (omega arith) (waits_pass (at k 0) s.tables.threads.waits (machine.step e s).state.tables))

event_rises : (k : ℕ) (e : Event) (s : State) → IsInRange e → Rises (k * 2 ^ 32) (of_event k e s) ((k + 1) * 2 ^ 32)
event_rises k (event.Run h n) s fits = of_a_run k n h s (omega (arith, fits.2))
event_rises k (event.RunLong h n) s fits = of_a_run k n h s fits.2
event_rises k (event.Place h t) s fits = of_another k (event.Place h t) s
event_rises k (event.Input bytes) s fits = of_another k (event.Input bytes) s
event_rises k event.Eof s fits = of_another k event.Eof s
event_rises k (event.Tick n) s fits = of_another k (event.Tick n) s

-- EVENTS

pub events_rise : (k : ℕ) (es : List Event) (s : State) → AllByRecursion IsInRange es → Rises (k * 2 ^ 32) (of_events k es s) ((k + length es) * 2 ^ 32)
events_rise k [] s fit = omega arith
events_rise k (e ∷ es) s fit =
    let z = (machine.step e s).state in
    both (k * 2 ^ 32) (of_event k e s) (of_events (k + 1) es z) ((k + 1) * 2 ^ 32) ((k + suc (length es)) * 2 ^ 32) (event_rises k e s fit.0)
    (further ((k + 1) * 2 ^ 32) (of_events (k + 1) es z) ((k + 1 + length es) * 2 ^ 32) ((k + suc (length es)) * 2 ^ 32) (omega arith) (events_rise (k + 1) es z fit.1))

-- THEIR HISTORY

next_is : (o : Operation) (past : History) → next_moment (o ∷ past) ≡ next_of o
next_is (operation.Access a) past = refl
next_is (operation.Pass from to p) past = refl
next_is (operation.Renew b) past = refl
next_is (operation.Lock l p) past = refl

orderly : (past : History) (os : List Operation) (m e : ℕ) → IsOrderly HOLDERS past → next_moment past ≤ m → Rises m os e → IsOrderly HOLDERS (latest_first os past)
orderly past [] m e is le up = is
orderly past (o ∷ os) m e is le up = orderly (o ∷ past) os (next_of o) e (is, up.0, omega (arith, le, up.1)) (omega (arith, next_is o past)) up.2

pub histories_orderly : HistoriesAreOrderly
histories_orderly k es s fit = orderly [] (of_events k es s) (k * 2 ^ 32) ((k + length es) * 2 ^ 32) tt (omega arith) (events_rise k es s fit)

watched_all : (os past : List Operation) (holders words : ℕ) → behind_all os (watched past holders words) ≡ watched (latest_first os past) holders words
watched_all [] past holders words = refl
watched_all (o ∷ os) past holders words = watched_all os (o ∷ past) holders words

pub found_of_history : FoundIsOfTheHistory
found_of_history k es s = ap (λ (w : Watched). w.found) (watched_all (of_events k es s) [] HOLDERS (words_of s))

pub only_races_told : OnlyRacesAreTold
only_races_told k es s fit =
    subst (λ (f : Found). AllByRecursion (IsRaceOf (history_of k es s)) f.pairs) (sym (found_of_history k es s))
    (only_races HOLDERS (words_of s) (history_of k es s) (omega arith) (histories_orderly k es s fit))
