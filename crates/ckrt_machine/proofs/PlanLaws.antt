-- One thread of a search for one that is ready; who is planned is accepted.
use Rattle.std.proofs.Common.{◌≡◌, ℕ, zero, suc, ◌+◌, ◌-◌, ◌<◌, ◌&&◌, nat_lt, nat_le, Bool, true, false, Option, Some, None, is_none, ap, arith, cond, refl}
use Rattle.std.proofs.lemmas.Bool.Decides.{nat_tests}
use Rattle.ckrt_thread.specs.declared.records.Thread.{Thread}
use Rattle.ckrt_thread.specs.State as threads
use Rattle.ckrt_thread.proofs.Known.{ready_live}
use Rattle.ckrt_calls.specs.declared.table.Tables.{Tables}
use Rattle.ckrt_events.specs.declared.event.Event.TheVariants.{Place}
use Rattle.ckrt_machine.specs.Steps.{State, hart_of}
use Rattle.ckrt_machine.specs.Runs.{is_running}
use Rattle.ckrt_machine.specs.Refusals.{refusal_of}
use Rattle.ckrt_machine.specs.Plans.{ready_from, least_ready, or_else, or_zero, next_ready, planned}

step_of : (t : ℕ) (s : threads.State) (b : Bool) → t < 65 → threads.is_ready s t ≡ b → least_ready t s ≡ cond b (Some t) (least_ready (t + 1) s)
step_of t s b l e =
    let left : 65 - t ≡ suc (65 - (t + 1)) = omega arith in
    rw left (ap (λ x. cond x (Some t) (ready_from (65 - (t + 1)) (t + 1) s)) e)

pub found : (t : ℕ) (s : threads.State) → t < 65 → threads.is_ready s t ≡ true → least_ready t s ≡ Some t
found t s l e = step_of t s true l e

pub passed : (t : ℕ) (s : threads.State) → t < 65 → threads.is_ready s t ≡ false → least_ready t s ≡ least_ready (t + 1) s
passed t s l e = step_of t s false l e

-- WHO IS FOUND is ready

by_first : (b : Bool) (n t u : ℕ) (s : threads.State) → threads.is_ready s t ≡ b → cond b (Some t) (ready_from n (t + 1) s) ≡ Some u → (ready_from n (t + 1) s ≡ Some u → threads.is_ready s u ≡ true) → threads.is_ready s u ≡ true
by_first true n t u s r e more = (let same : u ≡ t = cc in rw same r)
by_first false n t u s r e more = more e

pub ready_found : (n t u : ℕ) (s : threads.State) → ready_from n t s ≡ Some u → threads.is_ready s u ≡ true
ready_found zero t u s e = absurd (cc)
ready_found (suc n) t u s e = by_first (threads.is_ready s t) n t u s refl e (ready_found n (t + 1) u s)

either : (o p : Option ℕ) (t : ℕ) (s : threads.State) → (o ≡ Some t → threads.is_ready s t ≡ true) → (p ≡ Some t → threads.is_ready s t ≡ true) → or_else o p ≡ Some t → threads.is_ready s t ≡ true
either None p t s f g e = g e
either (Some u) p t s f g e = f e

pub next_is_ready : (h t : ℕ) (s : Tables) → next_ready h s ≡ Some t → threads.is_ready s.threads t ≡ true
next_is_ready h t s e = either (least_ready (or_zero (hart_of s h) + 1) s.threads) (least_ready 1 s.threads) t s.threads (ready_found (65 - (or_zero (hart_of s h) + 1)) (or_zero (hart_of s h) + 1) t s.threads) (ready_found (65 - 1) 1 t s.threads) e

-- WHO IS PLANNED is accepted

given : (b : Bool) (o : Option ℕ) (t : ℕ) → cond b o None ≡ Some t → (b ≡ true) × (o ≡ Some t)
given true o t e = (refl, e)
given false o t e = absurd (cc)

both : (b c : Bool) → (b && c) ≡ true → (b ≡ true) × (c ≡ true)
both true c e = (refl, e)
both false c e = absurd (cc)

is_there : (o : Option Thread) → threads.is_live_thread o ≡ true → is_none o ≡ false
is_there None e = absurd (cc)
is_there (Some t) e = refl

below : (h n : ℕ) → nat_lt h n ≡ true → nat_le n h ≡ false
below h n e = grind (arith, nat_tests)

pub planned_accepted : (held h t : ℕ) (s : State) → planned h s.tables ≡ Some t → refusal_of held (Place h t) s ≡ None
planned_accepted held h t s e =
    let found = given (is_running s.tables.status && nat_lt h s.tables.threads.hart_count) (next_ready h s.tables) t e in
    let may = both (is_running s.tables.status) (nat_lt h s.tables.threads.hart_count) found.0 in
    let ready = next_is_ready h t s.tables found.1 in
    let there = is_there (threads.thread_of s.tables.threads t) (ready_live s.tables.threads t ready) in
    rw (may.0, below h s.tables.threads.hart_count may.1, there, ready) refl
