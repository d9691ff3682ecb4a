-- The steps that are noted of events are those that the machine answers, and functions have them all.
use Rattle.std.proofs.Common.{◌≡◌, ◌<◌, ◌==◌, ℕ, zero, suc, ◌+◌, ◌-◌, Bool, true, false, if◌then◌else◌, nat_lt, List, [], ◌∷◌, ◌++◌, Option, Some, None, refl, sym, ap, ◌∙◌, subst, arith}
use Rattle.std.proofs.lemmas.List.Sums.{sum_by-cons}
use Rattle.std.specs.List.{sum_by}
use Rattle.ckrt_registers.specs.Registers.{Registers}
use Rattle.ckrt_thread.specs.State as threads
use Rattle.ckrt_thread.specs.declared.records.Wait.{Wait}
use Rattle.ckrt_events.specs.declared.event.Event.{Event}
use Rattle.ckrt_events.specs.declared.event.Event.TheVariants as event
use Rattle.ckrt_machine.specs.Events as machine
use Rattle.ckrt_machine.specs.declared.event.RunEnd.{RunEnd}
use Rattle.ckrt_machine.specs.Runs.{run_on, stop_of, stopped, with_byte}
use Rattle.ckrt_machine.specs.Steps.{State, hart_of, hart_step}
use Rattle.ckrt_look_recording.specs.Quiet.{is_quiet}
use Rattle.ckrt_look_profile.specs.declared.counts.Note.{Note}
use Rattle.ckrt_look_profile.specs.declared.counts.Note.TheVariants as note
use Rattle.ckrt_look_profile.specs.declared.functions.Function.{Function}
use Rattle.ckrt_look_profile.specs.declared.row.Row.{Row}
use Rattle.ckrt_look_profile.specs.declared.shares.Share.{Share}
use Rattle.ckrt_look_profile.specs.Functions.{first_of, functions_behind, functions_of, joined, with_stack}
use Rattle.ckrt_look_profile.specs.CountLaws.{CountsSteps, steps_in}
use Rattle.ckrt_look_profile.specs.Shares.{function_share, function_shares, functions, placed, ranked, ranked_behind}
use Rattle.ckrt_look_profile.proofs.CountSumLemmas.{each_counts_once}
use Rattle.ckrt_look_profile.specs.Steps.{looks, looks_at, met_at, met_up_to, notes, of_event, of_events, of_run, of_step, unless_ended}
use Rattle.ckrt_look_profile.specs.Recorded.{counted_of}
use Rattle.ckrt_look_profile.specs.Laws.{FunctionsHaveAllSteps, SumsAreTheSteps, share_steps, steps_made, steps_of}

-- STEPS IN NOTES

both : (xs ys : List Note) → steps_in (xs ++ ys) ≡ steps_in xs + steps_in ys
both [] ys = omega arith
both (note.Met t p ∷ xs) ys = both xs ys
both (note.Step s ∷ xs) ys = (let rest = both xs ys in omega (arith, rest))
both (note.Wait t a ∷ xs) ys = both xs ys
both (note.Looked ∷ xs) ys = both xs ys

no_looks : (ws : List Wait) → steps_in (looks ws) ≡ 0
no_looks [] = refl
no_looks (w ∷ ws) = no_looks ws

no_met : (t : ℕ) (s : State) → steps_in (met_up_to t s) ≡ 0
no_met zero s = refl
no_met (suc t) s = both (met_up_to t s) (met_at (t + 1) (threads.regs_of (threads.thread_of s.tables.threads (t + 1))))
    ∙ ap (λ n. n + steps_in (met_at (t + 1) (threads.regs_of (threads.thread_of s.tables.threads (t + 1))))) (no_met t s)
    ∙ none (threads.regs_of (threads.thread_of s.tables.threads (t + 1)))
  where
    none : (o : Option Registers) → 0 + steps_in (met_at (t + 1) o) ≡ 0
    none None = refl
    none (Some r) = refl

one_step : (h : ℕ) (s : State) → steps_in (of_step h s) ≡ 1
one_step h s = go (is_quiet (hart_of s.tables h) s)
  where
    go : (b : Bool) → 1 + steps_in (if b then [] else looks_at s) ≡ 1
    go true = refl
    go false = ap (λ n. 1 + n) (no_looks s.tables.threads.waits)

-- A RUN: what is left, and what was made

run_steps : (n h : ℕ) (s : State) (out : List ℕ) → (run_on n h s out).left + steps_in (of_run n h s out) ≡ n
run_steps zero h s out = refl
run_steps (suc n) h s out =
    let e = hart_step h s in
    let o : List ℕ = with_byte e.put out in
    let rest = run_steps n h e.state o in
    let behind : (w : Option RunEnd) → (stopped (run_on n) w n h e.state o).left + steps_in (unless_ended w (of_run n h e.state o)) ≡ n =
    λ w. behind_stop n h e.state o w rest in
    let all = both (of_step h s) (unless_ended (stop_of h e.state.tables o) (of_run n h e.state o)) in
    let one = one_step h s in
    let last = behind (stop_of h e.state.tables o) in
    omega (arith, all, one, last)
  where
    behind_stop : (n h : ℕ) (t : State) (o : List ℕ) (w : Option RunEnd) → (run_on n h t o).left + steps_in (of_run n h t o) ≡ n
        → (stopped (run_on n) w n h t o).left + steps_in (unless_ended w (of_run n h t o)) ≡ n
    behind_stop n h t o None rest = rest
    behind_stop n h t o (Some how) rest = omega arith

-- AN EVENT

run_made : (n h : ℕ) (s : State) → steps_in (of_run n h s []) ≡ n - (run_on n h s []).left
run_made n h s = (let all = run_steps n h s [] in omega (arith, all))

event_steps : (e : Event) (s : State) → steps_in (of_event e s) ≡ steps_of (machine.step e s).answer
event_steps (event.Place h t) s = no_looks s.tables.threads.waits
event_steps (event.Run h n) s = run_made n h s
event_steps (event.RunLong h n) s = run_made n h s
event_steps (event.Input bytes) s = no_looks s.tables.threads.waits
event_steps event.Eof s = no_looks s.tables.threads.waits
event_steps (event.Tick k) s = no_looks s.tables.threads.waits

events_steps : (es : List Event) (s : State) → steps_in (of_events es s) ≡ steps_made es s
events_steps [] s = no_looks s.tables.threads.waits
events_steps (e ∷ es) s =
    let z = (machine.step e s).state in
    both (of_event e s) (of_events es z) ∙ ap (λ n. n + steps_in (of_events es z)) (event_steps e s) ∙ ap (λ n. steps_of (machine.step e s).answer + n) (events_steps es z)

notes_steps : (es : List Event) (s : State) → steps_in (notes es s) ≡ steps_made es s
notes_steps es s = both (met_up_to 64 s) (of_events es s) ∙ ap (λ n. n + steps_in (of_events es s)) (no_met 64 s) ∙ omega arith ∙ events_steps es s

pub sums_steps : SumsAreTheSteps
sums_steps es s less =
    let all = notes_steps es s in
    subst (CountsSteps (counted_of es s)) all (each_counts_once (notes es s) (omega (arith, all, less)))

-- FUNCTIONS

abbrev row_steps : List Row → ℕ
row_steps rs = sum_by (λ (r : Row). r.steps) rs

abbrev all_steps : List Function → ℕ
all_steps fs = sum_by (λ (f : Function). f.steps) fs

-- with a stack more
stack_steps : (r : Row) (fs : List Function) → r.steps + all_steps fs < 18446744073709551616 → all_steps (with_stack r fs) ≡ r.steps + all_steps fs
stack_steps r [] less = sum_by-cons (λ (f : Function). f.steps) (first_of r) []
stack_steps r (f ∷ fs) less =
    let all : all_steps (f ∷ fs) ≡ f.steps + all_steps fs = sum_by-cons (λ (g : Function). g.steps) f fs in
    go (f.entry == r.entry) all (stack_steps r fs (omega (arith, all, less)))
  where
    go : (t : Bool) → all_steps (f ∷ fs) ≡ f.steps + all_steps fs → all_steps (with_stack r fs) ≡ r.steps + all_steps fs
        → all_steps (if t then joined f r ∷ fs else f ∷ with_stack r fs) ≡ r.steps + all_steps (f ∷ fs)
    go true all rest = sum_by-cons (λ (g : Function). g.steps) (joined f r) fs ∙ omega (arith, all, less)
    go false all rest = sum_by-cons (λ (g : Function). g.steps) f (with_stack r fs) ∙ omega (arith, all, rest)

-- with many
stacks_steps : (rs : List Row) (fs : List Function) → row_steps rs + all_steps fs < 18446744073709551616 → all_steps (functions_behind fs rs) ≡ row_steps rs + all_steps fs
stacks_steps [] fs less = let none : row_steps [] ≡ 0 = refl in omega (arith, none)
stacks_steps (r ∷ rs) fs less =
    let all : row_steps (r ∷ rs) ≡ r.steps + row_steps rs = sum_by-cons (λ (x : Row). x.steps) r rs in
    let one : all_steps (with_stack r fs) ≡ r.steps + all_steps fs = stack_steps r fs (omega (arith, all, less)) in
    let rest = stacks_steps rs (with_stack r fs) (omega (arith, all, one, less)) in
    omega (arith, all, one, rest)

shared_steps : (fs : List Function) → share_steps (function_shares fs) ≡ all_steps fs
shared_steps [] = refl
shared_steps (f ∷ fs) =
    sum_by-cons (λ (x : Share). x.steps) (function_share f) (function_shares fs) ∙ ap (λ n. f.steps + n) (shared_steps fs)
    ∙ sym (sum_by-cons (λ (g : Function). g.steps) f fs)

function_steps : (rs : List Row) → row_steps rs < 18446744073709551616 → share_steps (functions rs) ≡ row_steps rs
function_steps rs less = shared_steps (functions_of rs) ∙ stacks_steps rs [] (omega (arith, less)) ∙ omega arith

placed_steps : (x : Share) (ys : List Share) → share_steps (placed x ys) ≡ x.steps + share_steps ys
placed_steps x [] = omega arith
placed_steps x (y ∷ ys) = go (nat_lt y.steps x.steps) (placed_steps x ys)
  where
    go : (t : Bool) → share_steps (placed x ys) ≡ x.steps + share_steps ys → share_steps (if t then x ∷ y ∷ ys else y ∷ placed x ys) ≡ x.steps + share_steps (y ∷ ys)
    go true rest = sum_by-cons (λ (z : Share). z.steps) x (y ∷ ys)
    go false rest = sum_by-cons (λ (z : Share). z.steps) y (placed x ys) ∙ (let all = sum_by-cons (λ (z : Share). z.steps) y ys in omega (arith, rest, all))

ranked_steps : (xs before : List Share) → share_steps (ranked_behind before xs) ≡ share_steps before + share_steps xs
ranked_steps [] before = omega arith
ranked_steps (x ∷ xs) before =
    let rest = ranked_steps xs (placed x before) in
    let new = placed_steps x before in
    let all = sum_by-cons (λ (z : Share). z.steps) x xs in
    omega (arith, rest, new, all)

pub functions_steps : FunctionsHaveAllSteps
functions_steps es s less =
    let c = counted_of es s in
    let sums = sums_steps es s less in
    let rs = c.stacks.rows in
    let fits : row_steps rs < 18446744073709551616 = omega (arith, sums.by_stack, less) in
    let functions_all : share_steps (ranked (functions rs)) ≡ row_steps rs = ranked_steps (functions rs) [] ∙ omega arith ∙ function_steps rs fits in
    ap (λ n. n + c.stacks.unkept) functions_all ∙ sums.by_stack
