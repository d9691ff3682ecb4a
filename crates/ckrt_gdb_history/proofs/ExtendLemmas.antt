-- A history that goes on by a schedule.
use Rattle.std.proofs.Common.{◌≡◌, ℕ, zero, suc, ◌+◌, ◌-◌, ◌<◌, ◌≤◌, true, false, List, [], ◌∷◌, ◌++◌, length, Option, Some, None, refl, sym, ap, subst, ◌∙◌, arith}
use Rattle.std.proofs.lemmas.Bool.Decides.{nat_tests}
use Rattle.std.proofs.lemmas.List.{length_push}
use Rattle.std.specs.Prelude.{if◌then◌else◌, nat_lt, Result, Ok, Err}
use Rattle.ckrt_events.specs.declared.event.Event.{Event}
use Rattle.ckrt_machine.specs.Events.{step}
use Rattle.ckrt_schedule.specs.declared.next.Next.{Next}
use Rattle.ckrt_schedule.specs.declared.next.Next.TheVariants.{Submit, End}
use Rattle.ckrt_schedule.specs.declared.next.ScheduleEnd.{ScheduleEnd}
use Rattle.ckrt_schedule.specs.declared.schedule.Schedule.{Schedule}
use Rattle.ckrt_gdb_history.specs.declared.forking.AppendFault.{AppendFault}
use Rattle.ckrt_gdb_history.specs.declared.forking.AppendFault.TheVariants.{NotAtEnd}
use Rattle.ckrt_gdb_history.specs.Positions.{History, end_of}
use Rattle.ckrt_gdb_history.specs.Forks.{append_fault, ending_with, last_state, with_event}
use Rattle.ckrt_gdb_history.specs.Extended.{AreBySchedule, Extended, GoesBySchedule, extended, extended_by, extension, going_on, next_in, over, unless_refused}
use Rattle.ckrt_gdb_history.proofs.ForkLemmas.{state_with, taken}

-- ONE EVENT

module _ (old new : History) (next : Next) (more : History → Extended) where
  pub one_made : (e : Event) → next ≡ Submit e → append_fault e old ≡ None → new ≡ with_event e old → extended_by more next old ≡ going_on more None new
  one_made e is none made = ap (λ x. extended_by more x old) is ∙ ap (λ f. unless_refused more e f old) none ∙ ap more (sym made)

  pub one_refused : (e : Event) (why : AppendFault) → next ≡ Submit e → append_fault e old ≡ Some why → new ≡ old → extended_by more next old ≡ going_on more (Some (Err why)) new
  one_refused e why is some same = ap (λ x. extended_by more x old) is ∙ ap (λ f. unless_refused more e f old) some ∙ ap (over (Err why)) (sym same)

  pub none_next : (end : ScheduleEnd) → next ≡ End end → new ≡ old → extended_by more next old ≡ going_on more (Some (Ok end)) new
  none_next end is same = ap (λ x. extended_by more x old) is ∙ ap (over (Ok end)) (sym same)

-- behind an event that was appended it stands at the end
pub at_its_end : (e : Event) (old new : History) → new ≡ with_event e old → length new.events ≤ new.position.events
at_its_end e old new is = subst (λ (h : History). length h.events ≤ h.position.events) (sym is) (omega arith)

-- MANY

pub one_more : (n : ℕ) (u : Schedule) (first : ℕ) (old new : History) (r : Option (Result ScheduleEnd AppendFault)) → 0 < n
    → ((more : History → Extended) → extended_by more (next_in u first old) old ≡ going_on more r new) → extended n u first old ≡ going_on (extended (n - 1) u first) r new
one_more zero u first old new r some step = absurd (omega (arith, some))
one_more (suc n) u first old new r some step = (let less : suc n - 1 ≡ n = omega arith in rw less (step (extended n u first)))

pub from_the_end : (most : ℕ) (u : Schedule) (first : ℕ) (h : History) → length h.events ≤ h.position.events → extension most u first h ≡ extended most u first h
from_the_end most u first h all =
    let no : nat_lt h.position.events (length h.events) ≡ false = grind (arith, nat_tests, all) in
    ap (λ b. if b then over (Err NotAtEnd) h else extended most u first h) no

pub before_the_end : (most : ℕ) (u : Schedule) (first : ℕ) (h : History) → h.position.events < length h.events → extension most u first h ≡ over (Err NotAtEnd) h
before_the_end most u first h before =
    let yes : nat_lt h.position.events (length h.events) ≡ true = grind (arith, nat_tests, before) in
    ap (λ b. if b then over (Err NotAtEnd) h else extended most u first h) yes

-- BY THE SCHEDULE

none_behind : (es : List Event) → es ++ [] ≡ es
none_behind [] = refl
none_behind (e ∷ es) = ap (λ l. e ∷ l) (none_behind es)

one_by_one : (es : List Event) (e : Event) (more : List Event) → (es ++ e ∷ []) ++ more ≡ es ++ e ∷ more
one_by_one [] e more = refl
one_by_one (x ∷ es) e more = ap (λ l. x ∷ l) (one_by_one es e more)

-- without an event a history at its end stays as it is
same_history : (h : History) → h.position ≡ end_of h.events → h ≡ ending_with (h.events ++ []) h
same_history h end =
    let is = sym (none_behind h.events) in
    λ i. record { start = h.start; events = is i; position = (end ∙ ap end_of is) i; most = h.most }

no_event : (most : ℕ) (u : Schedule) (first : ℕ) (h : History) → h.position ≡ end_of h.events → GoesBySchedule most u first h h
no_event most u first h end = record { events = []; history = same_history h end; by_schedule = tt; few = omega arith }

-- an event that is next, and then what follows
one_first : (most : ℕ) (u : Schedule) (first : ℕ) (h : History) (e : Event) (new : History) → next_in u first h ≡ Submit e → append_fault e h ≡ None → GoesBySchedule most u first (with_event e h) new
    → GoesBySchedule (suc most) u first h new
one_first most u first h e new is none rest =
    let pushed = length_push h.events e in let few = rest.few in
    let count : first + length (h.events ++ e ∷ []) ≡ suc (first + length h.events) = omega (arith, pushed) in
    let by = subst (λ n. AreBySchedule u n rest.events (last_state (with_event e h))) count rest.by_schedule in
    record {
      events = e ∷ rest.events;
      history = rest.history ∙ ap (λ es. ending_with es h) (one_by_one h.events e rest.events);
      by_schedule = (is, (taken e h none).accepted, subst (AreBySchedule u (suc (first + length h.events)) rest.events) (state_with e h.events h.start) by);
      few = omega (arith, few);
    }

after_event : (most : ℕ) (u : Schedule) (first : ℕ) (h : History) (e : Event) (f : Option AppendFault) → h.position ≡ end_of h.events → next_in u first h ≡ Submit e → append_fault e h ≡ f
    → GoesBySchedule most u first (with_event e h) (extended most u first (with_event e h)).history → GoesBySchedule (suc most) u first h (unless_refused (extended most u first) e f h).history
after_event most u first h e None end is none rest = one_first most u first h e (extended most u first (with_event e h)).history is none rest
after_event most u first h e (Some why) end is some rest = no_event (suc most) u first h end

after : (most : ℕ) (u : Schedule) (first : ℕ) (h : History) (next : Next) → h.position ≡ end_of h.events → next_in u first h ≡ next
    → ((e : Event) → GoesBySchedule most u first (with_event e h) (extended most u first (with_event e h)).history) → GoesBySchedule (suc most) u first h (extended_by (extended most u first) next h).history
after most u first h (Submit e) end is go = after_event most u first h e (append_fault e h) end is refl (go e)
after most u first h (End ending) end is go = no_event (suc most) u first h end

extended_goes : (most : ℕ) (u : Schedule) (first : ℕ) (h : History) → h.position ≡ end_of h.events → GoesBySchedule most u first h (extended most u first h).history
extended_goes zero u first h end = no_event 0 u first h end
extended_goes (suc most) u first h end = after most u first h (next_in u first h) end refl (λ e. extended_goes most u first (with_event e h) refl)

pub goes_by_schedule : (most : ℕ) (u : Schedule) (first : ℕ) (h : History) → h.position ≡ end_of h.events → GoesBySchedule most u first h (extension most u first h).history
goes_by_schedule most u first h end =
    let all : length h.events ≤ h.position.events = subst (λ p. length h.events ≤ p.events) (sym end) (omega arith) in
    subst (λ (x : Extended). GoesBySchedule most u first h x.history) (sym (from_the_end most u first h all)) (extended_goes most u first h end)
