-- What a shadow comes to that looks at each step: what the notes of these steps come to.
use Rattle.std.proofs.Common.{◌≡◌, ◌∙◌, ◌==◌, ℕ, zero, suc, ◌+◌, false, true, List, [], ◌∷◌, Option, None, Some, refl, sym, ap, true≢false}
use Rattle.ckrt_events.specs.declared.event.Event.{Event}
use Rattle.ckrt_events.specs.declared.event.Event.TheVariants.{Place as Placing, Run, Input, Eof, Tick, RunLong}
use Rattle.ckrt_machine.specs.Events as machine
use Rattle.ckrt_machine.specs.declared.event.RunEnd.{RunEnd}
use Rattle.ckrt_machine.specs.Runs.{stop_of, with_byte}
use Rattle.ckrt_machine.specs.Steps.{State, hart_step}
use Rattle.ckrt_look_calls.specs.Walks as walks
use Rattle.ckrt_look_calls.specs.Rooms.{slots_in, words_of}
use Rattle.ckrt_look_heap.specs.Recorded.{FillsRoom, fresh_for, heap_behind}
use Rattle.ckrt_look_heap.specs.Steps.{after_step, at, has_ended, of_end, of_event, of_events, of_run, of_step, unless_ended}
use Rattle.ckrt_look_heap.specs.Within.{Noted, is_full, noted_all}
use Rattle.ckrt_look_heap.specs.declared.shadow.Note.{Note}
use Rattle.ckrt_look_heap.proofs.BehindLemmas.{behind_both}
use Rattle.ckrt_look_heap.proofs.WithinLemmas.{end_keeps_the_room, nothing_left_out}

run_noted : (k n made h : ℕ) (s : State) (out : List ℕ) (w : Noted)
    → walks.after_run after_step n h (at k made) (record { state = s; output = out }) w ≡ noted_all (of_run k n made h s out) w
run_noted k zero made h s out w = refl
run_noted k (suc n) made h s out w =
    let new : State = (hart_step h s).state in let put : List ℕ = with_byte (hart_step h s).put out in let one : Noted = noted_all (of_step (at k made) h s) w in
    go (stop_of h new.tables put) one (walks.after_run after_step n h (at k (suc made)) (record { state = new; output = put }) one) (of_run k n (suc made) h new put) (run_noted k n (suc made) h new put one)
    ∙ sym (behind_both (of_step (at k made) h s) (unless_ended (stop_of h new.tables put) (of_run k n (suc made) h new put)) w)
  where
    go : (o : Option RunEnd) (one more : Noted) (ns : List Note) → more ≡ noted_all ns one → walks.unless_ended o one more ≡ noted_all (unless_ended o ns) one
    go None one more ns is = is
    go (Some how) one more ns is = refl

pub event_noted : (k : ℕ) (e : Event) (s : State) (w : Noted) → walks.after_event after_step k e s w ≡ noted_all (of_event k e s) w
event_noted k (Run h n) s w = run_noted k n 0 h s [] w
event_noted k (RunLong h n) s w = run_noted k n 0 h s [] w
event_noted k (Placing h t) s w = refl
event_noted k (Input bytes) s w = refl
event_noted k Eof s w = refl
event_noted k (Tick n) s w = refl

-- up to the end of all
pub events_noted : (k : ℕ) (es : List Event) (s : State) (w : Noted)
    → noted_all (of_end (machine.fold es s).state) (walks.after_events after_step k es s w) ≡ noted_all (of_events k es s) w
events_noted k [] s w = refl
events_noted k (e ∷ es) s w =
    events_noted (k + 1) es (machine.step e s).state (walks.after_event after_step k e s w)
    ∙ ap (λ (v : Noted). noted_all (of_events (k + 1) es (machine.step e s).state) v) (event_noted k e s w)
    ∙ sym (behind_both (of_event k e s) (of_events (k + 1) es (machine.step e s).state) w)

-- ALL EVENTS, in a room of so many bytes

-- where they use the room up, they fill it
pub fills : (room k : ℕ) (es : List Event) (s : State) → is_full (walks.after_events after_step k es s (fresh_for room k s)) ≡ true → FillsRoom room k es s
fills room k es s full =
    ap is_full (sym (events_noted k es s (fresh_for room k s)))
    ∙ end_keeps_the_room (has_ended (machine.fold es s).state.tables.status) (walks.after_events after_step k es s (fresh_for room k s)) ∙ full

-- up to the end
all_noted : (room k : ℕ) (es : List Event) (s t : State) (now new : Noted) → now ≡ walks.after_events after_step k es s (fresh_for room k s) → t ≡ (machine.fold es s).state
    → new ≡ noted_all (of_end t) now → new ≡ noted_all (of_events k es s) (fresh_for room k s)
all_noted room k es s t now new is end last =
    last ∙ ap (λ (u : State). noted_all (of_end u) now) end ∙ ap (λ (v : Noted). noted_all (of_end (machine.fold es s).state) v) is
    ∙ events_noted k es s (fresh_for room k s)

-- where they don't, they don't fill it, and the shadow is that of the whole memory
pub fills_not : (room k : ℕ) (es : List Event) (s t : State) (now new : Noted) → now ≡ walks.after_events after_step k es s (fresh_for room k s) → t ≡ (machine.fold es s).state
    → is_full now ≡ false → new ≡ noted_all (of_end t) now → FillsRoom room k es s → ⊥
fills_not room k es s t now new is end left last full =
    true≢false (sym full ∙ ap is_full (sym (all_noted room k es s t now new is end last)) ∙ ap is_full last ∙ end_keeps_the_room (has_ended t.tables.status) now ∙ left)

pub all_told : (room k : ℕ) (es : List Event) (s t : State) (now new : Noted) → now ≡ walks.after_events after_step k es s (fresh_for room k s) → t ≡ (machine.fold es s).state
    → is_full now ≡ false → new ≡ noted_all (of_end t) now → new.heap ≡ heap_behind k es s
all_told room k es s t now new is end left last =
    let all = all_noted room k es s t now new is end last in
    ap (λ (v : Noted). v.heap) all
    ∙ nothing_left_out (k == 0) (words_of s) (slots_in room 57344 (words_of s)) (of_events k es s) (ap is_full (sym all) ∙ ap is_full last ∙ end_keeps_the_room (has_ended t.tables.status) now ∙ left)
