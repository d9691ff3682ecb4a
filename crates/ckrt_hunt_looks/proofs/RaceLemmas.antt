-- What a detector has noted of a run, and that it keeps its sizes.
use Rattle.std.proofs.Common.{◌≡◌, ◌∙◌, ◌+◌, ◌/◌, ℕ, zero, suc, nat_lt, Bool, true, false, List, [], ◌∷◌, length, slice_get, slice_set, Option, Some, None, refl, sym, ap}
use Rattle.std.specs.Prelude.{if◌then◌else◌}
use Rattle.std.proofs.lemmas.List.{length-replicate, length-set}
use Rattle.ckrt_events.specs.declared.event.Event.{Event}
use Rattle.ckrt_machine.specs.Events.{step}
use Rattle.ckrt_machine.specs.Steps.{State}
use Rattle.ckrt_look_clocks.specs.declared.operation.Access.{Access}
use Rattle.ckrt_look_clocks.specs.declared.operation.Operation.{Operation}
use Rattle.ckrt_look_clocks.specs.declared.operation.Operation.TheVariants as operation
use Rattle.ckrt_look_clocks.specs.declared.shadow.Cell.{Cell}
use Rattle.ckrt_look_clocks.specs.Detection.{Watched, access_at, behind, behind_all, clock_at, clock_of, few_words, fresh, joined, no_accesses, no_clock, word_of}
use Rattle.ckrt_look_clocks.specs.Parts.{Slots, has_slot, parts_over, taking, touched, touched_parts}
use Rattle.ckrt_look_clocks.specs.Within.{Detected, fresh_within, is_full, noted_all, noted_one, noted_with, slots_for}
use Rattle.ckrt_look_clocks.proofs.SufficeLemmas.{behind_size}
use Rattle.ckrt_look_clocks.proofs.WithinLemmas.{nothing_left_out, noted_full, noted_open, within_none, within_some}
use Rattle.ckrt_look_races.specs.Holders.{HOLDERS}
use Rattle.ckrt_look_calls.specs.Rooms.{slots_in, words_of}
use Rattle.ckrt_look_races.specs.Recorded.{FillsRoom, fresh_for}
use Rattle.ckrt_look_races.specs.Steps.{of_event, of_events}
use Rattle.ckrt_look_races.proofs.BehindLemmas.{behind_both}
use Rattle.ckrt_hunt_looks.specs.Looks.{IsBehind, noted_by}
use Rattle.ckrt_hunt_looks.specs.Races.{CountsRaces, race_look, races_in, with_races}
use Rattle.ckrt_hunt_looks.specs.declared.tally.RaceTally.{RaceTally}

holders_at : (a : Access) (c : Option Cell) (w : Watched) → length (access_at a c w).clocks ≡ length w.clocks
holders_at a None w = refl
holders_at a (Some c) w = refl

holders_behind : (o : Operation) (w : Watched) → length (behind o w).clocks ≡ length w.clocks
holders_behind (operation.Access a) w = holders_at a (slice_get w.shadow (word_of a)) w
holders_behind (operation.Renew m) w = refl
holders_behind (operation.Lock l p) w = refl
holders_behind (operation.Pass from to p) w =
    length-set w.clocks to (record { seen = joined (clock_of to w.clocks).seen (clock_at from p w.clocks).seen })

-- an operation that is noted or not
kept_by : (f : Watched → ℕ) → ((o : Operation) (w : Watched) → f (behind o w) ≡ f w) → (o : Operation) (d : Detected) → f (noted_one o d).watched ≡ f d.watched
kept_by f same o d = go (is_full d) refl
  where
    s : Slots
    s = slots_for o d.watched d.slots

    on : (t : Bool) → s.is_full ≡ t → f (noted_with s o d.watched).watched ≡ f d.watched
    on true e = sym (ap (λ (v : Detected). f v.watched) (noted_full s o d.watched e))
    on false e = sym (ap (λ (v : Detected). f v.watched) (noted_open s o d.watched e)) ∙ same o d.watched

    go : (t : Bool) → is_full d ≡ t → f (noted_one o d).watched ≡ f d.watched
    go true e = sym (ap (λ (v : Detected). f v.watched) (within_none o d e))
    go false e = sym (ap (λ (v : Detected). f v.watched) (within_some o d s e refl)) ∙ on s.is_full refl

-- as many holders
same_holders : (os : List Operation) (d : Detected) → length (noted_all os d).watched.clocks ≡ length d.watched.clocks
same_holders [] d = refl
same_holders (o ∷ os) d = same_holders os (noted_one o d) ∙ kept_by (λ w. length w.clocks) holders_behind o d

-- and as many words
same_words : (os : List Operation) (d : Detected) → length (noted_all os d).watched.shadow ≡ length d.watched.shadow
same_words [] d = refl
same_words (o ∷ os) d = same_words os (noted_one o d) ∙ kept_by (λ w. length w.shadow) behind_size o d

-- and as many slots

either_keeps : {X : Type 0} (P : X → Type 0) (t : Bool) (x y : X) → P x → P y → P (if t then x else y)
either_keeps P true x y p q = p
either_keeps P false x y p q = q

taking_count : (part : ℕ) (s : Slots) → (taking part s).count ≡ s.count
taking_count part s =
    either_keeps (λ (t : Slots). t.count ≡ s.count) (nat_lt s.taken s.count) (record s { by_part = slice_set s.by_part part (Some s.taken); taken = s.taken + 1 }) (record s { is_full = true }) refl refl

touched_count : (part : ℕ) (s : Slots) → (touched part s).count ≡ s.count
touched_count part s = either_keeps (λ (t : Slots). t.count ≡ s.count) (has_slot part s) s (taking part s) refl (taking_count part s)

parts_count : (n first : ℕ) (s : Slots) → (touched_parts n first s).count ≡ s.count
parts_count zero first s = refl
parts_count (suc n) first s = touched_count (first + n) (touched_parts n first s) ∙ parts_count n first s

slots_count : (o : Operation) (w : Watched) (s : Slots) → (slots_for o w s).count ≡ s.count
slots_count (operation.Access a) w s =
    either_keeps (λ (t : Slots). t.count ≡ s.count) (nat_lt (word_of a) (length w.shadow)) (touched (word_of a / 1024) s) s (touched_count (word_of a / 1024) s) refl
slots_count (operation.Pass from to p) w s = refl
slots_count (operation.Lock k l) w s = refl
slots_count (operation.Renew m) w s = parts_count (parts_over (few_words m w.shadow) m.first) (m.first / 1024) s

one_count : (o : Operation) (d : Detected) → (noted_one o d).slots.count ≡ d.slots.count
one_count o d =
    let s = slots_for o d.watched d.slots in
    either_keeps (λ (v : Detected). v.slots.count ≡ d.slots.count) (is_full d) d (noted_with s o d.watched) refl (slots_count o d.watched d.slots)

same_slots : (os : List Operation) (d : Detected) → (noted_all os d).slots.count ≡ d.slots.count
same_slots [] d = refl
same_slots (o ∷ os) d = same_slots os (noted_one o d) ∙ one_count o d

-- THE OPERATIONS OF A RUN'S EVENTS were noted

noted : (n : ℕ) (es : List Event) (s : State) (d : Detected) → noted_by race_look n es s d ≡ noted_all (of_events n es s) d
noted n [] s d = refl
noted n (e ∷ es) s d =
    let t = (step e s).state in
    noted (n + 1) es t (noted_all (of_event n e s) d) ∙ sym (behind_both (of_event n e s) (of_events (n + 1) es t) d)

seen : (room : ℕ) (es : List Event) (s : State) (d : Detected) → IsBehind race_look room es s d → d ≡ noted_all (of_events 0 es s) (fresh_for room s)
seen room es s d is = is ∙ noted 0 es s (fresh_for room s)

-- its races are those that a shadow of all words finds
pub counts : (room : ℕ) (es : List Event) (s : State) (d : Detected) (seed : ℕ) (old new : RaceTally) → is_full d ≡ false → races_in new ≡ with_races seed d.watched.found d.watched.orders (races_in old) → IsBehind race_look room es s d → CountsRaces seed es s old new
counts room es s d seed old new left counted is =
    let all : d ≡ noted_all (of_events 0 es s) (fresh_for room s) = seen room es s d is in
    let whole : d.watched ≡ behind_all (of_events 0 es s) (fresh HOLDERS (words_of s)) =
    ap (λ (v : Detected). v.watched) all ∙ nothing_left_out HOLDERS (words_of s) (slots_in room 286720 (words_of s)) (of_events 0 es s) (sym (ap is_full all) ∙ left) in
    counted ∙ ap (λ (w : Watched). with_races seed w.found w.orders (races_in old)) whole

-- or they fill the room
pub fills : (room : ℕ) (es : List Event) (s : State) (d : Detected) → is_full d ≡ true → IsBehind race_look room es s d → FillsRoom room 0 es s
fills room es s d full is = sym (ap is_full (seen room es s d is)) ∙ full

-- a detector that is cleared is as new
pub forgotten : (room : ℕ) (es : List Event) (s : State) (d new : Detected) → new ≡ fresh_within (length d.watched.clocks) (length d.watched.shadow) d.slots.count → IsBehind race_look room es s d → new ≡ fresh_for room s
forgotten room es s d new cleared is =
    let all : d ≡ noted_all (of_events 0 es s) (fresh_for room s) = seen room es s d is in
    let holders : length d.watched.clocks ≡ HOLDERS = ap (λ (v : Detected). length v.watched.clocks) all ∙ same_holders (of_events 0 es s) (fresh_for room s) ∙ length-replicate HOLDERS no_clock in
    let words : length d.watched.shadow ≡ words_of s = ap (λ (v : Detected). length v.watched.shadow) all ∙ same_words (of_events 0 es s) (fresh_for room s) ∙ length-replicate (words_of s) no_accesses in
    let slots : d.slots.count ≡ slots_in room 286720 (words_of s) = ap (λ (v : Detected). v.slots.count) all ∙ same_slots (of_events 0 es s) (fresh_for room s) in
    cleared ∙ ap (λ n. fresh_within n (length d.watched.shadow) d.slots.count) holders ∙ ap (λ n. fresh_within HOLDERS n d.slots.count) words
    ∙ ap (λ n. fresh_within HOLDERS (words_of s) n) slots
