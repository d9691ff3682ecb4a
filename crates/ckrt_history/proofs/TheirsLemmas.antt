-- What an image has recorded of a program's events, as a look at its recording reads them: just those.
use Rattle.std.proofs.Common.{◌≡◌, ◌⊎◌, inl, inr, ⊎_elim, ℕ, ◌+◌, not, Bool, true, false, cond, nat_eq, List, [], ◌∷◌, ◌++◌, length, Result, Ok, Err, refl, sym, ◌∙◌, ap, subst, arith, append_assoc, length-append}
use Rattle.std.proofs.lemmas.Bool.Decides.{nat_tests}
use Rattle.std.proofs.lemmas.List.{append-nil}
use Rattle.std.specs.List.{AllByRecursion}
use Rattle.ckrt_events.specs.Bytes.{IsInRange}
use Rattle.ckrt_events.specs.declared.event.Event.{Event}
use Rattle.ckrt_stored.specs.declared.area.Area.{Area}
use Rattle.ckrt_stored.specs.declared.area_fault.AreaFault.{AreaFault}
use Rattle.ckrt_stored.specs.declared.area_fault.AreaFault.TheVariants.{Damaged, Version}
use Rattle.ckrt_stored.specs.declared.config.Config.{Config}
use Rattle.ckrt_stored.specs.Areas.{checked_area, is_in_range, is_known_version}
use Rattle.ckrt_stored.specs.Programs.{HasEvents, Program, start_of, state_after}
use Rattle.ckrt_stored.specs.Recorded.{HasRecorded, HasRecordedIn, IsOlder, IsSoundBefore, area_beside}
use Rattle.ckrt_stored.specs.Recovery.{Recovered, events_of_batches}
use Rattle.ckrt_stored.proofs.ReplayLemmas.{accepted-back, accepted-front, state-append}
use Rattle.ckrt_look_recording.specs.Recording.{HasBefore, HasInArea, LeadsOnTo, Recorded, RecordsFrom, joined}
use Rattle.ckrt_look_recording.proofs.RecordedLemmas.{has_once}
use Rattle.ckrt_history.specs.Many.{IsHistoryOf, RecordingsAreTheirs}

-- WHETHER AN AREA WAS WRITTEN RIGHT BEFORE

abbrev IsOrNot : Type 0 → Type 0
IsOrNot P = P ⊎ (P → ⊥)

checked_or_not : (area : Area) → IsOrNot (checked_area area ≡ Ok area)
checked_or_not area = by (nat_eq area.header.generation 0) (not (is_known_version area.header.version)) (is_in_range area.header)
  where
    by : (a b c : Bool) → IsOrNot (◌≡◌ {A = Result Area AreaFault} (cond a (Err Damaged) (cond b (Err Version) (cond c (Ok area) (Err Damaged)))) (Ok area))
    by true b c = inr (λ e. absurd (cc))
    by false true c = inr (λ e. absurd (cc))
    by false false true = inl refl
    by false false false = inr (λ e. absurd (cc))

sound_or_not : (area : Area) (generation : ℕ) → IsOrNot (IsSoundBefore area generation)
sound_or_not area generation = by (checked_or_not area) area.header.is_open (nat_eq (area.header.generation + 1) generation) refl refl
  where
    by : IsOrNot (checked_area area ≡ Ok area) → (o g : Bool) → area.header.is_open ≡ o → nat_eq (area.header.generation + 1) generation ≡ g → IsOrNot (IsSoundBefore area generation)
    by (inr never) o g opened before = inr (λ is. never is.checked)
    by (inl checked) false g opened before = inr (λ is. let no : true ≡ false = sym is.opened ∙ opened in absurd (cc))
    by (inl checked) true false opened before = inr (λ is. let one = is.generation_before in absurd (grind (arith, nat_tests, one, before)))
    by (inl checked) true true opened before = inl (record { checked = checked; opened = opened; generation_before = grind (arith, nat_tests, before) })

older_or_none : (c : Config) (area : Area) (image : List ℕ) → IsOlder c area image (area_beside c area image) ⊎ ((other : Area) → IsOlder c area image other → ⊥)
older_or_none c area image = ⊎_elim
    (λ sound. inl (record { is = refl; sound = sound }))
    (λ never. inr (λ other older. never (subst (λ (a : Area). IsSoundBefore a area.header.generation) older.is older.sound)))
    (sound_or_not (area_beside c area image) area.header.generation)

-- WHAT AN AREA HAS

-- the state that it was written with, and the events of its journal
abbrev recorded_in : (p : Program) (events : List Event) (c : Config) (area : Area) (image : List ℕ) → HasRecordedIn p events c area image → Recorded
recorded_in p events c area image is = record { first = area.header.count; start = state_after p is.saved; events = events_of_batches is.batches }

has_in : (p : Program) (events : List Event) (c : Config) (area : Area) (image : List ℕ) (is : HasRecordedIn p events c area image) → HasInArea c area image (recorded_in p events c area image is)
has_in p events c area image is = record { first = refl; start = is.written; batches = is.batches; chain = is.chain; events = refl }

-- each event of what leads on is accepted at its turn, and so in its range
all_ranged : (es : List Event) (newer r : Recorded) → LeadsOnTo newer (record r { events = es }) → AllByRecursion IsInRange es
all_ranged [] newer r leads = tt
all_ranged (e ∷ es) newer r leads = (
  leads.accepted.0.in_range,
  all_ranged es (record { first = r.first + length es; start = _; events = [] }) (record { first = r.first; start = _; events = [] }) (record { accepted = leads.accepted.1; state = refl; count = refl }),
)

-- a beginning that is as long as the whole
whole_front : (front all rest : List Event) → all ≡ front ++ rest → length front ≡ length all → front ≡ all
whole_front front all [] is long = sym (is ∙ append-nil front)
whole_front front all (e ∷ rest) is long = absurd (omega (arith, ap length is, length-append front (e ∷ rest), long))

-- WHOSE EVENTS THEY ARE

module _ (p : Program) (events : List Event) (image : List ℕ) (whole : Recovered) (they : HasEvents p events whole) (is : HasRecorded p events image) where
  abbrev newer : Recorded
  newer = recorded_in p events is.config is.area image is.newer

  -- what is recorded, of just these events
  abbrev Theirs : Type 0
  Theirs = (r : Recorded) × RecordsFrom is.config is.area image r × IsHistoryOf p events r

  in_range : AllByRecursion IsInRange newer.events
  in_range =
      all_ranged newer.events (record { first = newer.first + length newer.events; start = _; events = [] }) newer
      (record { accepted = accepted-back is.newer.saved newer.events (start_of p) (rw (sym is.newer.all) they.accepted); state = refl; count = refl })

  -- those of the area in use, where the other one has nothing that leads there
  alone : ((older : Recorded) → HasBefore is.config is.area image newer older → ⊥) → Theirs
  alone none = (
    newer,
    record {
      newer = newer;
      has = has_in p events is.config is.area image is.newer;
      in_range = in_range;
      begins = inr (none, refl);
    },
    record { skipped = is.newer.saved; first = is.newer.count; start = refl; all = is.newer.all },
  )

  -- where the other one was written right before
  module _ (other : Area) (is_older : IsOlder is.config is.area image other) where
    abbrev front : List Event
    front = (is.older other is_older).0

    had : HasRecordedIn p front is.config other image
    had = (is.older other is_older).2

    abbrev older : Recorded
    older = recorded_in p front is.config other image had

    has_older : HasInArea is.config other image older
    has_older = has_in p front is.config other image had

    -- its events are as many as led to the newer one exactly where they are all of those
    as_many : older.first + length older.events ≡ length front
    as_many = omega (arith, had.count, ap length had.all, length-append had.saved older.events)

    joined_theirs : front ≡ is.newer.saved → Theirs
    joined_theirs same =
        let leads : LeadsOnTo newer older = record {
          accepted = accepted-back had.saved older.events (start_of p) (rw (sym had.all ∙ same) (accepted-front is.newer.saved newer.events (start_of p) (rw (sym is.newer.all) they.accepted)));
          state = sym (state-append had.saved older.events (start_of p)) ∙ ap (state_after p) (sym had.all ∙ same);
          count = as_many ∙ ap length same ∙ sym is.newer.count;
        } in (
          joined newer older,
          record {
            newer = newer;
            has = has_in p events is.config is.area image is.newer;
            in_range = in_range;
            begins = inl (older, record { other = other; is_older = is_older; has = has_older; leads = leads }, refl);
          },
          record {
            skipped = had.saved;
            first = had.count;
            start = refl;
            all = is.newer.all ∙ ap (λ (es : List Event). es ++ newer.events) (sym same ∙ had.all) ∙ append_assoc had.saved older.events newer.events;
          },
        )

    not_joined : (length front ≡ length is.newer.saved → ⊥) → Theirs
    not_joined never = alone (λ r before.
        let same : r ≡ older = has_once is.config other image r older (subst (λ (a : Area). HasInArea is.config a image r) (before.is_older.is ∙ sym is_older.is) before.has) has_older in
        let count : older.first + length older.events ≡ newer.first = subst (λ (x : Recorded). x.first + length x.events ≡ newer.first) same before.leads.count in
        never (sym as_many ∙ count ∙ is.newer.count))

    with_older : Theirs
    with_older = by (nat_eq (length front) (length is.newer.saved)) refl
      where
        by : (b : Bool) → nat_eq (length front) (length is.newer.saved) ≡ b → Theirs
        by true long =
            let beginning = (is.older other is_older).1 in
            joined_theirs (whole_front front is.newer.saved beginning.0 beginning.1 (grind (arith, nat_tests, long)))
        by false short = not_joined (λ long. absurd (grind (arith, nat_tests, short, long)))

  theirs : Theirs
  theirs = ⊎_elim
      (λ older. with_older (area_beside is.config is.area image) older)
      (λ none. alone (λ r before. none before.other before.is_older))
      (older_or_none is.config is.area image)

-- an image that has recorded the events to which it recovers has just these
pub recordings_theirs : RecordingsAreTheirs
recordings_theirs p events limit image both =
    let to = both.0 in
    let is = both.1 in
    let found = theirs p events image to.recovered to.has_events is in
    (found.0, record { whole = to.recovered; recovers = to.recovers; config = is.config; area = is.area; used = is.used; records = found.1 }, found.2)
