-- A walk from one position to another, with a look at each position on the way.
use Rattle.std.proofs.Common.{◌≡◌, ◌⊎◌, ◌+◌, min, ◌&&◌, ◌||◌, ◌==◌, ℕ, ◌<◌, Bool, true, false, List, [], length, Option, Some, None, refl, sym, ap, ◌∙◌, subst, inl, inr, arith}
use Rattle.std.specs.List.{list_any}
use Rattle.std.proofs.lemmas.Bool.{false≢true}
use Rattle.ckrt_events.specs.declared.event.Event.{Event}
use Rattle.ckrt_machine.specs.Steps.{State}
use Rattle.ckrt_machine.specs.Events.{AllAccepted}
use Rattle.ckrt_gdb_history.specs.declared.position.Position.{Position}
use Rattle.ckrt_gdb_history.specs.declared.stop.Stops.{Stops}
use Rattle.ckrt_gdb_history.specs.declared.stop.Watch.{Watch}
use Rattle.ckrt_gdb_history.specs.Positions.{History, IsBefore, IsGreatest, IsLastOnWay, IsLeast, IsPosition, IsUpTo, NoneBefore, NoneBehind, PassesNone, next_position, previous_position}
use Rattle.ckrt_gdb_history.specs.Stops.{AreNone, HasChanged, IsStop, Runner, has_accessed, is_halt, is_hit, is_of, is_wanted, runner_at, watched_at}
use Rattle.ckrt_gdb_history.proofs.AccessLemmas.{never_accessed}
use Rattle.ckrt_gdb_history.proofs.AtLemmas.{inside}
use Rattle.ckrt_gdb_history.proofs.OrderLemmas.{up_or_behind, fewer_ahead, next_of_previous, previous_first, steps_left, before_is_up_to, before_or_there, next_is_behind, next_up_to, none_between, not_both, previous_is_one, there, up_to_before, up_to_itself, up_to_up_to}

-- where it stands, with the bytes that it has seen there
pub record IsOnWay (stops : Stops) (h : History) (end : Position) (z : History) (seen : List ℕ) : Type 0 where
  pub history : z ≡ record h { position = z.position }
  pub is_one : IsPosition z.position h.events h.start
  pub begun : IsUpTo h.position z.position
  pub ahead : IsUpTo z.position end
  pub seen_is : seen ≡ watched_at stops.watches.items z.position h.events h.start

pub way_starts : (stops : Stops) (h : History) (end : Position) (seen : List ℕ) → IsPosition h.position h.events h.start → IsUpTo h.position end
    → seen ≡ watched_at stops.watches.items h.position h.events h.start → IsOnWay stops h end h seen
way_starts stops h end seen is up same = record { history = refl; is_one = is; begun = up_to_itself h.position; ahead = up; seen_is = same }

-- A STEP, AND WHAT IS PASSED BEHIND IT

module _ (stops : Stops) (h : History) (end : Position) (z : History) (seen : List ℕ) (way : IsOnWay stops h end z seen)
    (new : History) (made : new ≡ record z { position = new.position })
    (passes : PassesNone (IsStop stops z) z.position end new.position z) where
  new_is : new ≡ record h { position = new.position }
  new_is = made ∙ ap (λ (x : History). record x { position = new.position }) way.history

  of_start : PassesNone (IsStop stops (record h { position = z.position })) z.position end new.position (record h { position = z.position })
  of_start = subst (λ (x : History). PassesNone (IsStop stops x) z.position end new.position x) way.history passes

  is_position : IsPosition new.position h.events h.start
  is_position = of_start.is_one

  behind : IsBefore z.position new.position
  behind = passes.behind

  up_to_end : IsUpTo new.position end
  up_to_end = passes.within

  pub way_on : (now : List ℕ) → now ≡ watched_at stops.watches.items new.position new.events new.start → IsOnWay stops h end new now
  way_on now same = record {
    history = new_is;
    is_one = is_position;
    begun = before_is_up_to h.position new.position (up_to_before h.position z.position new.position way.begun behind);
    ahead = up_to_end;
    seen_is = same ∙ ap (λ (x : History). watched_at stops.watches.items new.position x.events x.start) new_is;
  }

  -- a stop up to here is the new position, or not behind the old
  old_or_new : (r : Position) → IsPosition r h.events h.start → IsUpTo r new.position → IsStop stops h r → IsUpTo r z.position ⊎ (r ≡ new.position)
  old_or_new r is up holds = elim (before_or_there r new.position up) [
    | inl less ↦ (elim (up_or_behind r z.position) [
      | inl old ↦ inl old
      | inr past ↦ absurd (of_start.none_between r is past less holds)
    ])
    | inr same ↦ inr same
  ]

  here_too : (r : Position) → r ≡ new.position → IsStop stops h r → IsStop stops new new.position
  here_too r same holds = subst (λ q. IsStop stops new q) same (subst (λ (x : History). IsStop stops x r) (sym new_is) holds)

  of_history : IsStop stops new new.position → IsStop stops h new.position
  of_history holds = subst (λ (x : History). IsStop stops x new.position) new_is holds

  -- FORWARD

  none_here : (IsStop stops new new.position → ⊥) → NoneBehind (IsStop stops h) h.position z.position h
      → (r : Position) → IsPosition r h.events h.start → IsBefore h.position r → IsStop stops h r → IsUpTo r z.position ⊎ (r ≡ new.position) → ⊥
  none_here never none r is less holds (inl up) = none r is less up holds
  none_here never none r is less holds (inr same) = never (here_too r same holds)

  pub none_more : (IsStop stops new new.position → ⊥) → NoneBehind (IsStop stops h) h.position z.position h → NoneBehind (IsStop stops h) h.position new.position h
  none_more never none = λ r is less up holds. none_here never none r is less holds (old_or_new r is up holds)

  pub first_hit : IsStop stops new new.position → NoneBehind (IsStop stops h) h.position z.position h → IsLeast (IsStop stops h) h.position end new.position h
  first_hit holds none = record {
    is_one = is_position;
    behind = up_to_before h.position z.position new.position way.begun behind;
    within = up_to_end;
    holds = of_history holds;
    none_between = λ r is less before hit. (elim (up_or_behind r z.position) [
      | inl old ↦ none r is less old hit
      | inr past ↦ of_start.none_between r is past before hit
    ]);
  }

  -- BACKWARD

  module _ (here : Position) where
    pub last_hit : IsStop stops new new.position → IsBefore new.position here → IsLastOnWay (IsStop stops h) h.position new.position here h (Some new.position)
    last_hit holds before = record {
      is_one = is_position;
      behind = up_to_before h.position z.position new.position way.begun behind;
      within = up_to_itself new.position;
      before = before;
      holds = of_history holds;
      none_between = λ r is less up inside. absurd (not_both new.position r less up);
    }

    still_at : (IsStop stops new new.position → IsBefore new.position here → ⊥) → (r : Position) → IsBefore r here → IsStop stops h r → (IsUpTo r z.position → ⊥) → IsUpTo r z.position ⊎ (r ≡ new.position) → ⊥
    still_at never r before holds none (inl old) = none old
    still_at never r before holds none (inr same) = never (here_too r same holds) (subst (λ q. IsBefore q here) same before)

    still_none : (IsStop stops new new.position → IsBefore new.position here → ⊥) → (found : Option Position) → IsLastOnWay (IsStop stops h) h.position z.position here h found → IsLastOnWay (IsStop stops h) h.position new.position here h found
    still_none never None none = λ r is less up before holds. still_at never r before holds (λ old. none r is less old before holds) (old_or_new r is up holds)
    still_none never (Some q) last = record {
      is_one = last.is_one;
      behind = last.behind;
      within = up_to_up_to q z.position new.position last.within (before_is_up_to z.position new.position behind);
      before = last.before;
      holds = last.holds;
      none_between = λ r is less up before holds. still_at never r before holds (λ old. last.none_between r is less old before holds) (old_or_new r is up holds);
    }

    pub no_hit : (IsStop stops new new.position → ⊥) → (found : Option Position) → IsLastOnWay (IsStop stops h) h.position z.position here h found → IsLastOnWay (IsStop stops h) h.position new.position here h found
    no_hit never found last = still_none (λ holds before. never holds) found last

    pub too_far : (IsBefore new.position here → ⊥) → (found : Option Position) → IsLastOnWay (IsStop stops h) h.position z.position here h found → IsLastOnWay (IsStop stops h) h.position new.position here h found
    too_far never found last = still_none (λ holds before. never before) found last

-- WHAT CHANGES

module _ (stops : Stops) (z new : History) (seen bytes : List ℕ)
    (same_before : watched_at stops.watches.items (previous_position new.position new.events new.start) new.events new.start ≡ watched_at stops.watches.items z.position z.events z.start)
    (seen_is : seen ≡ watched_at stops.watches.items z.position z.events z.start)
    (bytes_are : bytes ≡ watched_at stops.watches.items new.position new.events new.start) where
  pub changed : (seen ≡ bytes → ⊥) → HasChanged stops.watches.items new.position new.events new.start
  changed other = λ same. other (seen_is ∙ sym same_before ∙ same ∙ sym bytes_are)

  pub unchanged : seen ≡ bytes → HasChanged stops.watches.items new.position new.events new.start → ⊥
  unchanged same other = other (same_before ∙ sym seen_is ∙ same ∙ bytes_are)

-- WHY THERE IS A STOP

module _ (stops : Stops) (new : History) where
  -- a watch stops for what the last step loaded or stored
  pub stops_by_access : (b : Bool) → b ≡ has_accessed stops.watches.items new.position new.events new.start → b ≡ true → IsStop stops new new.position
  stops_by_access b is met = inr (inr (sym is ∙ met))

  -- none does, and nothing changed
  pub stops_by_halt : (b k : Bool) → b ≡ has_accessed stops.watches.items new.position new.events new.start → b ≡ false → (HasChanged stops.watches.items new.position new.events new.start → ⊥)
      → k ≡ is_halt stops new.position new.events new.start → IsStop stops new new.position → k ≡ true
  stops_by_halt b k is none same halt (inl halts) = halt ∙ halts
  stops_by_halt b k is none same halt (inr (inl changed)) = absurd (same changed)
  stops_by_halt b k is none same halt (inr (inr accessed)) = absurd (false≢true (sym none ∙ is ∙ accessed))

-- FEWER STEPS ARE LEFT

module _ (Holds : Position → Type 0) (end : Position) (z new : History) (made : new ≡ record z { position = new.position }) (passes : PassesNone Holds z.position end new.position z) where
  pub fewer : (p : Position) → p ≡ z.position → IsPosition p z.events z.start → z.position.events < length z.events → steps_left new.position new.events new.start < steps_left z.position z.events z.start
  fewer p here is some =
      subst (λ (x : History). steps_left new.position x.events x.start < steps_left z.position z.events z.start) (sym made)
      (fewer_ahead z.position new.position z.events z.start (subst (λ q. IsPosition q z.events z.start) here is) passes.is_one some passes.behind)

-- who is before a position isn't behind the last event
pub room_ahead : (p q : Position) (es : List Event) (s : State) → IsPosition q es s → IsBefore p q → p.events < length es
room_ahead p q es s is (inl a) = (let few = is.events in omega (arith, a, few))
room_ahead p q es s is (inr a) = (let same = a.0 in let less = a.1 in let few = inside q es s is (omega (arith, less)) in omega (arith, same, few))

module _ (stops : Stops) (h : History) (end : Position) (z : History) (seen : List ℕ) (way : IsOnWay stops h end z seen) where
  pub way_seen : seen ≡ watched_at stops.watches.items z.position z.events z.start
  way_seen = way.seen_is ∙ ap (λ (x : History). watched_at stops.watches.items z.position x.events x.start) (sym way.history)

  pub way_room : IsPosition end h.events h.start → IsBefore z.position end → z.position.events < length z.events
  way_room is before = subst (λ (x : History). z.position.events < length x.events) (sym way.history) (room_ahead z.position end h.events h.start is before)

-- A LOOK AT ONE POSITION

pub first_unchanged : (ws : List Watch) (p : Position) (es : List Event) (s : State) → p.steps ≡ 0 → p.events ≡ 0 → HasChanged ws p es s → ⊥
first_unchanged ws p es s none first other = other (ap (λ q. watched_at ws q es s) (sym (previous_first es s p none first)))

abbrev back : History → History
back x = record x { position = previous_position x.position x.events x.start }

module _ (h z y : History) (p : Position) (gone : z ≡ record h { position = p }) (behind : y ≡ back z)
    (all : AllAccepted h.events h.start) (is : IsPosition p h.events h.start) (some : p.steps ≡ 0 → p.events ≡ 0 → ⊥) where
  before_it : y ≡ back (record h { position = p })
  before_it = behind ∙ ap back gone

  again : next_position (previous_position p h.events h.start) h.events h.start ≡ p
  again = next_of_previous h.events h.start p all is some

  pub last_before : IsPosition p y.events y.start
  last_before = subst (λ (x : History). IsPosition p x.events x.start) (sym before_it) is

  pub more_before : IsBefore y.position p
  more_before =
      subst (λ (x : History). IsBefore x.position p) (sym before_it)
      (subst (λ q. IsBefore (previous_position p h.events h.start) q) again (next_is_behind (previous_position p h.events h.start) h.events h.start))

  -- a walk from before it to it comes to it
  module _ (stops : Stops) (x : History) (made : x ≡ record y { position = x.position }) (passes : PassesNone (IsStop stops y) y.position p x.position y) where
    from_before : PassesNone (IsStop stops y) (previous_position p h.events h.start) p x.position (back (record h { position = p }))
    from_before = subst (λ (w : History). PassesNone (IsStop stops y) w.position p x.position w) before_it passes

    pub comes_there : x.position ≡ p
    comes_there =
        let from = previous_position p h.events h.start in
        let up : IsUpTo p x.position = subst (λ q. IsUpTo q x.position) again (next_up_to from h.events h.start x.position from_before.is_one from_before.behind) in
        there x.position p from_before.within (λ less. not_both x.position p less up)

    pub there_again : x ≡ record h { position = p }
    there_again = made ∙ ap (λ (w : History). record w { position = x.position }) before_it ∙ ap (λ q. record h { position = q }) comes_there

-- BACK FROM HERE

pub none_from : (Holds : Position → Type 0) (p end here : Position) (h : History) (r : Option Position) → ((q : Position) → r ≡ Some q → ⊥) → IsLastOnWay Holds p end here h r → IsLastOnWay Holds p end here h None
none_from Holds p end here h None never last = last
none_from Holds p end here h (Some q) never last = absurd (never q refl)

-- none behind p and before `here` has a reason to stop
abbrev pub NonePast : Stops → History → (p here : Position) → Type 0
NonePast stops h p here = (r : Position) → IsPosition r h.events h.start → IsBefore p r → IsBefore r here → IsStop stops h r → ⊥

pub none_yet : (stops : Stops) (h : History) (here : Position) → NonePast stops h here here
none_yet stops h here = λ r is less before holds. not_both here r less (before_is_up_to r here before)

-- from a position to the end of what isn't looked at yet
module _ (stops : Stops) (h z : History) (from end here : Position) (gone : z ≡ record h { position = from }) (past : NonePast stops h end here) where
  of_last : (r : Option Position) → IsLastOnWay (IsStop stops z) z.position end here z r → IsLastOnWay (IsStop stops h) from end here (record h { position = from }) r
  of_last r last = subst (λ (x : History). IsLastOnWay (IsStop stops x) x.position end here x r) gone last

  none_up_to : (q r : Position) → (IsUpTo r end → ⊥) → IsPosition r h.events h.start → IsBefore r here → IsStop stops h r → IsUpTo r end ⊎ IsBefore end r → ⊥
  none_up_to q r none is before holds (inl up) = none up
  none_up_to q r none is before holds (inr behind) = past r is behind before holds

  greatest_of : (first q : Position) → here ≡ h.position → IsUpTo first from → IsLastOnWay (IsStop stops h) from end here (record h { position = from }) (Some q) → IsGreatest (IsStop stops h) first h.position q h
  greatest_of first q here_is up last = record {
    is_one = last.is_one;
    before = subst (λ p. IsBefore q p) here_is last.before;
    within = before_is_up_to first q (up_to_before first from q up last.behind);
    holds = last.holds;
    none_between = λ r is less more holds.
        let before = subst (λ p. IsBefore r p) (sym here_is) more in
        none_up_to q r (λ reach. last.none_between r is less reach before holds) is before holds (up_or_behind r end);
  }

  pub greatest : (first q : Position) → here ≡ h.position → IsUpTo first from → IsLastOnWay (IsStop stops z) z.position end here z (Some q) → IsGreatest (IsStop stops h) first h.position q h
  greatest first q here_is up last = greatest_of first q here_is up (of_last (Some q) last)

  pub none_further : IsLastOnWay (IsStop stops z) z.position end here z None → NonePast stops h from here
  none_further last = λ r is less before holds. none_up_to r r (λ reach. of_last None last r is less reach before holds) is before holds (up_or_behind r end)

-- where nothing behind the first has one
module _ (stops : Stops) (h : History) (first here : Position) (here_is : here ≡ h.position) (none : NonePast stops h first here) where
  pub first_is_greatest : IsPosition first h.events h.start → IsBefore first here → IsStop stops h first → IsGreatest (IsStop stops h) first h.position first h
  first_is_greatest is before holds = record {
    is_one = is;
    before = subst (λ q. IsBefore first q) here_is before;
    within = up_to_itself first;
    holds = holds;
    none_between = λ r one less more hit. none r one less (subst (λ p. IsBefore r p) (sym here_is) more) hit;
  }

  none_or_first : (IsStop stops h first → ⊥) → (r : Position) → IsPosition r h.events h.start → IsBefore r h.position → IsStop stops h r → IsBefore first r ⊎ (first ≡ r) → ⊥
  none_or_first never r is before holds (inl less) = none r is less (subst (λ p. IsBefore r p) (sym here_is) before) holds
  none_or_first never r is before holds (inr same) = never (subst (λ q. IsStop stops h q) (sym same) holds)

  pub none_at_all : (IsStop stops h first → ⊥) → NoneBefore (IsStop stops h) first h.position h
  none_at_all never = λ r is up before holds. none_or_first never r is before holds (before_or_there first r up)

  -- where nothing is between
  pub none_before : first ≡ here → NoneBefore (IsStop stops h) first h.position h
  none_before same = λ r is up before holds. not_both r h.position before (subst (λ q. IsUpTo q r) (same ∙ here_is) up)

-- a number that falls from position to kept position
abbrev pub kept_left : Position → ℕ
kept_left p = p.events + min 1 p.steps

pub fewer_kept : (p q : Position) → p.steps ≡ 0 → IsBefore p q → kept_left p < kept_left q
fewer_kept p q none (inl less) = omega (arith, none, less)
fewer_kept p q none (inr a) = (let same = a.0 in let less = a.1 in omega (arith, none, same, less))

-- THE END

pub way_ends : (stops : Stops) (h : History) (end : Position) (z : History) (seen : List ℕ) → IsOnWay stops h end z seen → (IsBefore z.position end → ⊥) → z.position ≡ end
way_ends stops h end z seen way none = there z.position end way.ahead none

-- NO REASON AT ALL

unwanted : (stops : Stops) (r : Option Runner) → stops.breakpoints.items ≡ [] → stops.thread ≡ None → is_wanted stops r ≡ false
unwanted stops None points thread = refl
unwanted stops (Some r) points thread =
    ap (λ bs. list_any (is_hit r) bs || is_of stops.thread r) points ∙ ap (λ t. is_of t r) thread

pub none_stops : (stops : Stops) → stops.breakpoints.items ≡ [] → stops.watches.items ≡ [] → stops.thread ≡ None → stops.event_ends ≡ false → AreNone stops
none_stops stops points watches thread ends h p (inl halts) =
    false≢true (sym (ap (λ b. b || (stops.event_ends && p.steps == 0)) (unwanted stops (runner_at p h.events h.start) points thread) ∙ ap (λ b. b && p.steps == 0) ends) ∙ halts)
none_stops stops points watches thread ends h p (inr (inl changed)) =
    changed (ap (λ ws. watched_at ws (previous_position p h.events h.start) h.events h.start) watches ∙ sym (ap (λ ws. watched_at ws p h.events h.start) watches))
none_stops stops points watches thread ends h p (inr (inr accessed)) =
    false≢true (sym (ap (λ ws. has_accessed ws p h.events h.start) watches ∙ never_accessed [] refl p h.events h.start) ∙ accessed)

-- BACKWARD, BY ONE STEP

-- a position at which somebody may stand is not the first, where another is before it
not_first : (p q : Position) → IsBefore p q → q.steps ≡ 0 → q.events ≡ 0 → ⊥
not_first p q (inl a) none first = omega (arith, a, first)
not_first p q (inr a) none first = (let less = a.1 in omega (arith, less, none))

module _ (stops : Stops) (h : History) (first : Position) (all : AllAccepted h.events h.start)
    (is : IsPosition h.position h.events h.start) (first_is : IsPosition first h.events h.start)
    (less : IsBefore first h.position) where
  abbrev last : Position
  last = previous_position h.position h.events h.start

  on : next_position last h.events h.start ≡ h.position
  on = next_of_previous h.events h.start h.position all is (not_first first h.position less)

  pub last_is_one : IsPosition last h.events h.start
  last_is_one = previous_is_one h.events h.start h.position all is

  -- the last position before it has a reason to stop
  pub last_is_greatest : IsStop stops h last → IsGreatest (IsStop stops h) first h.position last h
  last_is_greatest holds = record {
    is_one = last_is_one;
    before = subst (λ x. IsBefore last x) on (next_is_behind last h.events h.start);
    within = none_between last h.events h.start first first_is (subst (λ x. IsBefore first x) (sym on) less);
    holds = holds;
    none_between = λ r one past before _.
        not_both last r past (none_between last h.events h.start r one (subst (λ x. IsBefore r x) (sym on) before));
  }
