-- How far a motion goes at most: to the end of an event by which a number of steps is made, and back to the begin of one; or up to a
-- position that gdb's user named.
use Rattle.std.specs.Prelude.{◌≡◌, ◌⊎◌, ◌+◌, ◌<◌, ◌≤◌, ℕ, zero, suc, length, Option, Some, None}
use Rattle.ckrt_gdb_history.specs.declared.position.Position.{Position}
use Rattle.ckrt_gdb_history.specs.Positions.{History, IsBefore, IsPosition, IsUpTo, at_event, positions_after}
use Rattle.ckrt_gdb_playback.specs.declared.limits.Bounds.{Bounds}

-- how many steps the first k events have
abbrev pub steps_before : ℕ → History → ℕ
steps_before zero h = 0
steps_before (suc k) h = steps_before k h + positions_after k h.events h.start

-- how many steps are made at the position, since the history began
abbrev pub steps_made : History → ℕ
steps_made h = steps_before h.position.events h + h.position.steps

-- where a motion on ends at last: at the first end of an event by which so many steps more are made, or behind the last event
pub record IsLimitOn (limit : ℕ) (h : History) (last : Position) : Type 0 where
  pub place : last ≡ at_event last.events
  pub ahead : h.position.events ≤ last.events
  pub within : last.events ≤ length h.events
  pub enough : (last.events ≡ length h.events) ⊎ (steps_made h + limit ≤ steps_before last.events h)
  pub least : (k : ℕ) → h.position.events ≤ k → k < last.events → steps_before k h < steps_made h + limit

-- where a motion back ends at last: at the last begin of an event from which so many steps are made up to here, or before the first event
pub record IsLimitBack (limit : ℕ) (h : History) (first : Position) : Type 0 where
  pub place : first ≡ at_event first.events
  pub behind : first.events ≤ h.position.events
  pub enough : (first.events ≡ 0) ⊎ (steps_before first.events h + limit ≤ steps_made h)
  pub greatest : (k : ℕ) → first.events < k → k ≤ h.position.events → steps_made h < steps_before k h + limit

-- WHAT BOUNDS A MOTION

-- at first: 2,000 million steps, and no position
abbrev pub unbounded : Bounds
unbounded = record { limit = 2000000000; until = None }

-- a position comes before the end of a motion
pub record IsOnWay (u last : Position) (h : History) : Type 0 where
  pub is_one : IsPosition u h.events h.start
  pub ahead : IsBefore h.position u
  pub within : IsUpTo u last

pub record IsOnWayBack (u first : Position) (h : History) : Type 0 where
  pub is_one : IsPosition u h.events h.start
  pub behind : IsBefore u h.position
  pub within : IsUpTo first u

-- where a motion ends at last that would end at `last`: at the position that was named, where that comes before
abbrev pub EndsOn : Option Position → (last end : Position) → History → Type 0
EndsOn None last end h = end ≡ last
EndsOn (Some u) last end h =
    (IsOnWay u last h × (end ≡ u)) ⊎ ((IsOnWay u last h → ⊥) × (end ≡ last))

abbrev pub EndsBack : Option Position → (first end : Position) → History → Type 0
EndsBack None first end h = end ≡ first
EndsBack (Some u) first end h =
    (IsOnWayBack u first h × (end ≡ u)) ⊎ ((IsOnWayBack u first h → ⊥) × (end ≡ first))

-- where a motion on ends at last, and one back
abbrev pub IsEndOn : Bounds → History → (end : Position) → Type 0
IsEndOn bounds h end = (last : Position) × IsLimitOn bounds.limit h last × EndsOn bounds.until last end h

abbrev pub IsEndBack : Bounds → History → (end : Position) → Type 0
IsEndBack bounds h end =
    (first : Position) × IsLimitBack bounds.limit h first × EndsBack bounds.until first end h
