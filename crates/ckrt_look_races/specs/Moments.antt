-- What is told of the moment of an access, beneath its line (this project's own format): which locks its thread holds, and who called.
use Rattle.std.specs.Prelude.{ℕ, ◌&&◌, ◌||◌, not, Bool, true, false, if◌then◌else◌, List, [], ◌++◌, codes}
use Rattle.std.specs.List.{flat_map, list_any}
use Rattle.ckrt_objects.specs.declared.address_map.Entry.{Entry}
use Rattle.ckrt_mutex.specs.Mutex.{is_owner}
use Rattle.ckrt_mutex.specs.declared.records.Mutex.{Mutex}
use Rattle.ckrt_rwlock.specs.RwLock.{is_holder, is_writer}
use Rattle.ckrt_rwlock.specs.declared.records.RwLock.{RwLock}
use Rattle.ckrt_calls.specs.declared.table.Tables.{Tables}
use Rattle.ckrt_machine.specs.Steps.{State}
use Rattle.ckrt_look_recording.specs.declared.rule.Rule.{Rule}
use Rattle.ckrt_look_calls.specs.Events.{at}
use Rattle.ckrt_look_calls.specs.declared.lines.Place.{Place}
use Rattle.ckrt_look_calls.specs.declared.moment.Moment.{Moment}
use Rattle.ckrt_look_calls.specs.Moments.{callers_text, moment_line, moment_text}
use Rattle.ckrt_look_clocks.specs.declared.operation.Place.{Place as Clocked}
use Rattle.ckrt_look_races.specs.Kit.{is_of_kit}

-- a place of a detector, as all looks have it
abbrev pub place_of : Clocked → Place
place_of p = at p.event p.step

abbrev pub moment_of : (thread : ℕ) → Clocked → Moment
moment_of t p = record { place = place_of p; thread = t }

-- LOCKS that a thread holds and that are none of a kit's

abbrev pub holds_mutex : (t : ℕ) → Entry Mutex → Bool
holds_mutex t e = not (is_of_kit e.address) && is_owner t e.value

abbrev pub holds_rwlock : (t : ℕ) → Entry RwLock → Bool
holds_rwlock t e = not (is_of_kit e.address) && is_holder t e.value

-- `.. holds mutex ADDRESS`
abbrev pub mutex_line : Moment → Entry Mutex → List ℕ
mutex_line m e =
    if holds_mutex m.thread e then moment_line m (codes " holds mutex ") e.address (codes "\n")
    else []

abbrev pub way_text : (writes : Bool) → List ℕ
way_text true = codes " to write\n"
way_text false = codes " to read\n"

-- `.. holds rwlock ADDRESS to write`, `.. to read`
abbrev pub rwlock_line : Moment → Entry RwLock → List ℕ
rwlock_line m e =
    if holds_rwlock m.thread e
    then moment_line m (codes " holds rwlock ") e.address (way_text (is_writer m.thread e.value))
    else []

abbrev pub holds_any : (t : ℕ) → Tables → Bool
holds_any t s = list_any (holds_mutex t) s.mutexes || list_any (holds_rwlock t) s.rwlocks

-- `.. holds no lock`
abbrev pub none_held : Moment → (holds : Bool) → List ℕ
none_held m true = []
none_held m false = moment_text m ++ codes " holds no lock\n"

-- a line for each, mutexes first, by rising address
abbrev pub held_lines : Moment → Tables → List ℕ
held_lines m s =
    flat_map (mutex_line m) s.mutexes ++ flat_map (rwlock_line m) s.rwlocks
    ++ none_held m (holds_any m.thread s)

-- both, in this state
abbrev pub access_lines : Moment → List Rule → State → List ℕ
access_lines m rules s = held_lines m s.tables ++ callers_text m rules s
