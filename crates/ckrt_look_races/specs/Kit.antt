-- The locks of a kit, by their names (docs/ABI.md, this project's choice). No variable of a program lies below address 4,096: what has
-- such a name is a kit's own, as the lock of its heap, and a program may not rely on who had it before.
use Rattle.std.specs.Prelude.{ℕ, ◌||◌, nat_lt, Bool, if◌then◌else◌, List, []}
use Rattle.ckrt_mutex.specs.Mutex.{is_owner, mutex_at}
use Rattle.ckrt_calls.specs.declared.table.Tables.{Tables}
use Rattle.ckrt_look_clocks.specs.declared.operation.Operation.{Operation}

abbrev pub is_of_kit : (address : ℕ) → Bool
is_of_kit a = nat_lt a 4096

-- a lock of a kit passes nothing on
abbrev pub unless_of_kit : (address : ℕ) → List Operation → List Operation
unless_of_kit a os = if is_of_kit a then [] else os

-- what a thread accesses plainly while it owns one of the mutexes 1 to 4 isn't told
abbrev pub is_in_kit : (t : ℕ) → Tables → Bool
is_in_kit t s =
    is_owner t (mutex_at 1 s.mutexes)
    || (is_owner t (mutex_at 2 s.mutexes)
    || (is_owner t (mutex_at 3 s.mutexes) || is_owner t (mutex_at 4 s.mutexes)))
