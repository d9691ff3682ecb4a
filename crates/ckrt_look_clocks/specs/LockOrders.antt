-- In which order threads took locks, and where that may come to a deadlock (Joshi, Park, Sen and Naik, PLDI 2009, iGoodLock): each thread of a
-- cycle takes a lock that the next one holds, and no two of them hold a lock in common. The rooms are this project's choice.
use Rattle.std.specs.Prelude.{ℕ, zero, suc, ◌+◌, ◌-◌, ◌==◌, nat_lt, Bool, true, false, ◌&&◌, not, if◌then◌else◌, List, [], ◌∷◌, ◌++◌, length, get_or, slice_set, replicate, Option, Some, None, is_some, is_none, unwrap_or}
use Rattle.std.specs.List.{list_all, list_any}
use Rattle.ckrt_look_clocks.specs.declared.lock.LockName.{LockName}
use Rattle.ckrt_look_clocks.specs.declared.lock.LockName.TheVariants.{Mutex, RwLock}
use Rattle.ckrt_look_clocks.specs.declared.lock.Locking.{Locking}
use Rattle.ckrt_look_clocks.specs.declared.lock.Locking.TheVariants as locking
use Rattle.ckrt_look_clocks.specs.declared.lock.Taking.{Taking}
use Rattle.ckrt_look_clocks.specs.declared.order.Held.{Held}
use Rattle.ckrt_look_clocks.specs.declared.order.Order.{Order}

-- LOCKS that are held: each with how it was taken, at one of 16 places

abbrev pub is_lock : LockName → LockName → Bool
is_lock (Mutex a) (Mutex b) = a == b
is_lock (Mutex a) (RwLock b) = false
is_lock (RwLock a) (Mutex b) = false
is_lock (RwLock a) (RwLock b) = a == b

abbrev pub no_lock : Taking
no_lock = record { lock = Mutex 0; reads = false; pc = 0; caller = 0; place = record { event = 0; step = 0 } }

-- two takings keep each other out: of one lock, not both to read
abbrev pub clashes : Taking → Taking → Bool
clashes a b = is_lock a.lock b.lock && not (a.reads && b.reads)

abbrev pub clashes_with : Taking → Option Taking → Bool
clashes_with a None = false
clashes_with a (Some b) = clashes a b

abbrev pub is_of : LockName → Option Taking → Bool
is_of l None = false
is_of l (Some t) = is_lock l t.lock

abbrev pub unless_of : LockName → Option Taking → Option Taking
unless_of l t = if is_of l t then None else t

abbrev pub nothing_held : Held
nothing_held = record { locks = replicate 16 None }

abbrev pub holds : LockName → Held → Bool
holds l h = list_any (is_of l) h.locks

abbrev pub holds_some : Held → Bool
holds_some h = list_any is_some h.locks

-- the last of the first n places that is free
abbrev pub free_place : (n : ℕ) → List (Option Taking) → Option ℕ
free_place zero locks = None
free_place (suc n) locks = if is_none (get_or locks n None) then Some n else free_place n locks

abbrev pub put_at : (place : ℕ) → Taking → Held → Held
put_at i t h = record { locks = slice_set h.locks i (Some t) }

-- the first n places have this lock no more
abbrev pub without : (n : ℕ) → LockName → List (Option Taking) → List (Option Taking)
without zero l locks = locks
without (suc n) l locks =
    slice_set (without n l locks) n (unless_of l (get_or (without n l locks) n None))

-- AN ORDER: a thread took a lock, for which it would have waited, while it held others

abbrev pub no_order : Order
no_order = record { thread = 0; taken = no_lock; held = nothing_held }

abbrev pub order_at : (place : ℕ) → List Order → Order
order_at i os = get_or os i no_order

-- one of the locks that are held keeps a taking out
abbrev pub meets : Taking → Held → Bool
meets t h = list_any (clashes_with t) h.locks

-- the first took what the second's thread held
abbrev pub awaits : Order → Order → Bool
awaits a b = meets a.taken b.held

abbrev pub meets_with : Held → Option Taking → Bool
meets_with h None = false
meets_with h (Some t) = meets t h

-- some lock is held by both, and not by both to read
abbrev pub share : Held → Held → Bool
share a b = list_any (meets_with b) a.locks

-- two orders are of two threads that may come so far at once
abbrev pub are_apart : Order → Order → Bool
are_apart a b = not (a.thread == b.thread) && not (share a.held b.held)

-- THE SAME ORDER: a thread took a lock in the same way, with the same held in the same way at the same places

abbrev pub is_same_taking : Taking → Taking → Bool
is_same_taking a b = is_lock a.lock b.lock && (if a.reads then b.reads else not b.reads)

abbrev pub is_alike : Option Taking → Option Taking → Bool
is_alike None t = is_none t
is_alike (Some a) None = false
is_alike (Some a) (Some b) = is_same_taking a b

abbrev pub are_alike : (n : ℕ) → (a b : List (Option Taking)) → Bool
are_alike zero a b = true
are_alike (suc n) a b = are_alike n a b && is_alike (get_or a n None) (get_or b n None)

abbrev pub is_repeat : Order → Order → Bool
is_repeat a b =
    a.thread == b.thread
    && (is_same_taking a.taken b.taken
    && are_alike (length a.held.locks) a.held.locks b.held.locks)

-- an order whose locks are gone is told of none any more
abbrev pub is_idle : Order → Bool
is_idle o = not (holds_some o.held)

-- the last such one of the first n
abbrev pub free_order : (n : ℕ) → List Order → Option ℕ
free_order zero os = None
free_order (suc n) os = if is_idle (order_at n os) then Some n else free_order n os

-- what keeps a taking out, of the first n places: the last
abbrev pub blocker : (n : ℕ) → Taking → List (Option Taking) → Option Taking
blocker zero t locks = None
blocker (suc n) t locks =
    if clashes_with t (get_or locks n None) then get_or locks n None else blocker n t locks
