-- The queues of the list of waits: each object's waits, as a chain, with its ends in a directory (this project's choice).
use Rattle.std.specs.Prelude.{◌≡◌, ℕ, ◌+◌, ◌<◌, ◌≤◌, ◌==◌, nat_eq, min, length, Bool, true, false, not, ◌||◌, if◌then◌else◌, List, [], ◌∷◌, map, Option, Some, None, is_some, ⊤}
use Rattle.std.specs.List.{filter, find, list_any}
use Rattle.ckrt_thread.specs.declared.records.Wait.{Wait}
use Rattle.ckrt_thread.specs.declared.records.Reason.{Reason}
use Rattle.ckrt_thread.specs.declared.records.Reason.TheVariants as reason
use Rattle.ckrt_thread.specs.declared.records.Object.{Object}
use Rattle.ckrt_thread.specs.declared.records.Object.TheVariants as object
use Rattle.ckrt_thread.specs.declared.links.Ends.{Ends}
use Rattle.ckrt_thread.specs.declared.queues.Queue.{Queue}
use Rattle.ckrt_thread.specs.declared.queues.Queues.{Queues}
use Rattle.ckrt_thread.specs.Waits.{is_for, is_of}
use Rattle.ckrt_thread.specs.State.{count_of}
use Rattle.ckrt_thread.specs.Links.{IsChain}

-- what a thread waits for, if it waits for an object
abbrev pub object_of : Reason → Option Object
object_of reason.Input = Some object.Input
object_of reason.Sleep = None
object_of (reason.Join t) = Some (object.End t)
object_of (reason.Lock a) = Some (object.Mutex a)
object_of (reason.Retake a r) = Some (object.Mutex a)
object_of (reason.Condition c m) = Some (object.Condition c)
object_of (reason.Barrier a) = Some (object.Barrier a)
object_of (reason.Read a) = Some (object.RwLock a)
object_of (reason.Write a) = Some (object.RwLock a)

unfoldable pub is_same : Object → Object → Bool
is_same object.Input object.Input = true
is_same (object.End t) (object.End u) = t == u
is_same (object.Mutex a) (object.Mutex b) = a == b
is_same (object.Condition a) (object.Condition b) = a == b
is_same (object.Barrier a) (object.Barrier b) = a == b
is_same (object.RwLock a) (object.RwLock b) = a == b
is_same _ _ = false

abbrev pub is_queue_of : Object → Queue → Bool
is_queue_of o q = is_same o q.object

abbrev pub has_object : Wait → Bool
has_object w = is_some (object_of w.reason)

-- HOW MANY OBJECTS OF ONE KIND WAITS MAY NAME. Who waits at a condition names a mutex too, and others there may name other
-- ones; all who wait for another object name that one.

abbrev pub is_condition : Object → Bool
is_condition (object.Condition c) = true
is_condition o = false

-- whether a wait for this may name an object that none of the waits after it names
abbrev pub may_name_another : Option Object → List Wait → Bool
may_name_another None ws = false
may_name_another (Some o) ws = is_condition o || not (list_any (is_for o) ws)

-- how many wait at conditions, and how many other objects are waited for
abbrev pub named_at_most : List Wait → ℕ
named_at_most [] = 0
named_at_most (w ∷ ws) = (if may_name_another (object_of w.reason) ws then 1 else 0) + named_at_most ws

-- the threads of waits
abbrev pub ids : List Wait → List ℕ
ids ws = map (λ w. w.thread) ws

-- the threads that wait for the object, in order of the start of waiting
abbrev pub queued : Object → List Wait → List ℕ
queued o ws = ids (filter (is_for o) ws)

-- THE DIRECTORY

abbrev pub no_ends : Ends
no_ends = record { first = 0; last = 0; count = 0 }

abbrev pub ends_of : Object → List Queue → Ends
ends_of o [] = no_ends
ends_of o (q ∷ qs) = if is_queue_of o q then q.ends else ends_of o qs

-- how many wait in all queues
abbrev pub total : List Queue → ℕ
total [] = 0
total (q ∷ qs) = q.ends.count + total qs

-- how many objects of one kind the waits of a queue may name, by how many there are
abbrev pub named_by : Object → ℕ → ℕ
named_by o n = if is_condition o then n else min n 1

-- the same of all queues
abbrev pub named_by_all : List Queue → ℕ
named_by_all [] = 0
named_by_all (q ∷ qs) = named_by q.object q.ends.count + named_by_all qs

-- no object has two entries, and no entry is that of an empty queue
abbrev pub IsDirectory : List Queue → Type 0
IsDirectory [] = ⊤
IsDirectory (q ∷ qs) =
    (list_any (is_queue_of q.object) qs ≡ false) × (0 < q.ends.count) × IsDirectory qs

-- one directory is the other with these ends at the object
abbrev pub IsWithEnds : Object → Ends → List Queue → List Queue → Type 0
IsWithEnds o e old new = (p : Object) → ends_of p new ≡ (if is_same p o then e else ends_of p old)

-- the queues are those of the waits
pub record AreQueues (q : Queues) (ws : List Wait) : Type 0 where
  pub directory : IsDirectory q.directory.items
  pub total : total q.directory.items ≡ count_of has_object ws
  pub chains : (o : Object) → IsChain q.links (ends_of o q.directory.items) (queued o ws)

-- nobody waits twice
abbrev pub WaitOnce : List Wait → Type 0
WaitOnce ws = (t : ℕ) → count_of (is_of t) ws ≤ 1

-- a wait may come to these
pub record MayJoin (q : Queues) (w : Wait) (ws : List Wait) : Type 0 where
  pub number : (0 < w.thread) × (w.thread ≤ 64)
  pub free : list_any (nat_eq w.thread) (ids ws) ≡ false
  pub once : WaitOnce ws
  pub room : length ws < 64
  pub queues : AreQueues q ws

-- a wait is one of these
pub record MayLeave (q : Queues) (w : Wait) (ws : List Wait) : Type 0 where
  pub there : find (is_of w.thread) ws ≡ Some w
  pub once : WaitOnce ws
  pub queues : AreQueues q ws
