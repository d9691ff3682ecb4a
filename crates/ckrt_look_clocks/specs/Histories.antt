-- What threads do to one memory, what happens before what, and which accesses race (C11, 5.1.2.4, Multi-threaded executions
-- and data races; POSIX.1-2017, 4.12, Memory Synchronization). Threads and locks are holders of what they have seen.
use Rattle.std.specs.Prelude.{◌≡◌, ◌<◌, ℕ, ◌+◌, ◌*◌, ◌^◌, ◌==◌, nat_lt, Bool, true, false, ◌&&◌, ◌||◌, not, if◌then◌else◌, List, [], ◌∷◌, ◌++◌, length, Option, Some, None}
use Rattle.ckrt_look_clocks.specs.declared.operation.Place.{Place}
use Rattle.ckrt_look_clocks.specs.declared.operation.Access.{Access}
use Rattle.ckrt_look_clocks.specs.declared.operation.Operation.{Operation}
use Rattle.ckrt_look_clocks.specs.declared.operation.Operation.TheVariants as operation

-- the operations of a run, THE LATEST FIRST
abbrev pub History : Type 0
History = List Operation

-- the operation that i others came before
abbrev pub op_at : History → ℕ → Option Operation
op_at [] i = None
op_at (o ∷ past) i = if i == length past then Some o else op_at past i

-- WHO HAS SEEN WHAT. A thread sees each of its accesses as it makes it. What is passed from one holder to another is all that
-- the first has seen so far: by a thread that gives up a lock to the lock, by a lock to the thread that takes it, by a thread
-- that creates another to that, and by one that has ended to the one that joins it.
abbrev pub seen : History → (holder i : ℕ) → Bool
seen [] h i = false
seen (operation.Access a ∷ past) h i = (h == a.thread && i == length past) || seen past h i
seen (operation.Pass from to p ∷ past) h i = seen past h i || (h == to && seen past from i)
seen (operation.Renew m ∷ past) h i = seen past h i
seen (operation.Lock l p ∷ past) h i = seen past h i

-- The same as the closure of single passes: a chain leads from an access to its thread, and from there by passes, each later than the
-- one before and from the holder that this one went to. The numbers of the passes stand latest first, each below the bound.

abbrev pub IsChain : History → (bound i : ℕ) → (passes : List ℕ) → (holder : ℕ) → Type 0
IsChain past n i [] h =
    (i < n) × ((a : Access) × (op_at past i ≡ Some (operation.Access a)) × (a.thread ≡ h))
IsChain past n i (k ∷ ks) h =
    (k < n) × ((from : ℕ) × (p : Place) × (op_at past k ≡ Some (operation.Pass from h p))
    × IsChain past k i ks from)

-- AN ACCESS HAPPENS BEFORE another that comes later where the thread of that has seen it by then.

-- A CONFLICT of two threads (C11, 5.1.2.4, paragraphs 4 and 25): to a common byte, one of them a store, and not both atomic. C11
-- calls two accesses conflicting that are both atomic, too, and says of them that they are no data race.

abbrev pub have_common_byte : Access → Access → Bool
have_common_byte a b =
    nat_lt a.address (b.address + b.size) && nat_lt b.address (a.address + a.size)

abbrev pub conflict : Access → Access → Bool
conflict a b =
    not (a.thread == b.thread)
    && (have_common_byte a b && ((a.is_store || b.is_store) && not (a.is_atomic && b.is_atomic)))

-- A DATA RACE (paragraph 25): two accesses that conflict, of which neither happens before the other
pub record IsRace (past : History) (first second : Access) : Type 0 where
  -- the second is an operation of the run, with others later and earlier
  pub later : History
  pub earlier : History
  pub split : past ≡ later ++ operation.Access second ∷ earlier
  -- the first is one of the earlier ones
  pub i : ℕ
  pub at : op_at earlier i ≡ Some (operation.Access first)
  pub conflict : conflict first second ≡ true
  pub unseen : seen earlier second.thread i ≡ false

-- THE TIME OF AN OPERATION: its place, as one number

abbrev pub moment : Place → ℕ
moment p = p.event * 2 ^ 32 + p.step

abbrev pub is_before : Place → Place → Bool
is_before p q = nat_lt (moment p) (moment q)
