-- What the table of threads holds, row by row: threads by rising id, waits in order of the start of waiting, and who is on
-- which hart. A table is built again so, each row after those that are there, from the keys of the program on (this
-- project's choice).
use Rattle.std.specs.Prelude.{◌≡◌, ℕ, suc, ◌≤◌, ◌<◌, nat_lt, nat_le, Bool, not, ◌&&◌, List, [], ◌∷◌, ◌++◌, drop, replicate, Option, Some, None, is_none, slice_get}
use Rattle.std.specs.List.{list_any, list_all}
use Rattle.std.specs.Option.{option_flatten}
use Rattle.ckrt_thread.specs.declared.records.Thread.{Thread}
use Rattle.ckrt_thread.specs.declared.records.Wait.{Wait}
use Rattle.ckrt_thread.specs.Keys.{KeyTable, data_of, are_of_keys}
use Rattle.ckrt_thread.specs.State.{State, IsWellFormed, thread_of, is_initial, is_proper_slot, is_ready, may_wait, with_slot, placed_on}

-- ROWS

-- a thread with its id
pub record ThreadRow : Type 0 where
  pub id : ℕ
  pub thread : Thread

-- what stands for an id, as rows: one or none
abbrev pub rows_of : ℕ → Option Thread → List ThreadRow
rows_of id None = []
rows_of id (Some t) = (record { id = id; thread = t }) ∷ []

-- the threads among slots of which the first is that of an id
abbrev pub rows_from : ℕ → List (Option Thread) → List ThreadRow
rows_from id [] = []
rows_from id (slot ∷ slots) = rows_of id slot ++ rows_from (suc id) slots

abbrev pub thread_rows : State → List ThreadRow
thread_rows s = rows_from 0 s.threads

-- the thread at a place by rising id, with its id
abbrev pub row_at : ℕ → State → Option ThreadRow
row_at place s = slice_get (thread_rows s) place

abbrev pub row : ℕ → Thread → ThreadRow
row id t = record { id = id; thread = t }

abbrev pub who_is_on : State → ℕ → Option ℕ
who_is_on s h = option_flatten (slice_get s.harts h)

-- these keys, no thread, no wait, and that many harts, all idle
abbrev pub empty : KeyTable → ℕ → State
empty keys harts =
    record {
      threads = replicate 65 None;
      waits = [];
      harts = replicate 8 None;
      hart_count = harts;
      keys = keys;
    }

-- ONE ROW MORE

abbrev pub thread_appended : ThreadRow → State → State
thread_appended r s = with_slot r.id (Some r.thread) s

abbrev pub wait_appended : Wait → State → State
wait_appended w s = record s { waits = s.waits ++ w ∷ [] }

abbrev pub hart_appended : ℕ → ℕ → State → State
hart_appended h t s = placed_on h t s

-- the threads of a well-formed state go on with this row
pub record GoesOnWithThread (r : ThreadRow) (s : State) : Type 0 where
  -- its id is above those that are there, and one that a thread may have
  pub above : (t : ℕ) → r.id ≤ t → thread_of s t ≡ None
  pub within : r.id ≤ 64
  pub well_formed : IsWellFormed (thread_appended r s)

-- the waits of a well-formed state go on with this one
abbrev pub GoesOnWithWait : Wait → State → Type 0
GoesOnWithWait w s = IsWellFormed (wait_appended w s)

-- a well-formed state has this thread on a hart that is idle yet
pub record GoesOnWithHart (h t : ℕ) (s : State) : Type 0 where
  pub within : h < s.hart_count
  pub idle : who_is_on s h ≡ None
  pub well_formed : IsWellFormed (hart_appended h t s)

-- KEYS

-- the keys of the program become these
abbrev pub with_keys : KeyTable → State → State
with_keys keys s = record s { keys = keys }

-- each thread has values only under these keys
abbrev pub has_values_of : KeyTable → Option Thread → Bool
has_values_of keys o = are_of_keys keys (data_of o)

abbrev pub are_all_of_keys : KeyTable → State → Bool
are_all_of_keys keys s = list_all (has_values_of keys) s.threads

-- ROWS OF TWO STATES

-- two states have the same rows
pub record HaveSameRows (r s : State) : Type 0 where
  pub threads : thread_rows r ≡ thread_rows s
  pub waits : r.waits ≡ s.waits
  pub harts : r.harts ≡ s.harts
  pub hart_count : r.hart_count ≡ s.hart_count
  pub keys : r.keys ≡ s.keys

-- s has the keys of `begun`, and this thread after its threads
pub record HasNextThread (r : ThreadRow) (begun s : State) : Type 0 where
  pub keys : s.keys ≡ begun.keys
  pub threads : (more : List ThreadRow) × (thread_rows s ≡ thread_rows begun ++ r ∷ more)

-- s has the keys and threads of `begun` and this wait after its waits, and nobody is on a hart in `begun` yet
pub record HasNextWait (w : Wait) (begun s : State) : Type 0 where
  pub keys : s.keys ≡ begun.keys
  pub threads : thread_rows s ≡ thread_rows begun
  pub waits : (more : List Wait) × (s.waits ≡ begun.waits ++ w ∷ more)
  pub idle : (h : ℕ) → who_is_on begun h ≡ None

-- s has the keys, threads and waits of `begun`, this thread on a hart that is idle there, and who is on a hart there
pub record HasNextOnHart (h t : ℕ) (begun s : State) : Type 0 where
  pub keys : s.keys ≡ begun.keys
  pub threads : thread_rows s ≡ thread_rows begun
  pub waits : s.waits ≡ begun.waits
  pub hart_count : s.hart_count ≡ begun.hart_count
  pub next : who_is_on s h ≡ Some t
  pub idle : who_is_on begun h ≡ None
  pub others : (i u : ℕ) → who_is_on begun i ≡ Some u → who_is_on s i ≡ Some u

-- between well-formed states, what one has next goes on from the other
abbrev pub NextGoesOn : {R : Type 0} → (R → State → State → Type 0) → (R → State → Type 0) → Type 0
NextGoesOn {R = R} HasNext GoesOn = (r : R) (begun s : State) → IsWellFormed begun → IsWellFormed s → HasNext r begun s → GoesOn r begun

-- THE TESTS OF A ROW, where the state is well-formed so far

-- the id is one that a thread may have, and above those that are there
abbrev pub is_next_id : ℕ → List (Option Thread) → Bool
is_next_id id slots = nat_lt 0 id && nat_le id 64 && list_all is_none (drop id slots)

-- it isn't the second thread with which the program began
abbrev pub is_sole_initial : Option Thread → List (Option Thread) → Bool
is_sole_initial slot slots = not (is_initial slot && list_any is_initial slots)

abbrev pub takes_thread : ThreadRow → State → Bool
takes_thread r s =
    is_next_id r.id s.threads
    && is_proper_slot (Some r.thread)
    && is_sole_initial (Some r.thread) s.threads
    && are_of_keys s.keys (data_of (Some r.thread))

abbrev pub takes_wait : Wait → State → Bool
takes_wait w s = is_ready s w.thread && may_wait w.thread w.reason w.deadline s

abbrev pub takes_on_hart : ℕ → ℕ → State → Bool
takes_on_hart h t s = nat_lt h s.hart_count && is_none (who_is_on s h) && is_ready s t
