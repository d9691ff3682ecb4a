-- Which tables of threads and barriers are well-formed together.
use Rattle.std.specs.Prelude.{◌≡◌, ◌<◌, ◌≤◌, ℕ, nat_lt, Bool, true, List, [], length, Some, None}
use Rattle.std.specs.List.{list_all}
use Rattle.ckrt_thread.specs.declared.records.Reason.{Reason}
use Rattle.ckrt_thread.specs.declared.records.Reason.TheVariants as reason
use Rattle.ckrt_thread.specs.declared.records.Wait.{Wait}
use Rattle.ckrt_thread.specs.State.{State}
use Rattle.ckrt_objects.specs.declared.address_map.Entry.{Entry}
use Rattle.ckrt_objects.specs.AddressMap.{has_entry, lookup, is_rising}
use Rattle.ckrt_barrier.specs.declared.barrier.Barrier.{Barrier}
use Rattle.ckrt_barrier.specs.Rows.{waiters}

pub record IsTable (bs : List (Entry Barrier)) : Type 0 where
  pub rising : is_rising bs ≡ true
  pub at_most_64 : length bs ≤ 64
  -- a barrier's count is at least 1
  pub counts : list_all (λ e. nat_lt 0 e.value.count) bs ≡ true

pub record IsWellFormedWith (s : State) (bs : List (Entry Barrier)) : Type 0 where
  pub table : IsTable bs
  -- who completes the count doesn't wait
  pub fewer_wait_than_the_count : (b : ℕ) (barrier : Barrier) → lookup b bs ≡ Some barrier
      → length (waiters b s) < barrier.count
  pub nobody_waits_where_no_barrier_is : (b : ℕ) → lookup b bs ≡ None → waiters b s ≡ []

-- THE SAME AS A TEST of each barrier and of each wait.

-- fewer wait at the barrier than its count
abbrev pub awaits_more : State → Entry Barrier → Bool
awaits_more s e = nat_lt (length (waiters e.address s)) e.value.count

abbrev pub is_where_a_barrier_is : List (Entry Barrier) → Reason → Bool
is_where_a_barrier_is bs (reason.Barrier b) = has_entry b bs
is_where_a_barrier_is bs _ = true

-- who waits at a barrier waits where one is
abbrev pub waits_where_a_barrier_is : List (Entry Barrier) → Wait → Bool
waits_where_a_barrier_is bs w = is_where_a_barrier_is bs w.reason
