-- How many records well-formed tables have at most.
use Rattle.std.proofs.Common.{◌≡◌, ℕ, ◌≤◌, ◌<◌, true, false, eqb, ◌∷◌, length, arith}
use Rattle.std.specs.List.{list_any, IsDistinct}
use Rattle.std.proofs.lemmas.Bool.Decides.{nat_tests}
use Rattle.std.proofs.lemmas.List.{length-map}
use Rattle.std.proofs.lemmas.Map.Steps.{length-le_from_distinct_below}
use Rattle.ckrt_thread.specs.Waits.{is_of}
use Rattle.ckrt_thread.specs.State as threads
use Rattle.ckrt_thread.proofs.Counting.{none_of_count}
use Rattle.ckrt_thread.proofs.Known.{waiting_index}
use Rattle.ckrt_thread.specs.Queues.{ids}
use Rattle.ckrt_thread.proofs.WaitLemmas.{apart, ids_distinct}
use Rattle.ckrt_thread.proofs.QueueLemmas.{ids_any}
use Rattle.ckrt_objects.proofs.InUse.{entries_le}
use Rattle.ckrt_mutex.specs.Rows as mutex
use Rattle.ckrt_rwlock.specs.Rows as rwlock
use Rattle.ckrt_calls.specs.declared.table.Tables.{Tables}
use Rattle.ckrt_calls.specs.WellFormed.{IsWellFormed}
use Rattle.ckrt_tables.specs.Writing.{IsFew}

below_65 : (s : threads.State) (q : ℕ) → threads.IsWellFormed s → list_any (eqb q) (0 ∷ ids s.waits) ≡ true → q < 65
below_65 s q h e =
    let f : threads.is_waiting s q ≡ true → q < 65 = waiting_index s q h in
    grind (arith, nat_tests, ids_any q s.waits, f)

-- who waits, waits once, and is one of 64
pub few_waits : (s : threads.State) → threads.IsWellFormed s → length s.waits ≤ 64
unfolding IsDistinct
few_waits s h =
    let none : threads.is_waiting s 0 ≡ false = none_of_count (is_of 0) s.waits (let z = h.zero in grind (arith, nat_tests, h.placed 0)) in
    let distinct : IsDistinct eqb (0 ∷ ids s.waits) = (apart 0 s.waits none, ids_distinct s.waits (λ q. grind (arith, nat_tests, h.placed q))) in
    let below : length (0 ∷ ids s.waits) ≤ 65 = length-le_from_distinct_below (0 ∷ ids s.waits) 65 distinct (λ q e. below_65 s q h e) in
    omega (arith, below, length-map s.waits (λ w. w.thread))

pub few : (s : Tables) → IsWellFormed s → IsFew s
few s h = record {
  waits = few_waits s.threads h.threads;
  mutexes = (let used = h.mutexes.at_most_256_in_use in let le = entries_le mutex.named s.threads.waits s.mutexes h.mutexes.table.rising in omega (arith, used, le));
  barriers = h.barriers.table.at_most_64;
  rwlocks = (let used = h.rwlocks.at_most_64_in_use in let le = entries_le rwlock.named s.threads.waits s.rwlocks h.rwlocks.table.rising in omega (arith, used, le));
  input = h.input;
}
