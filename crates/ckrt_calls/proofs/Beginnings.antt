-- The tables that a program begins with are well-formed, whether keys are on or off.
use Rattle.std.proofs.Common.{ℕ, ◌*◌, ◌≤◌, refl, arith}
use Rattle.ckrt_thread.specs.Keys.{KeyTable, keys_off}
use Rattle.ckrt_thread.specs.Contents.{with_keys}
use Rattle.ckrt_thread.specs.State as threads
use Rattle.ckrt_thread.proofs.Changes as changes
use Rattle.ckrt_thread.proofs.KeysKept.{well_formed_keys}
use Rattle.ckrt_barrier.proofs.WellFormed as barriers
use Rattle.ckrt_rwlock.proofs.WellFormed as locks
use Rattle.ckrt_calls.specs.Beginnings.{fresh, with_keys_off}
use Rattle.ckrt_calls.specs.WellFormed.{IsWellFormed}

-- no other rule speaks of the keys
begun : (pages harts : ℕ) (keys : KeyTable) → threads.IsWellFormed (with_keys keys (threads.fresh (4096 * pages) harts))
    → IsWellFormed (record (fresh pages harts) { threads = with_keys keys (threads.fresh (4096 * pages) harts) })
begun pages harts keys w = record {
  threads = w;
  mutexes = record {
    table = record { rising = refl; canonical = refl; proper = refl };
    at_most_256_in_use = omega arith;
    nobody_waits_at_a_free_mutex = refl;
    only_a_normal_mutex_waits_for_its_owner = refl;
    nobody_retakes_its_own_mutex = refl;
    condition_waiters_can_retake = refl;
  };
  conditions = record { one_mutex = λ c a b d e. absurd (cc) };
  barriers = barriers.well_formed_empty (with_keys keys (threads.fresh (4096 * pages) harts)) refl;
  rwlocks = locks.well_formed_unheld (with_keys keys (threads.fresh (4096 * pages) harts)) refl;
  running = λ e. refl;
  deadlines = λ e. refl;
  readers = refl;
  clock = omega arith;
  input = omega arith;
  fault = λ t pc c e. absurd (cc);
  fault_pc = λ t pc c e. absurd (cc);
}

pub well_formed_fresh : (pages harts : ℕ) → harts ≤ 8 → IsWellFormed (fresh pages harts)
well_formed_fresh pages harts l = begun pages harts (threads.fresh (4096 * pages) harts).keys (changes.well_formed_fresh (4096 * pages) harts l)

pub well_formed_keys_off : (pages harts : ℕ) → harts ≤ 8 → IsWellFormed (with_keys_off (fresh pages harts))
well_formed_keys_off pages harts l =
    begun pages harts keys_off (well_formed_keys (threads.fresh (4096 * pages) harts) keys_off (changes.well_formed_fresh (4096 * pages) harts l) refl refl)
