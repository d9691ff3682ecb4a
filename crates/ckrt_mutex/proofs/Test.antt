-- The test of each wait says that threads and mutexes are well-formed together.
use Rattle.std.proofs.Common.{◌≡◌, ℕ, nat_le, Bool, true, false, ◌&&◌, List, Option, Some, None, refl, arith}
use Rattle.std.specs.List.{list_all}
use Rattle.std.proofs.lemmas.Bool.Decides.{nat_tests}
use Rattle.ckrt_thread.specs.declared.records.Wait.{Wait}
use Rattle.ckrt_thread.specs.State.{State}
use Rattle.ckrt_objects.specs.declared.address_map.Entry.{Entry}
use Rattle.ckrt_objects.proofs.Waits.{all_four}
use Rattle.ckrt_mutex.specs.declared.records.Mutex.{Mutex}
use Rattle.ckrt_mutex.specs.Mutex.{IsTable}
use Rattle.ckrt_mutex.specs.Rows.{named, used_count}
use Rattle.ckrt_mutex.specs.WellFormed.{waits_at_owned, relocks_normal, retakes_of_another, can_wake, may_wait_at, meets, meets_at, IsWellFormedWith}

four_at : (ms : List (Entry Mutex)) (o : Option ℕ) (w : Wait) → meets_at may_wait_at ms o w ≡ (meets_at waits_at_owned ms o w && meets_at relocks_normal ms o w && meets_at retakes_of_another ms o w && meets_at can_wake ms o w)
four_at ms None w = refl
four_at ms (Some a) w = refl

four_rules : (s : State) (ms : List (Entry Mutex)) → list_all (meets may_wait_at ms) s.waits ≡ (list_all (meets waits_at_owned ms) s.waits && list_all (meets relocks_normal ms) s.waits && list_all (meets retakes_of_another ms) s.waits && list_all (meets can_wake ms) s.waits)
four_rules s ms =
    all_four (meets waits_at_owned ms) (meets relocks_normal ms) (meets retakes_of_another ms) (meets can_wake ms) (meets may_wait_at ms) (λ w. four_at ms (named w) w) s.waits

parts : (a b c d : Bool) → (a && b && c && d) ≡ true → (a ≡ true) × (b ≡ true) × (c ≡ true) × (d ≡ true)
parts true true true true h = (refl, refl, refl, refl)
parts true true true false h = absurd (cc)
parts true true false d h = absurd (cc)
parts true false c d h = absurd (cc)
parts false b c d h = absurd (cc)

joined : (a b c d : Bool) → a ≡ true → b ≡ true → c ≡ true → d ≡ true → (a && b && c && d) ≡ true
joined a b c d p q r t = rw (p, q, r, t) refl

pub tested : (s : State) (ms : List (Entry Mutex)) → IsTable ms → nat_le (used_count s ms) 256 ≡ true → list_all (meets may_wait_at ms) s.waits ≡ true → IsWellFormedWith s ms
tested s ms t few all =
    let r = parts _ _ _ _ (rw (four_rules s ms) at all) in
    record {
      table = t;
      at_most_256_in_use = grind (arith, nat_tests, few);
      nobody_waits_at_a_free_mutex = r.0;
      only_a_normal_mutex_waits_for_its_owner = r.1;
      nobody_retakes_its_own_mutex = r.2;
      condition_waiters_can_retake = r.3;
    }

pub rules_met : (s : State) (ms : List (Entry Mutex)) → IsWellFormedWith s ms → list_all (meets may_wait_at ms) s.waits ≡ true
rules_met s ms h =
    rw (four_rules s ms)
    (joined _ _ _ _ h.nobody_waits_at_a_free_mutex h.only_a_normal_mutex_waits_for_its_owner h.nobody_retakes_its_own_mutex h.condition_waiters_can_retake)

pub few_met : (s : State) (ms : List (Entry Mutex)) → IsWellFormedWith s ms → nat_le (used_count s ms) 256 ≡ true
few_met s ms h = (let f = h.at_most_256_in_use in grind (arith, nat_tests, f))
