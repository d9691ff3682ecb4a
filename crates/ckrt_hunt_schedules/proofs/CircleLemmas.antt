-- Who waits for whom in a circle, one thread after another.
use Rattle.std.proofs.Common.{◌≡◌, ◌++◌, ℕ, zero, suc, ◌==◌, ◌||◌, Bool, true, false, Option, Some, None, List, [], ap, refl, arith}
use Rattle.std.proofs.lemmas.Bool.Decides.{nat_tests}
use Rattle.std.specs.List.{find}
use Rattle.ckrt_thread.specs.Waits.{is_of}
use Rattle.ckrt_calls.specs.declared.table.Tables.{Tables}
use Rattle.ckrt_hunt_schedules.specs.declared.outcome.Waiting.{Waiting}
use Rattle.ckrt_hunt_schedules.specs.Outcomes.{blocker_of, circled_among, circled_by, is_in_circle, is_reached, waiting_by}

-- nobody is reached within no threads, nor from nobody
pub unreached : (s : Tables) (t : ℕ) (from : Option ℕ) → is_reached s t 0 from ≡ false
unfolding is_reached
unreached s t from = refl

pub from_nobody : (s : Tables) (t n : ℕ) → is_reached s t n None ≡ false
unfolding is_reached
from_nobody s t zero = refl
from_nobody s t (suc n) = refl

-- who is there already is reached; else whom that one waits for comes next
pub reached_at : (s : Tables) (t n u : ℕ) → u ≡ t → is_reached s t (suc n) (Some u) ≡ true
unfolding is_reached
reached_at s t n u e =
    let yes : (u == t) ≡ true = grind (arith, nat_tests, e) in
    ap (λ (b : Bool). b || is_reached s t n (blocker_of s u)) yes

pub reached_on : (s : Tables) (t n u : ℕ) → (u ≡ t → ⊥) → is_reached s t (suc n) (Some u) ≡ is_reached s t n (blocker_of s u)
unfolding is_reached
reached_on s t n u e =
    let no : (u == t) ≡ false = grind (arith, nat_tests, e) in
    ap (λ (b : Bool). b || is_reached s t n (blocker_of s u)) no

pub none_circled : (s : Tables) → circled_among s 0 ≡ []
unfolding circled_among
none_circled s = refl

pub circled_on : (s : Tables) (n t : ℕ) (ws : List Waiting) → t ≡ suc n → ws ≡ circled_among s n → ws ++ circled_by (is_in_circle s t) (waiting_by s.mutexes t (find (is_of t) s.threads.waits)) ≡ circled_among s t
unfolding circled_among
circled_on s n t ws e h = rw (e, h) refl
