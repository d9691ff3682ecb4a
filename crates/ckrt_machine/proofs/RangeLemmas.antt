-- Who is planned for a hart has an id of a thread.
use Rattle.std.proofs.Common.{◌≡◌, ℕ, zero, suc, ◌+◌, ◌-◌, ◌<◌, ◌≤◌, Bool, true, false, cond, refl, arith, Option, Some, None}
use Rattle.std.specs.Prelude.{nat_lt, IfSome, ◌&&◌}
use Rattle.ckrt_thread.specs.State as threads
use Rattle.ckrt_calls.specs.declared.table.Tables.{Tables}
use Rattle.ckrt_machine.specs.Steps.{hart_of}
use Rattle.ckrt_machine.specs.Runs.{is_running}
use Rattle.ckrt_machine.specs.Plans.{ready_from, least_ready, or_else, or_zero, next_ready, planned}

ready_at : (c : Bool) (n t u : ℕ) (more : Option ℕ) → ((more ≡ Some u) → (t + 1 ≤ u) × (u < t + 1 + n)) → cond c (Some t) more ≡ Some u → (t ≤ u) × (u < t + suc n)
ready_at true n t u more p h = let same : t ≡ u = cc in (omega arith, omega arith)
ready_at false n t u more p h = let k = p h in (omega (arith, k.0), omega (arith, k.1))

ready_in : (n t : ℕ) (s : threads.State) (u : ℕ) → ready_from n t s ≡ Some u → (t ≤ u) × (u < t + n)
ready_in zero t s u h = cc
ready_in (suc n) t s u h = ready_at (threads.is_ready s t) n t u (ready_from n (t + 1) s) (λ (p : _). ready_in n (t + 1) s u p) h

least_in : (t : ℕ) (s : threads.State) (u : ℕ) → 1 ≤ t → least_ready t s ≡ Some u → (1 ≤ u) × (u ≤ 64)
least_in t s u le h = let k = ready_in (65 - t) t s u h in (omega (arith, k.0), omega (arith, k.0, k.1))

either_in : (a b : Option ℕ) (u : ℕ) → ((a ≡ Some u) → (1 ≤ u) × (u ≤ 64)) → ((b ≡ Some u) → (1 ≤ u) × (u ≤ 64)) → or_else a b ≡ Some u → (1 ≤ u) × (u ≤ 64)
either_in None b u p q h = q h
either_in (Some x) b u p q h = p h

guarded_in : (c : Bool) (o : Option ℕ) (u : ℕ) → ((o ≡ Some u) → (1 ≤ u) × (u ≤ 64)) → cond c o None ≡ Some u → (1 ≤ u) × (u ≤ 64)
guarded_in true o u p h = p h
guarded_in false o u p h = cc

next_in : (h : ℕ) (s : Tables) (u : ℕ) → next_ready h s ≡ Some u → (1 ≤ u) × (u ≤ 64)
next_in h s u e = either_in (least_ready (or_zero (hart_of s h) + 1) s.threads) (least_ready 1 s.threads) u (λ (p : _). least_in (or_zero (hart_of s h) + 1) s.threads u (omega arith) p) (λ (p : _). least_in 1 s.threads u (omega arith) p) e

some_in : (o : Option ℕ) → ((u : ℕ) → o ≡ Some u → (1 ≤ u) × (u ≤ 64)) → IfSome o (λ u. (1 ≤ u) × (u ≤ 64))
some_in None p = tt
some_in (Some u) p = p u refl

pub planned_in_range : (h : ℕ) (s : Tables) → IfSome (planned h s) (λ t. (1 ≤ t) × (t ≤ 64))
planned_in_range h s = some_in (planned h s) (λ u e. guarded_in (is_running s.status && nat_lt h s.threads.hart_count) (next_ready h s) u (λ (p : _). next_in h s u p) e)
