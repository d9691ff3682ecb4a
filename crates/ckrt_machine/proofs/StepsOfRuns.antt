-- A run is its steps, up to the first that ends it.
use Rattle.std.proofs.Common.{◌≡◌, ◌⊎◌, ℕ, zero, suc, ◌+◌, ◌<◌, ◌≤◌, List, Option, Some, None, refl, arith}
use mathlib.Core.Logic.{inl, inr}
use Rattle.ckrt_machine.specs.declared.event.RunEnd.{RunEnd}
use Rattle.ckrt_machine.specs.declared.event.RunEnd.TheVariants.{On}
use Rattle.ckrt_machine.specs.Steps.{State, hart_step}
use Rattle.ckrt_machine.specs.Runs.{stopped, run_on, with_byte, stop_after, HasMade}

-- what the first step leaves
abbrev next_state : ℕ → State → State
next_state h s = (hart_step h s).state

abbrev next_output : ℕ → State → List ℕ → List ℕ
next_output h s out = with_byte (hart_step h s).put out

goes_on : (m h : ℕ) (s : State) (out : List ℕ) → stop_after 1 h s out ≡ None → ((k : ℕ) → 1 ≤ k → k < m → stop_after k h (next_state h s) (next_output h s out) ≡ None)
    → (k : ℕ) → 1 ≤ k → k < suc m → stop_after k h s out ≡ None
goes_on m h s out first more zero least most = absurd (omega arith)
goes_on m h s out first more (suc zero) least most = first
goes_on m h s out first more (suc (suc k)) least most = more (suc k) (omega arith) (omega arith)

all_made : (m h : ℕ) (s : State) (out : List ℕ) → stop_after 1 h s out ≡ None → (1 ≤ m → stop_after m h (next_state h s) (next_output h s out) ≡ None)
    → stop_after (suc m) h s out ≡ None
all_made zero h s out first more = first
all_made (suc m) h s out first more = more (omega arith)

ended : (n m h : ℕ) (s : State) (out : List ℕ) (how : RunEnd) → stop_after 1 h s out ≡ None
    → ((1 ≤ m) × (stop_after m h (next_state h s) (next_output h s out) ≡ Some how)) ⊎ ((m ≡ n) × (how ≡ On) × (1 ≤ m → stop_after m h (next_state h s) (next_output h s out) ≡ None))
    → ((1 ≤ suc m) × (stop_after (suc m) h s out ≡ Some how)) ⊎ ((suc m ≡ suc n) × (how ≡ On) × (1 ≤ suc m → stop_after (suc m) h s out ≡ None))
ended n m h s out how first (inl last) = inl (omega arith, last.1)
ended n m h s out how first (inr all) = let same : m ≡ n = all.0 in inr (omega arith, all.1, λ l. all_made m h s out first all.2)

by_stop : (o : Option RunEnd) (n h : ℕ) (s : State) (out : List ℕ) → stop_after 1 h s out ≡ o → (m : ℕ) × HasMade n m h (next_state h s) (next_output h s out) (run_on n h (next_state h s) (next_output h s out))
    → (m : ℕ) × HasMade (suc n) m h s out (stopped (run_on n) o n h (next_state h s) (next_output h s out))
by_stop (Some how) n h s out is rest = (
  1,
  record {
    count = omega arith;
    state = refl;
    output = refl;
    goes_on = λ k least most. absurd (omega arith);
    ended = inl (omega arith, is);
  },
)
by_stop None n h s out is rest = let made = rest.1 in (
  suc rest.0,
  record {
    count = (let c : (run_on n h (next_state h s) (next_output h s out)).left + rest.0 ≡ n = made.count in omega arith);
    state = made.state;
    output = made.output;
    goes_on = goes_on rest.0 h s out is made.goes_on;
    ended = ended n rest.0 h s out _ is made.ended;
  },
)

pub made_steps : (n h : ℕ) (s : State) (out : List ℕ) → (m : ℕ) × HasMade n m h s out (run_on n h s out)
made_steps zero h s out = (
  0,
  record {
    count = refl;
    state = refl;
    output = refl;
    goes_on = λ k least most. absurd (omega arith);
    ended = inr (refl, refl, λ l. absurd (omega arith));
  },
)
made_steps (suc n) h s out = by_stop (stop_after 1 h s out) n h s out refl (made_steps n h (next_state h s) (next_output h s out))
