-- A run to a reason to stop is its steps, up to the first that ends it or the first before which the reason is met.
use Rattle.std.proofs.Common.{◌≡◌, ℕ, zero, suc, ◌+◌, ◌-◌, ◌<◌, ◌≤◌, cond, List, Bool, true, false, Option, Some, None, refl, ap, sym, subst, arith}
use mathlib.Core.Logic.{inl, inr}
use Rattle.ckrt_memory.specs.Reasons.{Meets}
use Rattle.ckrt_machine.specs.declared.event.RunEnd.{RunEnd}
use Rattle.ckrt_machine.specs.Steps.{State, hart_step}
use Rattle.ckrt_machine.specs.Runs.{Stepping, with_byte, stop_after}
use Rattle.ckrt_machine.specs.RunsTo.{Ended, EndedBy, HasMadeTo, RanTo, continued_to, meets_after, meets_on, run_to, stopped_to}

-- what the first step leaves
abbrev next_state : ℕ → State → State
next_state h s = (hart_step h s).state

abbrev next_output : ℕ → State → List ℕ → List ℕ
next_output h s out = with_byte (hart_step h s).put out

abbrev here : State → List ℕ → Stepping
here s out = record { state = s; output = out }

abbrev next : ℕ → State → List ℕ → Stepping
next h s out = here (next_state h s) (next_output h s out)

module _ (meets : Meets) (h : ℕ) (s : State) (out : List ℕ) (not : meets_on meets h s ≡ false) where
  unmet_on : (m : ℕ) → ((k : ℕ) → k < m → meets_after meets k h (next_state h s) (next_output h s out) ≡ false) → (k : ℕ) → k < suc m → meets_after meets k h s out ≡ false
  unmet_on m more zero less = not
  unmet_on m more (suc k) less = more k (omega (arith, less))

  -- where the first step doesn't end it
  module _ (first : stop_after 1 h s out ≡ None) where
    goes_on : (m : ℕ) → ((k : ℕ) → 1 ≤ k → k < m → stop_after k h (next_state h s) (next_output h s out) ≡ None) → (k : ℕ) → 1 ≤ k → k < suc m → stop_after k h s out ≡ None
    goes_on m more zero least most = absurd (omega arith)
    goes_on m more (suc zero) least most = first
    goes_on m more (suc (suc k)) least most = more (suc k) (omega arith) (omega arith)

    all_made : (m : ℕ) → (1 ≤ m → stop_after m h (next_state h s) (next_output h s out) ≡ None) → stop_after (suc m) h s out ≡ None
    all_made zero more = first
    all_made (suc m) more = more (omega arith)

    ended : (n m : ℕ) (how : RunEnd) → Ended n m h (next h s out) how → Ended (suc n) (suc m) h (here s out) how
    ended n m how (inl last) = inl (omega arith, last.1)
    ended n m how (inr all) = (let same : m ≡ n = all.0 in inr (omega arith, all.1, λ l. all_made m all.2))

    ended_by : (n m : ℕ) (how : Option RunEnd) → EndedBy meets n m h (next h s out) how → EndedBy meets (suc n) (suc m) h (here s out) how
    ended_by n m None is = (let some = is.some in record { some = omega (arith, some); met = is.met; going = λ l. all_made m is.going })
    ended_by n m (Some how) is = ended n m how is

  by_stop : (o : Option RunEnd) (n : ℕ) → stop_after 1 h s out ≡ o → (m : ℕ) × HasMadeTo meets n m h (next h s out) (run_to meets n h (next_state h s) (next_output h s out))
      → (m : ℕ) × HasMadeTo meets (suc n) m h (here s out) (stopped_to (run_to meets n) o n h (next_state h s) (next_output h s out))
  by_stop (Some how) n is rest = (
    1,
    record {
      count = omega arith;
      state = refl;
      output = refl;
      unmet = unmet_on 0 (λ k less. absurd (omega (arith, less)));
      goes_on = λ k least most. absurd (omega arith);
      ended = inl (omega arith, is);
    },
  )
  by_stop None n is rest = (let made = rest.1 in (
    suc rest.0,
    record {
      count = (let c : (run_to meets n h (next_state h s) (next_output h s out)).left + rest.0 ≡ n = made.count in omega arith);
      state = made.state;
      output = made.output;
      unmet = unmet_on rest.0 made.unmet;
      goes_on = goes_on is rest.0 made.goes_on;
      ended = ended_by is n rest.0 _ made.ended;
    },
  ))

by_reason : (b : Bool) (meets : Meets) (n h : ℕ) (s : State) (out : List ℕ) → meets_on meets h s ≡ b
    → (meets_on meets h s ≡ false → (m : ℕ) × HasMadeTo meets (suc n) m h (here s out) (continued_to (run_to meets n) n h out (hart_step h s)))
    → (m : ℕ) × HasMadeTo meets (suc n) m h (here s out) (cond b (record { left = suc n; how = None; state = s; output = out }) (continued_to (run_to meets n) n h out (hart_step h s)))
by_reason true meets n h s out is more = (
  0,
  record {
    count = omega arith;
    state = refl;
    output = refl;
    unmet = λ k less. absurd (omega (arith, less));
    goes_on = λ k least most. absurd (omega arith);
    ended = record { some = omega arith; met = is; going = λ l. absurd (omega arith) };
  },
)
by_reason false meets n h s out is more = more is

pub made_steps_to : (meets : Meets) (n h : ℕ) (s : State) (out : List ℕ) → (m : ℕ) × HasMadeTo meets n m h (here s out) (run_to meets n h s out)
made_steps_to meets zero h s out = (
  0,
  record {
    count = refl;
    state = refl;
    output = refl;
    unmet = λ k less. absurd (omega (arith, less));
    goes_on = λ k least most. absurd (omega arith);
    ended = inr (refl, refl, λ l. absurd (omega arith));
  },
)
made_steps_to meets (suc n) h s out = by_reason (meets_on meets h s) meets n h s out refl (λ not. by_stop meets h s out not (stop_after 1 h s out) n refl (made_steps_to meets n h (next_state h s) (next_output h s out)))

-- the same of what a run left, so many of its steps not made
pub has_made : (meets : Meets) (n h : ℕ) (s : State) (out : List ℕ) (ran : RanTo) → ran ≡ run_to meets n h s out → HasMadeTo meets n (n - ran.left) h (here s out) ran
has_made meets n h s out ran is =
    let made = made_steps_to meets n h s out in
    let all : (run_to meets n h s out).left + made.0 ≡ n = made.1.count in
    let same : ran.left ≡ (run_to meets n h s out).left = ap (λ (r : RanTo). r.left) is in
    let m : made.0 ≡ n - ran.left = omega (arith, all, same) in
    subst (λ (r : RanTo). HasMadeTo meets n (n - ran.left) h (here s out) r) (sym is) (subst (λ k. HasMadeTo meets n k h (here s out) (run_to meets n h s out)) m made.1)

-- the same on a hart that has two names
pub has_made_on : (meets : Meets) (n h i : ℕ) (s : State) (out : List ℕ) (ran : RanTo) → h ≡ i → ran ≡ run_to meets n h s out → HasMadeTo meets n (n - ran.left) i (here s out) ran
has_made_on meets n h i s out ran same is = subst (λ j. HasMadeTo meets n (n - ran.left) j (here s out) ran) same (has_made meets n h s out ran is)
