-- A run that is cut, and gone on with.
use Rattle.std.proofs.Common.{◌≡◌, ℕ, zero, suc, ◌+◌, ◌-◌, ◌<◌, ◌≤◌, List, Option, Some, None, refl, ap, ◌∙◌, arith}
use Rattle.ckrt_machine.specs.declared.event.RunEnd.{RunEnd}
use Rattle.ckrt_machine.specs.declared.event.RunEnd.TheVariants.{On}
use Rattle.ckrt_machine.specs.Steps.{State, hart_step}
use Rattle.ckrt_machine.specs.Runs.{Ran, after_steps, run_on, stop_after, stopped, with_byte}

-- what the first step leaves
abbrev next_state : ℕ → State → State
next_state h s = (hart_step h s).state

abbrev next_output : ℕ → State → List ℕ → List ℕ
next_output h s out = with_byte (hart_step h s).put out

-- no more are left than there were
left_by : (o : Option RunEnd) (n h : ℕ) (s : State) (out : List ℕ) → (run_on n h s out).left ≤ n → (stopped (run_on n) o n h s out).left ≤ n
left_by None n h s out few = few
left_by (Some how) n h s out few = omega arith

left_within : (n h : ℕ) (s : State) (out : List ℕ) → (run_on n h s out).left ≤ n
left_within zero h s out = omega arith
left_within (suc n) h s out =
    let few = left_by (stop_after 1 h s out) n h (next_state h s) (next_output h s out) (left_within n h (next_state h s) (next_output h s out)) in
    omega (arith, few)

-- some steps, and more of them
pub more_steps : (k m h : ℕ) (s : State) (out : List ℕ) → after_steps k h (after_steps m h s out).state (after_steps m h s out).output ≡ after_steps (m + k) h s out
more_steps k zero h s out = (let same : k ≡ 0 + k = omega arith in ap (λ j. after_steps j h s out) same)
more_steps k (suc m) h s out = (let same : suc (m + k) ≡ suc m + k = omega arith in more_steps k m h (next_state h s) (next_output h s out) ∙ ap (λ j. after_steps j h s out) same)

-- a run makes a step
pub some_step : (n h : ℕ) (s : State) (out : List ℕ) → 1 ≤ n → 1 ≤ n - (run_on n h s out).left
some_step zero h s out some = absurd (omega arith)
some_step (suc n) h s out some =
    let few = left_by (stop_after 1 h s out) n h (next_state h s) (next_output h s out) (left_within n h (next_state h s) (next_output h s out)) in
    omega (arith, few)

-- a run of at most n steps makes more than k: the first k of them are a run, and the others are one from there on
pub record IsCut (k n h : ℕ) (s : State) (out : List ℕ) : Type 0 where
  pub whole : run_on n h s out ≡ run_on (n - k) h (after_steps k h s out).state (after_steps k h s out).output
  pub part : run_on k h s out ≡ record { left = 0; how = On; state = (after_steps k h s out).state; output = (after_steps k h s out).output }
  pub going : 1 ≤ k → stop_after k h s out ≡ None

-- where the first step doesn't end it
abbrev goes : ℕ → ℕ → State → List ℕ → Ran
goes n h s out = stopped (run_on n) (stop_after 1 h s out) n h (next_state h s) (next_output h s out)

going_on : (j h : ℕ) (s : State) (out : List ℕ) → stop_after 1 h s out ≡ None → (1 ≤ j → stop_after j h (next_state h s) (next_output h s out) ≡ None) → stop_after (suc j) h s out ≡ None
going_on zero h s out first more = first
going_on (suc j) h s out first more = more (omega arith)

cut_next : (j n h : ℕ) (s : State) (out : List ℕ) → stop_after 1 h s out ≡ None → IsCut j n h (next_state h s) (next_output h s out) → IsCut (suc j) (suc n) h s out
cut_next j n h s out first c =
    let on : (i : ℕ) → goes i h s out ≡ run_on i h (next_state h s) (next_output h s out) = λ i. ap (λ o. stopped (run_on i) o i h (next_state h s) (next_output h s out)) first in
    let less : n - j ≡ suc n - suc j = omega arith in
    record {
      whole = on n ∙ c.whole ∙ ap (λ i. run_on i h (after_steps (suc j) h s out).state (after_steps (suc j) h s out).output) less;
      part = on j ∙ c.part;
      going = λ _. going_on j h s out first c.going;
    }

cut_by : (o : Option RunEnd) (j n h : ℕ) (s : State) (out : List ℕ) → stop_after 1 h s out ≡ o → suc j < suc n - (stopped (run_on n) o n h (next_state h s) (next_output h s out)).left
    → (j < n - (run_on n h (next_state h s) (next_output h s out)).left → IsCut j n h (next_state h s) (next_output h s out)) → IsCut (suc j) (suc n) h s out
cut_by (Some how) j n h s out is few more = absurd (omega (arith, few))
cut_by None j n h s out is few more =
    let within = left_within n h (next_state h s) (next_output h s out) in
    cut_next j n h s out is (more (omega (arith, few, within)))

pub cut : (k n h : ℕ) (s : State) (out : List ℕ) → k < n - (run_on n h s out).left → IsCut k n h s out
cut zero n h s out few = (let all : n ≡ n - 0 = omega arith in record { whole = ap (λ i. run_on i h s out) all; part = refl; going = λ some. absurd (omega arith) })
cut (suc j) zero h s out few = absurd (omega (arith, few))
cut (suc j) (suc n) h s out few = cut_by (stop_after 1 h s out) j n h s out refl few (λ less. cut j n h (next_state h s) (next_output h s out) less)
