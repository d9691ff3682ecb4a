-- Quiet steps in a row: where they lead, and their lines, which are none but that of a fault by the last.
use Rattle.std.proofs.Common.{◌≡◌, ◌∙◌, ◌≤◌, ◌<◌, ◌+◌, ℕ, zero, suc, true, if◌then◌else◌, List, [], ◌++◌, None, refl, sym, ap, arith}
use Rattle.ckrt_calls.specs.declared.table.Status.{Status}
use Rattle.ckrt_calls.specs.declared.table.Status.TheVariants as status
use Rattle.ckrt_machine.specs.Runs.{after_steps, stop_after, stop_of, with_byte}
use Rattle.ckrt_machine.specs.Steps.{State, hart_of, hart_step}
use Rattle.ckrt_look_calls.specs.declared.lines.Place.{Place}
use Rattle.ckrt_look_calls.specs.Events.{at, lines_after, state_behind}
use Rattle.ckrt_look_calls.specs.Lines.{caller_of, fault_line, lines_between, step_lines, waiting_of}
use Rattle.ckrt_look_recording.specs.Quiet.{is_quiet, is_quiet_after}
use Rattle.ckrt_look_calls.proofs.RunLemmas.{lines_next, state_next}

abbrev pub GoOnQuietly : (made h : ℕ) → State → List ℕ → Type 0
GoOnQuietly made h s out =
    ((k : ℕ) → k < made → stop_after k h s out ≡ None) × ((k : ℕ) → k < made → is_quiet_after k h s out ≡ true)

-- where n more may come
pub quiet_state : (made n all h : ℕ) (s : State) (out : List ℕ) → all ≡ made + n → ((k : ℕ) → k < made → stop_after k h s out ≡ None)
    → state_behind all h s out ≡ state_behind n h (after_steps made h s out).state (after_steps made h s out).output
quiet_state zero n all h s out is going = let same : all ≡ n = omega (arith, is) in ap (λ j. state_behind j h s out) same
quiet_state (suc m) n all h s out is going =
    let next : all ≡ suc (m + n) = omega (arith, is) in
    ap (λ j. state_behind j h s out) next ∙ state_next (m + n) h s out (going 0 (omega arith))
    ∙ quiet_state m n (m + n) h (hart_step h s).state (with_byte (hart_step h s).put out) refl (λ k less. going (suc k) (omega (arith, less)))

-- LINES

no_fault : (p : Place) (h : ℕ) (s : State) (out : List ℕ) → stop_of h s.tables out ≡ None → fault_line p s.tables.status ≡ []
no_fault p h s out going = go s.tables.status refl
  where
    go : (w : Status) → s.tables.status ≡ w → fault_line p s.tables.status ≡ []
    go status.Running e = ap (fault_line p) e
    go (status.Exited v) e = ap (fault_line p) e
    go (status.Faulted t pc c) e = absurd (cc)

quiet_line : (p : Place) (h : ℕ) (s : State) → is_quiet (hart_of s.tables h) s ≡ true → step_lines p h s ≡ fault_line p (hart_step h s).state.tables.status
quiet_line p h s quiet =
    ap (λ b. (if b then [] else lines_between p (caller_of (hart_of s.tables h) s) (waiting_of s.tables.threads) (hart_step h s).state.tables) ++ fault_line p (hart_step h s).state.tables.status) quiet

pub quiet_lines : (made n all k p h : ℕ) (s : State) (out : List ℕ) → all ≡ suc made + n → GoOnQuietly (suc made) h s out
    → lines_after k all p h s out
    ≡ fault_line (at k (p + made)) (after_steps (suc made) h s out).state.tables.status ++ lines_after k n (p + suc made) h (after_steps (suc made) h s out).state (after_steps (suc made) h s out).output
quiet_lines zero n all k p h s out is quiet =
    let z = (hart_step h s).state in
    let put = with_byte (hart_step h s).put out in
    let next : all ≡ suc n = omega (arith, is) in
    let here : p + 0 ≡ p = omega arith in
    let behind : p + 1 ≡ suc p = omega arith in
    ap (λ j. lines_after k j p h s out) next ∙ lines_next k n p h s out (quiet.0 0 (omega arith))
    ∙ ap (λ l. l ++ lines_after k n (suc p) h z put) (quiet_line (at k p) h s (quiet.1 0 (omega arith)))
    ∙ ap (λ j. fault_line (at k j) z.tables.status ++ lines_after k n (suc p) h z put) (sym here)
    ∙ ap (λ j. fault_line (at k (p + 0)) z.tables.status ++ lines_after k n j h z put) (sym behind)
quiet_lines (suc m) n all k p h s out is quiet =
    let z = (hart_step h s).state in
    let put = with_byte (hart_step h s).put out in
    let end = after_steps (suc m) h z put in
    let next : all ≡ suc (suc m + n) = omega (arith, is) in
    let here : suc p + m ≡ p + suc m = omega arith in
    let behind : suc p + suc m ≡ p + suc (suc m) = omega arith in
    ap (λ j. lines_after k j p h s out) next ∙ lines_next k (suc m + n) p h s out (quiet.0 0 (omega arith))
    ∙ ap (λ l. l ++ lines_after k (suc m + n) (suc p) h z put) (quiet_line (at k p) h s (quiet.1 0 (omega arith)) ∙ no_fault (at k p) h z put (quiet.0 1 (omega arith)))
    ∙ quiet_lines m n (suc m + n) k (suc p) h z put refl ((λ j less. quiet.0 (suc j) (omega (arith, less))), (λ j less. quiet.1 (suc j) (omega (arith, less))))
    ∙ ap (λ j. fault_line (at k j) end.state.tables.status ++ lines_after k n (suc p + suc m) h end.state end.output) here
    ∙ ap (λ j. fault_line (at k (p + suc m)) end.state.tables.status ++ lines_after k n j h end.state end.output) behind

-- the same by where they lead
pub told_quietly : (quiet n all k p last h : ℕ) (s z : State) (out put : List ℕ) (w : Status) → all ≡ quiet + n → 1 ≤ quiet → suc last ≡ p + quiet → z ≡ (after_steps quiet h s out).state → put ≡ (after_steps quiet h s out).output → w ≡ z.tables.status
    → GoOnQuietly quiet h s out → lines_after k all p h s out ≡ fault_line (at k last) w ++ lines_after k n (p + quiet) h z put
told_quietly zero n all k p last h s z out put w is some behind state output ended quiet = absurd (omega (arith, some))
told_quietly (suc m) n all k p last h s z out put w is some behind state output ended quiet =
    let end = after_steps (suc m) h s out in
    let place : p + m ≡ last = omega (arith, behind) in
    let status_is : end.state.tables.status ≡ w = ap (λ (y : State). y.tables.status) (sym state) ∙ sym ended in
    quiet_lines m n all k p h s out is quiet ∙ ap (λ j. fault_line (at k j) end.state.tables.status ++ lines_after k n (p + suc m) h end.state end.output) place
    ∙ ap (λ (v : Status). fault_line (at k last) v ++ lines_after k n (p + suc m) h end.state end.output) status_is
    ∙ ap (λ (y : State). fault_line (at k last) w ++ lines_after k n (p + suc m) h y end.output) (sym state)
    ∙ ap (λ o. fault_line (at k last) w ++ lines_after k n (p + suc m) h z o) (sym output)
