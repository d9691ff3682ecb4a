use Rattle.std.proofs.Common.{◌≡◌, ◌∙◌, ◌+◌, ◌-◌, ◌∷◌, ℕ, List, true, refl, ap, sym, arith}
use Rattle.ckrt_machine.specs.Runs.{after_steps}
use Rattle.ckrt_machine.specs.Steps.{State, hart_of}
use Rattle.ckrt_look_calls.proofs.RunLemmas.{is_going}
use Rattle.ckrt_look_profile.specs.declared.counts.Note.{Note}
use Rattle.ckrt_look_profile.specs.declared.counts.Note.TheVariants as note
use Rattle.ckrt_look_profile.specs.declared.counts.Step.{Step}
use Rattle.ckrt_look_profile.specs.Counts.{Counts, behind, behind_all, onward}
use Rattle.ckrt_look_profile.specs.Leaving.{addresses}
use Rattle.ckrt_look_profile.specs.Steps.{step_by}
use Rattle.ckrt_look_profile.proofs.LeavingLemmas.{at_leaving, at_once, made_counted, made_state, met_at_calls, quiet_noted, same_thread}
use Rattle.ckrt_look_profile.proofs.WalkLemmas.{more_counted, more_state}
use Rattle.ckrt_look_profile.proofs.walk.count_piece.Goals as goal

pub go_quietly_to-made-requires-clause-calls : goal.go_quietly_to-made-requires-clause-calls
go_quietly_to-made-requires-clause-calls c = met_at_calls

-- no step behind them
pub returns-then-made-limit-clause-state : goal.returns-then-made-limit-clause-state
returns-then-made-limit-clause-state c =
    let go = c.go_quietly_to-made in
    made_state c.args.limit go.result c.args.hart (c.args.limit - go.result) c.args.machine.now go.new.machine (let within = go.ensures.within in omega (arith, within)) go.ensures

pub returns-then-made-limit-clause-counted : goal.returns-then-made-limit-clause-counted
returns-then-made-limit-clause-counted c =
    let go = c.go_quietly_to-made in let old = c.args.machine.now in let h = c.args.hart in
    made_counted c.args.limit go.result h (c.args.limit - go.result) old go.new.machine (let within = go.ensures.within in omega (arith, within)) go.ensures c.args.counts.now c.onward.new.self
    (at_once go.result h _ old.state old.output c.args.counts.now c.onward.new.self c.onward.ensures.none
    (λ further is. c.onward.ensures.some further is ∙ ap (λ (f : Step). behind_all (onward f.thread (f.pc ∷ further)) c.args.counts.now) c.next_step-first.ensures))

-- the step behind them is a call or a return
pub returns-then-is_quiet-clause-state : goal.returns-then-is_quiet-clause-state
returns-then-is_quiet-clause-state c =
    let go = c.go_quietly_to-made in let within = go.ensures.within in let m = go.new.machine in
    more_state (c.args.limit - go.result) (c.args.limit - (go.result + 1)) c.args.hart m c.advance.new.machine (omega (arith, within, c.if-made-limit.false))
    (is_going _ (sym c.is_stopped.ensures ∙ c.if-is_stopped.false)) c.advance.ensures.state c.advance.ensures.output
    ∙ made_state c.args.limit go.result c.args.hart (c.args.limit - go.result) c.args.machine.now m (omega (arith, within)) go.ensures

pub returns-then-is_quiet-clause-counted : goal.returns-then-is_quiet-clause-counted
returns-then-is_quiet-clause-counted c =
    let go = c.go_quietly_to-made in let within = go.ensures.within in let m = go.new.machine in
    let old = c.args.machine.now in let h = c.args.hart in let counts = c.args.counts.now in let turn = c.next_step-last.result.turn in
    let n : ℕ = c.args.limit - go.result in
    let left : c.args.limit ≡ go.result + n = omega (arith, within) in
    let last : Step = step_by (hart_of m.state.tables h) true m.state in
    let who : ℕ = (step_by (hart_of old.state.tables h) true old.state).thread in
    let w : Counts = behind_all (onward who (addresses go.result h old.state old.output)) counts in
    let all : c.leaving.new.self ≡ behind (note.Step last) w =
    at_leaving go.result h who old.state old.output turn counts c.leaving.new.self last (same_thread c.args.limit go.result h n old m left go.ensures) (sym (ap (λ (f : Step). f.turn) c.next_step-last.ensures))
    (λ none. ap (λ (s : State). (step_by (hart_of s.tables h) true s).pc) (go.ensures.state ∙ ap (λ k. (after_steps k h old.state old.output).state) none))
    (λ none. c.leaving.ensures.none none ∙ ap (λ (f : Step). behind (note.Step (record { thread = f.thread; pc = f.pc; turn = turn })) counts) c.next_step-first.ensures)
    (λ further p is. c.leaving.ensures.some further p is
    ∙ ap (λ (f : Step). behind (note.Step (record { thread = f.thread; pc = p; turn = turn })) (behind_all (onward f.thread (f.pc ∷ further)) counts)) c.next_step-first.ensures) in
    more_counted n (c.args.limit - (go.result + 1)) h m c.advance.new.machine (omega (arith, within, c.if-made-limit.false))
    (is_going _ (sym c.is_stopped.ensures ∙ c.if-is_stopped.false)) c.advance.ensures.state c.advance.ensures.output w c.leaving.new.self
    (all ∙ ap (λ (l : List Note). behind_all l w) (sym (quiet_noted h m.state (sym c.is_quiet.ensures ∙ c.if-is_quiet.true))))
    ∙ made_counted c.args.limit go.result h n old m left go.ensures counts w refl

-- it is a call of the runtime
pub returns-clause-state : goal.returns-clause-state
returns-clause-state c =
    let go = c.go_quietly_to-made in let within = go.ensures.within in let m = go.new.machine in
    more_state (c.args.limit - go.result) (c.args.limit - (go.result + 1)) c.args.hart m c.count_step.new.machine (omega (arith, within, c.if-made-limit.false))
    (is_going _ (sym c.is_stopped.ensures ∙ c.if-is_stopped.false)) c.count_step.ensures.state c.count_step.ensures.output
    ∙ made_state c.args.limit go.result c.args.hart (c.args.limit - go.result) c.args.machine.now m (omega (arith, within)) go.ensures

pub returns-clause-counted : goal.returns-clause-counted
returns-clause-counted c =
    let go = c.go_quietly_to-made in let within = go.ensures.within in let m = go.new.machine in
    let old = c.args.machine.now in let h = c.args.hart in
    more_counted (c.args.limit - go.result) (c.args.limit - (go.result + 1)) h m c.count_step.new.machine (omega (arith, within, c.if-made-limit.false))
    (is_going _ (sym c.is_stopped.ensures ∙ c.if-is_stopped.false)) c.count_step.ensures.state c.count_step.ensures.output c.onward-2.new.self c.count_step.new.counts c.count_step.ensures.counted
    ∙ made_counted c.args.limit go.result h (c.args.limit - go.result) old m (omega (arith, within)) go.ensures c.args.counts.now c.onward-2.new.self
    (at_once go.result h _ old.state old.output c.args.counts.now c.onward-2.new.self c.onward-2.ensures.none
    (λ further is. c.onward-2.ensures.some further is ∙ ap (λ (f : Step). behind_all (onward f.thread (f.pc ∷ further)) c.args.counts.now) c.next_step-first.ensures))
