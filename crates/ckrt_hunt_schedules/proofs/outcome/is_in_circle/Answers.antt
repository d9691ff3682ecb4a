use Rattle.std.proofs.Common.{◌≡◌, ◌∙◌, ◌+◌, ◌-◌, ℕ, suc, Option, Some, ap, sym, arith}
use Rattle.ckrt_hunt_schedules.specs.Outcomes.{is_reached}
use Rattle.ckrt_hunt_schedules.proofs.CircleLemmas.{from_nobody, reached_at, reached_on, unreached}
use Rattle.ckrt_hunt_schedules.proofs.outcome.is_in_circle.Goals as goal

-- the thread waits for nobody
pub returns-in_default : goal.returns-in_default
returns-in_default c =
    let s = c.args.tables.now in
    let t = c.args.thread in
    let left = 64 - c.loop-turn._turn in
    sym (from_nobody s t left) ∙ ap (λ (o : Option ℕ). is_reached s t left o) (sym c.in_default.is) ∙ c.loop-turn.invariant

-- it is reached
pub returns-then-other-thread : goal.returns-then-other-thread
returns-then-other-thread c =
    let s = c.args.tables.now in
    let t = c.args.thread in
    let turn = c.loop-turn._turn in
    let left : suc (63 - turn) ≡ 64 - turn = omega (arith, c.loop-turn-test.true) in
    sym (reached_at s t (63 - turn) c.in-Some.other c.if-other-thread.true) ∙ ap (λ n. is_reached s t n (Some c.in-Some.other)) left
    ∙ ap (λ (o : Option ℕ). is_reached s t (64 - turn) o) (sym c.in-Some.is)
    ∙ c.loop-turn.invariant

-- whom that one waits for comes next
pub loop-turn-preserved : goal.loop-turn-preserved
loop-turn-preserved c =
    let s = c.args.tables.now in
    let t = c.args.thread in
    let turn = c.loop-turn._turn in
    let next = c.blocker_of-from-in-loop-turn.result in
    let left : suc (63 - turn) ≡ 64 - turn = omega (arith, c.loop-turn-test.true) in
    let back : 64 - (turn + 1) ≡ 63 - turn = omega arith in
    ap (λ n. is_reached s t n next) back ∙ ap (λ (o : Option ℕ). is_reached s t (63 - turn) o) c.blocker_of-from-in-loop-turn.ensures
    ∙ sym (reached_on s t (63 - turn) c.in-Some.other c.if-other-thread.false)
    ∙ ap (λ n. is_reached s t n (Some c.in-Some.other)) left
    ∙ ap (λ (o : Option ℕ). is_reached s t (64 - turn) o) (sym c.in-Some.is)
    ∙ c.loop-turn.invariant

-- more threads than there are were looked at
pub returns : goal.returns
returns c =
    let s = c.args.tables.now in
    let t = c.args.thread in
    let none : 0 ≡ 64 - c.loop-turn._turn = omega (arith, c.loop-turn-test.false) in
    sym (unreached s t c.loop-turn.from) ∙ ap (λ n. is_reached s t n c.loop-turn.from) none ∙ c.loop-turn.invariant
