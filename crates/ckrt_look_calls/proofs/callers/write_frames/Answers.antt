use Rattle.std.proofs.Common.{◌≡◌, ◌<◌, ◌-◌, List, ℕ, Some, None, subst, rules}
use Rattle.ckrt_look_calls.proofs.AppendLemmas.{Completes, completes_all, completes_more}
use Rattle.ckrt_look_recording.specs.Frames.{next_frame}
use Rattle.ckrt_look_calls.specs.Moments.{caller_line, caller_lines}
use Rattle.ckrt_look_calls.proofs.CallerLemmas.{no_more, one_more}
use Rattle.ckrt_look_calls.proofs.callers.write_frames.Goals as goal

-- the line of one more
pub loop-left-preserved : goal.loop-left-preserved
loop-left-preserved g c =
    let has = g.W.Write.contents in let m = c.args.moment.now in let rules_of = c.args.rules.now in let bytes = c.args.memory.now.bytes in
    let inner = c.loop-left.inner in let caller = c.in-Some.caller in let left = c.loop-left.left in
    let a = has c.args.out.now in let b = has c.loop-left.out in let z = has c.write_caller.new.out in
    let all : List ℕ = caller_lines 16 m rules_of bytes c.args.frame.now in
    let is : next_frame rules_of bytes inner ≡ Some caller = search rules in
    let some : 0 < left = c.loop-left-test.true in
    completes_more a b z (caller_line m caller) (caller_lines (left - 1) m rules_of bytes caller) all
    (subst (λ (l : List ℕ). Completes a b l all) (one_more left m rules_of bytes inner caller some is) c.loop-left.invariant) c.in_ok-write_caller.ensures

-- where there is none, all are written
pub returns-in_default : goal.returns-in_default
returns-in_default g c =
    let has = g.W.Write.contents in let m = c.args.moment.now in let rules_of = c.args.rules.now in let bytes = c.args.memory.now.bytes in
    let inner = c.loop-left.inner in
    let a = has c.args.out.now in let b = has c.loop-left.out in
    let all : List ℕ = caller_lines 16 m rules_of bytes c.args.frame.now in
    let none : next_frame rules_of bytes inner ≡ None = search rules in
    completes_all a b all (subst (λ (l : List ℕ). Completes a b l all) (no_more c.loop-left.left m rules_of bytes inner none) c.loop-left.invariant)
