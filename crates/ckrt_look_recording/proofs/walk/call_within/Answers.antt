use Rattle.std.proofs.Common.{◌≡◌, ◌∙◌, Some, true, rules}
use Rattle.ckrt_look_recording.specs.Frames.{caller_of, is_kit, rule_at}
use Rattle.ckrt_look_recording.proofs.WalkLemmas.{goes_on}
use Rattle.ckrt_look_recording.proofs.walk.call_within.Goals as goal

pub loop-left-preserved : goal.loop-left-preserved
loop-left-preserved c =
    let here = c.loop-left in
    let rule = c.in_ok-rule.rule in
    let caller = c.in_ok-caller.caller in
    let bytes = c.args.memory.now.bytes in
    let found : rule_at c.args.rules.now here.inner.place ≡ Some rule = search rules in
    let called : caller_of bytes rule here.inner ≡ Some caller = search rules in
    let within : is_kit c.args.kit.now caller.place ≡ true = search rules in
    goes_on here.left c.args.kit.now c.args.rules.now bytes here.inner caller rule c.loop-left-test.true found called within ∙ here.invariant
