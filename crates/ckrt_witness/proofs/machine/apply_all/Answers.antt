use Rattle.std.proofs.Common.{◌≡◌, ◌∙◌, ◌+◌, ◌<◌, ◌∷◌, ◌++◌, [], List, length, take, ap, sym, subst}
use Rattle.std.proofs.lemmas.List.{take_more}
use Rattle.ckrt_events.specs.declared.event.Event.{Event}
use Rattle.ckrt_witness.specs.Machine.{WereAccepted}
use Rattle.ckrt_witness.proofs.MachineLemmas.{one_applied}
use Rattle.ckrt_witness.proofs.machine.apply_all.Goals as goal

pub loop-event-preserved : goal.loop-event-preserved
loop-event-preserved c =
    let s = c.args.machine.now.state in
    let i = c.loop-event.event-index in
    let x = c.event-item.result in
    let xs = c.args.events.now in
    let z = c.apply.new.machine.state in
    let lt : i < length xs = c.loop-event-test.true in
    let next : take (i + 1) xs ≡ take i xs ++ x ∷ [] = take_more xs i x lt ∙ ap (λ (e : Event). take i xs ++ e ∷ []) (sym c.event-item.is) in
    let one = one_applied (take i xs) x s c.loop-event.machine.state z c.loop-event.put c.in-Some.more c.loop-event.invariant c.in-Some.ensures in
    subst (λ (es : List Event). WereAccepted es s z c.is_either-put.result) (sym next) (subst (WereAccepted (take i xs ++ x ∷ []) s z) (sym c.is_either-put.ensures) one)
