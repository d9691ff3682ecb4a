use Rattle.std.proofs.Common.{◌≤◌, ◌+◌, ◌∙◌, [], length, ap, sym, subst, arith}
use Rattle.ckrt_recovery.specs.View.{View, view_of, confirmed_to}
use Rattle.ckrt_main.specs.Pieces.{Tells, TellsPart}
use Rattle.ckrt_main.specs.Replies.{outputs}
use Rattle.ckrt_recovery.proofs.AcceptLemmas.{accepts_confirmed}
use Rattle.ckrt_disk.proofs.WriteLemmas.{on_err}
use Rattle.ckrt_main.proofs.ResponseLemmas.{answers_output, broken_output}
use Rattle.ckrt_main.proofs.performing.release.Goals as goal

pub returns-clause-ok : goal.returns-clause-ok
returns-clause-ok g c =
    let old = c.args.session.now in
    let mid = c.take_output.follows.lender-at-none in
    let new = c.confirm.new.self in
    let text = g.L.Listener.text in
    let a = g.L.Listener.contents c.args.to.now in
    let b = g.L.Listener.contents c.output.new.to in
    let lent = c.take_output.follows.holds-at-none in
    let same = ap (λ (v : View). v.recovered.confirmed) lent.view in
    let released = c.released-released.ensures in
    let le : mid.progress.confirmed ≤ c.released-released.result = omega (arith, same, released, old.released_from) in
    answers_output a b old mid new lent.view lent.disk
    (accepts_confirmed mid new c.released-released.result le c.confirm.ensures.view c.confirm.ensures.disk c.confirm.ensures.represents)
    (c.confirm.ensures.view ∙ ap (λ n. confirmed_to (view_of mid) n) released)
    (ap (λ l. old.progress.confirmed + length l) (sym c.take_output.ensures.bytes) ∙ c.take_output.ensures.length)
    (λ p events reps. sym c.take_output.ensures.bytes ∙ c.take_output.ensures.output p events reps)
    c.confirm.ensures.represents
    (subst (λ l. Tells text a b (outputs old.progress.confirmed l) []) c.take_output.ensures.bytes (subst (λ n. Tells text a b (outputs n c.take_output.result.1.now) []) c.take_output.ensures.offset c.in_ok-output.ensures.ok))

pub returns-in_err-output-clause-broken : goal.returns-in_err-output-clause-broken
returns-in_err-output-clause-broken g c =
    let old = c.args.session.now in
    let mid = c.take_output.follows.lender-at-none in
    let text = g.L.Listener.text in
    let a = g.L.Listener.contents c.args.to.now in
    let b = g.L.Listener.contents c.output.new.to in
    let lent = c.take_output.follows.holds-at-none in
    let told = subst (λ l. TellsPart text a b (outputs old.progress.confirmed l)) c.take_output.ensures.bytes (subst (λ n. TellsPart text a b (outputs n c.take_output.result.1.now)) c.take_output.ensures.offset c.in_err-output.ensures.broken) in
    on_err _ _ (broken_output a b old mid lent.view lent.disk (λ p events reps. sym c.take_output.ensures.bytes ∙ c.take_output.ensures.output p events reps) told)

pub output-requires : goal.output-requires
output-requires g c =
    let s = c.args.session.now in
    omega (arith, s.released_from, s.released_to, s.progress.bounded_end, c.take_output.ensures.offset, c.take_output.ensures.length)

pub confirm-requires-clause-from : goal.confirm-requires-clause-from
confirm-requires-clause-from g c =
    let same = ap (λ (v : View). v.recovered.confirmed) c.take_output.follows.holds-at-none.view in
    omega (arith, same, c.released-released.ensures, c.args.session.now.released_from)

pub confirm-requires-clause-to : goal.confirm-requires-clause-to
confirm-requires-clause-to g c =
    let same = ap (λ (v : View). v.released) c.take_output.follows.holds-at-none.view in
    omega (arith, same, c.released-released.ensures)
