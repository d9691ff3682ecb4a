use Rattle.std.proofs.Common.{rules, ◌≡◌, ◌∙◌, false, sym, subst}
use Rattle.std.specs.Prelude.{is_err}
use Rattle.ckrt_witness.proofs.PowerLemmas.{on_ok}
use Rattle.ckrt_witness.proofs.PrintedLemmas.{holds_one}
use Rattle.ckrt_witness.proofs.printed.hold_one.Goals as goal

pub returns : goal.returns
returns g c = rw c.into_disk.ensures (λ honest p start.
    let committed = c.commit-committed in
    let well : is_err committed.result ≡ false = search rules in
    let first = subst g.D.Disk.is_honest c.submit.ensures.disk (committed.ensures.disk.same.honest honest) in
    holds_one p c.args.disk c.submit.result c.args.event.now c.in-Ok.session c.submit.new.self committed.new.self (sym c.is_err.ensures.value ∙ c.if-is_err.false) c.in-Ok.ensures.represents c.submit.ensures.represents
    (committed.ensures.represents honest) (on_ok committed.result _ well committed.ensures.commits.ok) first start)
