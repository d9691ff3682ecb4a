use Rattle.std.proofs.Common.{rules, ◌≡◌, false, subst}
use Rattle.std.specs.Prelude.{is_err}
use Rattle.ckrt_witness.proofs.PowerLemmas.{on_ok, represents_one}
use Rattle.ckrt_witness.proofs.alike.represent_one.Goals as goal

pub returns : goal.returns
returns g c = λ honest p start.
    let committed = c.commit-committed in
    let taken : is_err c.submit.result ≡ false = search rules in
    let well : is_err committed.result ≡ false = search rules in
    let first = subst g.D.Disk.is_honest c.submit.ensures.disk (committed.ensures.disk.same.honest honest) in
    represents_one p c.args.disk c.submit.result c.args.event.now c.in-Ok.session c.submit.new.self committed.new.self taken c.in-Ok.ensures.represents c.submit.ensures.represents
    (committed.ensures.represents honest) (on_ok committed.result _ well committed.ensures.commits.ok) g.met.D.Disk.readable first honest start
