use Rattle.std.proofs.Common.{rules, ◌≡◌, true, false, Err}
use Rattle.std.specs.Prelude.{is_err}
use Rattle.ckrt_recovery.specs.declared.fault.CommitFault.TheVariants.{Device}
use Rattle.ckrt_witness.proofs.FaultLemmas.{fails_commit}
use Rattle.ckrt_witness.proofs.faults.fail_commit.Goals as goal

pub returns : goal.returns
returns g c = λ honest.
    let refused : is_err c.submit.result ≡ true = search rules in
    let taken : is_err c.submit-2.result ≡ false = search rules in
    let device : c.commit.result ≡ Err Device = search rules in
    fails_commit c.args.other.now c.args.event.now c.in-Ok.session c.submit.new.self c.submit-2.new.self c.commit.new.self c.submit.result c.submit-2.result c.commit.result _ refused taken device c.submit.ensures.answer c.submit.ensures.view
    c.submit-2.ensures.answer c.submit-2.ensures.view c.in-Ok.ensures.opened c.commit.ensures.disk c.commit.ensures.commits honest c.requires.event
