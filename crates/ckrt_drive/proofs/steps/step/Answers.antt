use Rattle.std.proofs.Common.{rules, ◌≡◌, Err, refl, sym, subst, arith}
use Rattle.ckrt_recovery.specs.View.{view_of}
use Rattle.ckrt_drive.specs.Given.{CountsRead, record_of}
use Rattle.ckrt_schedule.specs.Next.{given_in}
use Rattle.ckrt_drive.specs.Steps.{aim_of}
use Rattle.ckrt_drive.specs.declared.supply.Supply.{Supply}
use Rattle.ckrt_drive.proofs.GivenLemmas.{few_taken}
use Rattle.ckrt_drive.proofs.StepLemmas.{counts_no_read}
use Rattle.ckrt_drive.proofs.WriteLemmas.{steps_unread}
use Rattle.ckrt_drive.proofs.steps.step.Goals as goal

-- the input failed a read: the step might have gone by what is there
pub returns-in_default-clause-steps : goal.returns-in_default-clause-steps
returns-in_default-clause-steps g c =
    let s = c.args.session.now in
    let file = g.F.Feed.file c.args.feed.now in
    let given = given_in file c.args.taken.now s.progress.machine.state.tables in
    let supply : Supply = record { left = c.args.left.now; given = given; recorded = record_of file c.args.taken.now } in
    record {
      supply = supply;
      left = refl;
      steps = steps_unread g.O.Disk (aim_of c.args.options.now supply (view_of s)) s c.args.output.now;
      taken = omega arith;
      supplied = λ honest. record { given = refl; recorded = refl };
    }

pub returns-in_err-did-clause-reads : goal.returns-in_err-did-clause-reads
returns-in_err-did-clause-reads g c =
    let fault = c.in_err-did.field-0.0 in
    let is : c.from_residual.result ≡ Err fault = search rules in
    subst (λ r. CountsRead (g.F.Feed.failures c.args.feed.now) (g.F.Feed.failures c.supply_from.new.feed) r) (sym is)
    (counts_no_read (g.F.Feed.failures c.args.feed.now) (g.F.Feed.failures c.supply_from.new.feed) fault c.in_err-did.ensures.unread)

pub overflow_add-taken : goal.overflow_add-taken
overflow_add-taken g c =
    let few = few_taken c.args.options.now c.in-Ok.supply (view_of c.args.session.now) c.args.taken.now c.in_ok-did.did c.supply_from.ensures.small c.in-Ok.ensures.few c.in_ok-did.ensures.steps.done.0 in
    omega (arith, few, c.taken_in.ensures)
