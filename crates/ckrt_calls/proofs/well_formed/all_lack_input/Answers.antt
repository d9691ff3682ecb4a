use Rattle.std.proofs.Common.{◌≡◌, true, false, not, ap, sym, ◌∙◌, is_some}
use Rattle.ckrt_thread.specs.declared.records.Object.TheVariants.{Input}
use Rattle.ckrt_thread.specs.State.{first_waiter}
use Rattle.ckrt_calls.specs.WellFormed.{may_be_read}
use Rattle.ckrt_calls.proofs.Test.{not_not, all_lack_input, nobody_reads}
use Rattle.ckrt_calls.proofs.well_formed.all_lack_input.Goals as goal

pub returns-then-not-may_be_read : goal.returns-then-not-may_be_read
returns-then-not-may_be_read c =
    let nothing : may_be_read c.args.input.now c.args.closed ≡ false = cc in
    cc (all_lack_input c.args.input.now c.args.closed c.args.threads.now.waits nothing)

pub returns-else-not-may_be_read : goal.returns-else-not-may_be_read
returns-else-not-may_be_read c =
    let something : may_be_read c.args.input.now c.args.closed ≡ true = cc in
    let none : is_some (first_waiter Input c.args.threads.now) ≡ not c.is_none.result = rw c.first_waiter.ensures.first at c.is_none.ensures in
    not_not c.is_none.result ∙ (ap not (sym none) ∙ sym (nobody_reads c.args.input.now c.args.closed c.args.threads.now.waits something))
