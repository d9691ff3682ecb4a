use Rattle.std.proofs.Common.{◌≡◌, sym, ◌∙◌}
use Rattle.std.specs.List.{list_all}
use Rattle.ckrt_cond.specs.WellFormed.{names_the_one_mutex}
use Rattle.ckrt_cond.proofs.Test.{tested, one_named}
use Rattle.ckrt_cond.proofs.one_mutex.are_conditions_well_formed.Goals as goal

pub returns : goal.returns
returns c =
    let each : c.each_names_the_one_mutex.result ≡ list_all (names_the_one_mutex c.args.threads.now.waits) c.args.threads.now.waits = rw (c.as_slice.ensures.value, c.waits.ensures) at c.each_names_the_one_mutex.ensures in (
      (λ t. tested c.args.threads.now (sym each ∙ t)),
      (λ h. each ∙ one_named c.args.threads.now h),
    )
