use Rattle.std.proofs.Common.{◌≡◌, sym, ◌∙◌}
use Rattle.std.specs.List.{list_all}
use Rattle.ckrt_mutex.specs.WellFormed.{may_wait_at, meets}
use Rattle.ckrt_mutex.proofs.Test.{tested, rules_met}
use Rattle.ckrt_mutex.proofs.mutexes.Mutexes.is_well_formed_with.Goals as goal

pub returns-then-are_few_in_use : goal.returns-then-are_few_in_use
returns-then-are_few_in_use c =
    let each : c.may_all_wait.result ≡ list_all (meets may_wait_at c.args.self.now) c.args.threads.now.waits = rw (c.as_slice.ensures.value, c.waits.ensures) at c.may_all_wait.ensures in (
      (λ t. tested c.args.threads.now c.args.self.now c.known.ensures.table (sym c.are_few_in_use.ensures ∙ c.if-are_few_in_use.true) (sym each ∙ t)),
      (λ h. each ∙ rules_met c.args.threads.now c.args.self.now h),
    )
