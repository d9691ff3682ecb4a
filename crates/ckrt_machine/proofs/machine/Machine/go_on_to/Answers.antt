use Rattle.std.proofs.Common.{◌-◌, subst}
use Rattle.ckrt_machine.specs.Events.{Machine}
use Rattle.ckrt_machine.specs.RunsTo.{HasMadeTo, RanTo}
use Rattle.ckrt_machine.proofs.StepsOfRunsTo.{has_made_on}
use Rattle.ckrt_machine.proofs.machine.Machine.go_on_to.Goals as goal

pub returns-clause-made : goal.returns-clause-made
returns-clause-made g c =
    let meets = g.R.StopReason.meets c.args.reason.now in
    let ran : RanTo = record {
      left = c.run_to.result.0;
      how = c.run_to.result.1;
      state = record { bytes = c.run_to.new.memory.bytes; tables = c.run_to.new.tables };
      output = c.run_to.new.output.items;
    } in
    subst (λ (m : Machine). HasMadeTo meets c.args.limit (c.args.limit - c.run_to.result.0) c.args.hart (record { state = m.state; output = m.output }) ran) c.self.view_is
    (has_made_on meets _ _ _ _ _ ran c.from.ensures c.run_to.ensures.run)
