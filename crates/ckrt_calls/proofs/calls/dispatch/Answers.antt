use Rattle.std.proofs.Common.{ap, ◌∙◌}
use Rattle.ckrt_calls.specs.Table.{After}
use Rattle.ckrt_calls.proofs.Dispatch.{called_as}
use Rattle.ckrt_calls.proofs.calls.dispatch.Goals as goal

pub returns-in-Some-from_number-clause-result : goal.returns-in-Some-from_number-clause-result
returns-in-Some-from_number-clause-result c =
    c.act_or_perform.ensures.result
    ∙ ap (λ (x : After). x.result) (called_as c.args.thread c.args.tables.now c.regs.result c.in-Some.regs c.get.result c.from_number.result c.in-Some-from_number.call c.regs.ensures.regs c.in-Some.is c.get.ensures c.from_number.ensures c.in-Some-from_number.is)

pub returns-in-Some-from_number-clause-put : goal.returns-in-Some-from_number-clause-put
returns-in-Some-from_number-clause-put c =
    c.act_or_perform.ensures.put
    ∙ ap (λ (x : After). x.put) (called_as c.args.thread c.args.tables.now c.regs.result c.in-Some.regs c.get.result c.from_number.result c.in-Some-from_number.call c.regs.ensures.regs c.in-Some.is c.get.ensures c.from_number.ensures c.in-Some-from_number.is)

pub returns-in-Some-from_number-clause-tables : goal.returns-in-Some-from_number-clause-tables
returns-in-Some-from_number-clause-tables c =
    c.act_or_perform.ensures.tables
    ∙ ap (λ (x : After). x.tables) (called_as c.args.thread c.args.tables.now c.regs.result c.in-Some.regs c.get.result c.from_number.result c.in-Some-from_number.call c.regs.ensures.regs c.in-Some.is c.get.ensures c.from_number.ensures c.in-Some-from_number.is)
