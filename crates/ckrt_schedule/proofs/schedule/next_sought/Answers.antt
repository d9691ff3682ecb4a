use Rattle.std.proofs.Common.{◌<◌, ◌∙◌, sym, ap, arith}
use Rattle.ckrt_calls.specs.declared.table.Tables.{Tables}
use Rattle.ckrt_schedule.proofs.SearchLemmas.{found, passed}
use Rattle.ckrt_schedule.proofs.schedule.next_sought.Goals as goal

pub returns-then-is_sought-clause-found : goal.returns-then-is_sought-clause-found
returns-then-is_sought-clause-found c =
    let count = c.hart_count-count.ensures ∙ ap (λ (t : Tables). t.threads.hart_count) c.tables.ensures.tables in
    let l : c.loop-hart.hart < c.args.machine.now.state.tables.threads.hart_count = omega (arith, count, c.loop-hart-test.true) in
    sym (found c.args.sought c.loop-hart.hart c.args.machine.now.state.tables l (sym c.is_sought.ensures ∙ c.if-is_sought.true)) ∙ c.loop-hart.invariant

pub loop-hart-preserved : goal.loop-hart-preserved
loop-hart-preserved c =
    let count = c.hart_count-count.ensures ∙ ap (λ (t : Tables). t.threads.hart_count) c.tables.ensures.tables in
    let l : c.loop-hart.hart < c.args.machine.now.state.tables.threads.hart_count = omega (arith, count, c.loop-hart-test.true) in
    sym (passed c.args.sought c.loop-hart.hart c.args.machine.now.state.tables l (sym c.is_sought.ensures ∙ c.if-is_sought.false)) ∙ c.loop-hart.invariant
