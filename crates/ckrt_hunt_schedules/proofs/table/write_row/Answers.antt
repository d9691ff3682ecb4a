use Rattle.std.proofs.Common.{◌++◌}
use Rattle.std.proofs.lemmas.Result.{on_ok_weaker}
use Rattle.ckrt_hunt_schedules.specs.Table.{command_line, outcome_line, said_line}
use Rattle.ckrt_hunt_schedules.proofs.AppendLemmas.{appends_both}
use Rattle.ckrt_hunt_schedules.proofs.table.write_row.Goals as goal

-- one line behind the other
pub returns : goal.returns
returns g c =
    let has = g.W.Write.contents in
    let a = has c.args.out.now in
    let b = has c.write_outcome_line.new.out in
    let d = has c.write_said.new.out in
    let z = has c.write_command_line.new.out in
    let first = outcome_line c.args.asked.now c.args.number c.args.row.now in
    let said = said_line c.args.row.now in
    on_ok_weaker c.write_command_line.result (λ last.
    appends_both a d z (first ++ said) (command_line c.args.asked.now c.args.row.now.first) (appends_both a b d first said c.in_ok-write_outcome_line.ensures c.in_ok-write_said.ensures) last) c.write_command_line.ensures
