use Rattle.std.proofs.Common.{◌++◌}
use Rattle.std.proofs.lemmas.Result.{on_ok_weaker}
use Rattle.ckrt_hunt_schedules.specs.Table.{command_line}
use Rattle.ckrt_hunt_schedules.proofs.AppendLemmas.{appends_both}
use Rattle.ckrt_hunt_looks.specs.FoundTable.{head_text}
use Rattle.ckrt_hunt_looks.proofs.table.write_row.Goals as goal

-- piece by piece
pub returns : goal.returns
returns g c =
    let has = g.W.Write.contents in
    let k = g.F.Notable.kind in
    let a = has c.args.out.now in
    let b = has c.write_head.new.out in
    let d = has c.write_line.new.out in
    let z = has c.write_command_line.new.out in
    let head = head_text k c.args.asked.now c.args.number c.args.row.now in
    let text = k.text c.args.row.now.found in
    on_ok_weaker c.write_command_line.result (λ last.
    appends_both a d z (head ++ text) (command_line c.args.asked.now c.args.row.now.first) (appends_both a b d head text c.in_ok-write_head.ensures c.in_ok-write_line.ensures) last) c.write_command_line.ensures
