use Rattle.std.proofs.lemmas.Result.{on_ok_weaker}
use Rattle.ckrt_hunt_schedules.specs.Table.{table_text}
use Rattle.ckrt_hunt_schedules.proofs.AppendLemmas.{appends_both}
use Rattle.ckrt_hunt_looks.specs.Hunts.{text_behind}
use Rattle.ckrt_hunt_looks.proofs.telling.write_told.Goals as goal

-- what was found behind the table
pub returns : goal.returns
returns g c =
    let has = g.W.Write.contents in
    on_ok_weaker c.write_behind.result (λ last.
    appends_both (has c.args.out.now) (has c.write_table.new.out) (has c.write_behind.new.out) (table_text c.args.asked.now c.args.told.now.done.outcomes) (text_behind c.args.asked.now c.args.told.now.found) c.in_ok-write_table.ensures last) c.write_behind.ensures
