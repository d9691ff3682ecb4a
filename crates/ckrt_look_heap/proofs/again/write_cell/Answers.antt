use Rattle.std.proofs.Common.{sym, subst}
use Rattle.std.specs.Result.{OnOk}
use Rattle.std.specs.Io.KnownBytes.{Appends}
use Rattle.ckrt_look_heap.specs.declared.block.Cell.{Cell}
use Rattle.ckrt_look_calls.specs.Replays.{replay_of}
use Rattle.ckrt_look_heap.specs.Again.{cell_text}
use Rattle.ckrt_look_heap.proofs.again.write_cell.Goals as goal

-- what was told of the word is known there
pub returns-in-GivenBack-clause-written : goal.returns-in-GivenBack-clause-written
returns-in-GivenBack-clause-written g c =
    let has = g.W.Write.contents in
    subst (λ (k : Cell). OnOk c.write_given_back.result (Appends (has c.args.out.now) (has c.write_given_back.new.out) (cell_text k (replay_of c.args.source.now)))) (sym c.in-GivenBack.is) c.write_given_back.ensures.written

pub returns-in-Ended-clause-written : goal.returns-in-Ended-clause-written
returns-in-Ended-clause-written g c =
    let has = g.W.Write.contents in
    subst (λ (k : Cell). OnOk c.write_ended.result (Appends (has c.args.out.now) (has c.write_ended.new.out) (cell_text k (replay_of c.args.source.now)))) (sym c.in-Ended.is) c.write_ended.ensures.written
