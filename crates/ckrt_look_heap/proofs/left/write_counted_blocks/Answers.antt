use Rattle.std.proofs.Common.{◌++◌, length, take}
use Rattle.std.proofs.lemmas.Result.{on_ok_weaker}
use Rattle.std.specs.List.{flat_map}
use Rattle.ckrt_look_calls.proofs.AppendLemmas.{appends_both}
use Rattle.ckrt_look_calls.specs.Replays.{replay_of}
use Rattle.ckrt_look_heap.specs.Again.{left_text}
use Rattle.ckrt_look_heap.specs.Texts.{more_text, sum_text}
use Rattle.ckrt_look_heap.proofs.left.write_counted_blocks.Goals as goal

-- the sum, and what is shown
pub returns-clause-written : goal.returns-clause-written
returns-clause-written g c =
    let has = g.W.Write.contents in let bs = c.args.blocks.now in
    let a = has c.args.out.now in let b = has c.write_sum.new.out in let z = has c.write_shown.new.out in
    on_ok_weaker c.write_shown.result (λ last. appends_both a b z (sum_text bs) (flat_map (left_text (replay_of c.args.source.now)) (take 16 bs) ++ more_text (length bs)) c.in-Ok.ensures last) c.write_shown.ensures.written
