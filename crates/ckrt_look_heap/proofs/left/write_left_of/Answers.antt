use Rattle.std.proofs.Common.{◌≡◌, ◌∙◌, List, subst}
use Rattle.std.proofs.lemmas.Result.{on_ok_weaker}
use Rattle.std.specs.Io.KnownBytes.{Appends}
use Rattle.ckrt_look_heap.specs.declared.block.Block.{Block}
use Rattle.ckrt_look_calls.specs.Replays.{replay_of}
use Rattle.ckrt_look_heap.specs.Again.{left_text}
use Rattle.ckrt_look_heap.specs.Shadow.{left_from}
use Rattle.ckrt_look_heap.specs.Texts.{blocks_text}
use Rattle.ckrt_look_heap.proofs.left.write_left_of.Goals as goal

-- just these blocks
pub returns-clause-written : goal.returns-clause-written
returns-clause-written g c =
    let has = g.W.Write.contents in
    let a = has c.args.out.now in let z = has c.write_some.new.out in
    let blocks : c.as_slice.result.now ≡ left_from 0 c.args.shadow.now.heap.cells = c.as_slice.ensures.value ∙ c.in-Ok.ensures in
    on_ok_weaker c.write_some.result (λ all. subst (λ (bs : List Block). Appends a z (blocks_text (left_text (replay_of c.args.source.now)) bs)) blocks all) c.write_some.ensures.written
