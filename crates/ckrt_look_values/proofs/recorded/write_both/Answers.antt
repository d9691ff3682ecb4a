use Rattle.std.proofs.lemmas.Result.{on_ok_weaker}
use Rattle.ckrt_look_calls.proofs.AppendLemmas.{appends_both}
use Rattle.ckrt_look_calls.specs.Replays.{replay_of}
use Rattle.ckrt_look_heap.specs.Recorded.{text_by}
use Rattle.ckrt_look_values.specs.Recorded.{found_text}
use Rattle.ckrt_look_values.proofs.recorded.write_both.Goals as goal

pub returns-clause-written : goal.returns-clause-written
returns-clause-written g c =
    let r = replay_of c.args.source.now in let has = g.W.Write.contents in
    on_ok_weaker c.write_found.result (λ written.
    appends_both (has c.args.out.now) (has c.write_errors.new.out) (has c.write_found.new.out) (text_by r r.count c.args.checking.now.heap.heap) (found_text r c.args.checking.now.values) c.in_ok-write_errors.ensures.written written) c.write_found.ensures.written
