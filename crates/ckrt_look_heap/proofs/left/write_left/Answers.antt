use Rattle.std.proofs.Common.{◌≡◌, Bool, true, if◌then◌else◌, [], ap, subst, sym, rules}
use Rattle.std.proofs.lemmas.Result.{on_ok_weaker}
use Rattle.std.specs.Io.KnownBytes.{Appends}
use Rattle.ckrt_look_calls.specs.Replays.{replay_of}
use Rattle.ckrt_look_heap.specs.Again.{left_text}
use Rattle.ckrt_look_heap.specs.Shadow.{left_from}
use Rattle.ckrt_look_heap.specs.Texts.{blocks_text, left_lines}
use Rattle.ckrt_look_heap.proofs.left.write_left.Goals as goal

-- where the program has ended
pub returns-clause-written : goal.returns-clause-written
returns-clause-written g c =
    let has = g.W.Write.contents in let h = c.args.shadow.now.heap in let each = left_text (replay_of c.args.source.now) in
    let a = has c.args.out.now in let z = has c.write_left_of.new.out in
    let ended : h.has_ended ≡ true = search rules in
    let lines : left_lines each h ≡ blocks_text each (left_from 0 h.cells) = ap (λ (t : Bool). if t then blocks_text each (left_from 0 h.cells) else []) ended in
    on_ok_weaker c.write_left_of.result (λ all. subst (Appends a z) (sym lines) all) c.write_left_of.ensures.written
