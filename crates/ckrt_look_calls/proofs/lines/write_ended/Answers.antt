use Rattle.std.proofs.Common.{[], ◌∷◌, ◌++◌, codes, rules}
use Rattle.std.proofs.lemmas.Result.{on_ok_weaker}
use Rattle.std.specs.Io.KnownBytes.{Appends}
use Rattle.ckrt_inspect.specs.Texts.{reason_text}
use Rattle.ckrt_look_calls.specs.Lines.{answers_after, came_text, thread_text}
use Rattle.ckrt_look_calls.proofs.AppendLemmas.{appends_both}
use Rattle.ckrt_look_calls.proofs.lines.write_ended.Goals as goal

-- piece by piece
pub returns : goal.returns
returns g c =
    let has = g.W.Write.contents in
    let a = has c.args.out.now in
    let b = has c.write_thread.new.out in
    let d = has c.write_reason.new.out in
    let e = has c.write_all.new.self in
    let f = has c.write_came.new.out in
    let z = has c.write_all-2.new.self in
    let w = c.args.waiting.now in
    let s = c.args.after.now in
    let headed : Appends a b (thread_text c.args.place w.wait.thread) = search rules in
    let told : Appends b d (reason_text w.wait.reason) = search rules in
    let over : Appends d e (codes " is over") = search rules in
    let came : Appends e f (came_text w.wait.thread w.pc (answers_after w.wait.reason) s) = search rules in
    on_ok_weaker c.write_all-2.result (λ last.
    appends_both a f z (thread_text c.args.place w.wait.thread ++ reason_text w.wait.reason ++ codes " is over" ++ came_text w.wait.thread w.pc (answers_after w.wait.reason) s) (10 ∷ [])
    (appends_both a e f (thread_text c.args.place w.wait.thread ++ reason_text w.wait.reason ++ codes " is over") (came_text w.wait.thread w.pc (answers_after w.wait.reason) s)
    (appends_both a d e (thread_text c.args.place w.wait.thread ++ reason_text w.wait.reason) (codes " is over")
    (appends_both a b d (thread_text c.args.place w.wait.thread) (reason_text w.wait.reason) headed told) over) came) last) c.write_all-2.ensures.bytes
