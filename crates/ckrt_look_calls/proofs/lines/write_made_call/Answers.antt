use Rattle.std.proofs.Common.{◌+◌, ◌%◌, ◌^◌, [], ◌∷◌, ◌++◌, rules}
use Rattle.std.proofs.lemmas.Result.{on_ok_weaker}
use Rattle.std.specs.Io.KnownBytes.{Appends}
use Rattle.ckrt_registers.specs.Registers.{get}
use Rattle.ckrt_calls.specs.Table.{call_of}
use Rattle.ckrt_look_calls.specs.Calls.{answers_of, call_text}
use Rattle.ckrt_look_calls.specs.Lines.{came_text, thread_text}
use Rattle.ckrt_look_calls.proofs.AppendLemmas.{appends_both}
use Rattle.ckrt_look_calls.proofs.lines.write_made_call.Goals as goal

-- piece by piece
pub returns : goal.returns
returns g c =
    let has = g.W.Write.contents in
    let a = has c.args.out.now in
    let b = has c.write_thread.new.out in
    let d = has c.write_call.new.out in
    let e = has c.write_came.new.out in
    let z = has c.write_all.new.self in
    let t = c.args.caller.now.thread in
    let r = c.args.caller.now.regs in
    let s = c.args.after.now in
    let called : Appends b d (call_text r) = search rules in
    let came : Appends d e (came_text t ((r.pc + 4) % 2 ^ 32) (answers_of (call_of (get r 17))) s) = search rules in
    on_ok_weaker c.write_all.result (λ last.
    appends_both a e z (thread_text c.args.place t ++ call_text r ++ came_text t ((r.pc + 4) % 2 ^ 32) (answers_of (call_of (get r 17))) s) (10 ∷ [])
    (appends_both a d e (thread_text c.args.place t ++ call_text r) (came_text t ((r.pc + 4) % 2 ^ 32) (answers_of (call_of (get r 17))) s)
    (appends_both a b d (thread_text c.args.place t) (call_text r) c.in_ok-write_thread.ensures called) came) last) c.write_all.ensures.bytes
