use Rattle.std.proofs.Common.{ℕ, List}
use Rattle.std.proofs.lemmas.Result.{on_ok_weaker}
use Rattle.ckrt_inspect.specs.Code.{address_behind, code_line}
use Rattle.ckrt_inspect.proofs.PushLemmas.{pushed_four}
use Rattle.ckrt_inspect.proofs.code.push_code.Goals as goal

pub returns : goal.returns
returns c = on_ok_weaker c.push_line_behind-4.result (λ last.
    let line : ℕ → List ℕ = λ n. code_line c.args.memory.now.bytes (address_behind c.args.pc n) in
    pushed_four c.args.out.now.items c.push_line_behind.new.out.items c.push_line_behind-2.new.out.items c.push_line_behind-3.new.out.items c.push_line_behind-4.new.out.items (line 0) (line 4) (line 8) (line 12)
    c.in_ok-push_line_behind.ensures c.in_ok-push_line_behind-2.ensures c.in_ok-push_line_behind-3.ensures last) c.push_line_behind-4.ensures
