use Rattle.std.proofs.Common.{◌≡◌, ap, ◌∙◌, arith}
use Rattle.ckrt_gdb_stub.specs.Monitor.{gone_on_text, made_between}
use Rattle.ckrt_gdb_stub.proofs.stub.Stub.go_on_by_turns.Goals as goal

pub returns-clause-does : goal.returns-clause-does
returns-clause-does c =
    let stub = c.in_ok-stub.stub in let end = c.in_ok-stub.end in
    let made : c.saturating_sub-made.result ≡ made_between c.args.self stub = omega (arith, c.saturating_sub-made.ensures, c.event_count.ensures, c.event_count-before.ensures) in
    let text = ap (λ n. gone_on_text n end stub) made ∙ ap (λ e. gone_on_text (made_between c.args.self stub) e stub) c.in_ok-stub.ensures.end in
    (gone_on_text c.saturating_sub-made.result end stub, (c.in_ok-stub.ensures.made, text), c.in_ok-push_gone_on.ensures)
