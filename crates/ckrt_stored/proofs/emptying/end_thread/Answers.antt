use Rattle.std.proofs.Common.{◌≡◌, ◌<◌, length, is_some, true, false, ap, ◌∙◌, arith}
use Rattle.ckrt_thread.specs.State.{thread_of, regs_of}
use Rattle.ckrt_thread.specs.Rows.{detach_row}
use Rattle.ckrt_stored.proofs.EmptyingLemmas.{lost, lost_alive, is_dead}
use Rattle.ckrt_stored.proofs.emptying.end_thread.Goals as goal

pub returns-then-is_none : goal.returns-then-is_none
returns-then-is_none c =
    let s = c.args.threads.now in
    let dead : is_some (regs_of (thread_of s c.args.id)) ≡ false = is_dead (thread_of s c.args.id) c.regs.result c.is_none.result c.regs.ensures.regs c.is_none.ensures c.if-is_none.true in
    lost c.args.id s c.detach.new.self c.requires.waits dead (c.detach.ensures.threads ∙ ap (λ i. (detach_row i s).threads) c.from.ensures)

pub returns : goal.returns
returns c =
    let s = c.args.threads.now in
    let within : c.args.id < length s.threads = (let size = c.known.ensures.size in let most = c.requires.number.1 in omega (arith, size, most)) in
    lost_alive c.args.id s c.detach-2.new.self within c.requires.waits
    (c.detach-2.ensures.threads ∙ ap (λ i. (detach_row i c.finish.new.self).threads) c.from-2.ensures ∙ ap (λ z. (detach_row c.args.id z).threads) c.finish.ensures)
