use Rattle.std.proofs.Common.{sym, ap, ◌∙◌}
use Rattle.ckrt_calls.proofs.Readers.{feed_nobody, feed_taken}
use Rattle.ckrt_calls.proofs.events.feed_readers.Goals as goal

pub loop-threads-preserved-in-Some-pop_first : goal.loop-threads-preserved-in-Some-pop_first
loop-threads-preserved-in-Some-pop_first c =
    rw (c.set_result.ensures, c.wake_first.ensures.threads, c.from.ensures, c.pop_first.ensures.rest)
    (feed_taken c.loop-threads.input c.in-Some-pop_first.byte c.in-Some.reader c.loop-threads.threads (sym c.in-Some-pop_first.is ∙ c.pop_first.ensures.byte) c.in-Some.ensures.first
    ∙ c.loop-threads.invariant)

pub returns-in_default-clause-threads : goal.returns-in_default-clause-threads
returns-in_default-clause-threads c =
    c.wake_first.ensures.threads
    ∙ sym (ap (λ f. f.threads) (sym c.loop-threads.invariant ∙ feed_nobody c.loop-threads.input c.loop-threads.threads c.in_default.ensures.first))

pub returns-in_default-clause-input : goal.returns-in_default-clause-input
returns-in_default-clause-input c =
    sym (ap (λ f. f.input) (sym c.loop-threads.invariant ∙ feed_nobody c.loop-threads.input c.loop-threads.threads c.in_default.ensures.first))
