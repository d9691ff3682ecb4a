use Rattle.std.proofs.Common.{◌≡◌, ◌<◌, None, get_or, length, sym, ap, subst, ◌∙◌, arith}
use Rattle.ckrt_tables.specs.DecodingThreads.{HartsLeadTo}
use Rattle.ckrt_tables.proofs.ThreadsRead.{on_hart, placed_all}
use Rattle.ckrt_tables.proofs.reading_threads.place_all.Goals as goal

pub loop-hart-preserved : goal.loop-hart-preserved
loop-hart-preserved c = λ end leads same.
    let h = c.loop-hart.invariant end leads same in
    let size = h.well_formed.harts in
    let lt : c.loop-hart.hart < 8 = omega (arith, c.loop-hart-test.true, ap length same, size) in
    c.place_on.ensures end lt (on_hart end c.loop-hart.hart h.well_formed lt ∙ ap (λ hs. get_or hs c.loop-hart.hart None) (sym same)) h

pub returns : goal.returns
returns c = λ end leads same.
    let h = c.loop-hart.invariant end leads same in
    let size = h.well_formed.harts in
    let done : c.loop-hart.hart ≡ 8 = omega (arith, c.loop-hart-test.false, c.loop-hart.auto.hart-end, ap length same, size) in
    placed_all c.loop-hart.threads end c.known.ensures (subst (λ k. HartsLeadTo k c.loop-hart.threads end) done h)
