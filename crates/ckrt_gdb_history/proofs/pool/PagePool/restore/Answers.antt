use Rattle.std.proofs.Common.{◌≡◌, ◌∙◌, ◌≤◌, ◌<◌, ◌-◌, ◌*◌, inl, inr, length, get_or, ap, sym, subst, arith}
use Rattle.std.proofs.lemmas.Bool.{cases_eq}
use Rattle.ckrt_memory.specs.Pages.{page_of, with_page}
use Rattle.ckrt_gdb_history.specs.Pool.{page_in}
use Rattle.ckrt_stored.proofs.CopyLemmas.{put_elsewhere, put_size, put_there}
use Rattle.ckrt_gdb_history.proofs.PoolLemmas.{below, gathered_is, gathered_size, named_in}
use Rattle.ckrt_gdb_history.proofs.pool.PagePool.restore.Goals as goal

pub bounds-names-page : goal.bounds-names-page
bounds-names-page c =
    let size = gathered_size c.args.self.now c.args.names.now c.requires.pool c.requires.named in
    omega (arith, size, c.requires.size, c.pages-page-end.ensures.size, c.loop-page-test.true, c.loop-page.auto.page)

pub page-requires-clause-named : goal.page-requires-clause-named
page-requires-clause-named c =
    let size = gathered_size c.args.self.now c.args.names.now c.requires.pool c.requires.named in
    named_in c.args.self.now c.args.names.now (c.loop-page.page - 1) c.requires.named
    (omega (arith, size, c.requires.size, c.pages-page-end.ensures.size, c.loop-page-test.true, c.loop-page.auto.page))

pub loop-page-preserved : goal.loop-page-preserved
loop-page-preserved c =
    let pool = c.args.self.now in let ns = c.args.names.now in
    let p = c.loop-page.page in let xs = c.loop-page.memory.bytes in let new = c.restore_page.new.memory.bytes in
    let before = c.loop-page.invariant in
    let some = c.loop-page.auto.page in
    let size = gathered_size pool ns c.requires.pool c.requires.named in
    let less : p - 1 < length ns = omega (arith, size, c.requires.size, c.pages-page-end.ensures.size, c.loop-page-test.true, some) in
    let inside : 4096 * p ≤ length xs = omega (arith, before.size, c.pages-page-end.ensures.size, c.loop-page-test.true, some) in
    let page = page_in pool (get_or ns (p - 1) 0) in
    let low : 1 ≤ p = omega (arith, some) in
    let long : length page ≡ 4096 = c.requires.pool.whole (get_or ns (p - 1) 0) (below pool (get_or ns (p - 1) 0) c.requires.pool (named_in pool ns (p - 1) c.requires.named less)) in
    let put : new ≡ with_page xs p page = c.restore_page.ensures ∙ ap (with_page xs p) c.page.ensures in
    record {
      size = ap length put ∙ put_size xs page p low inside long ∙ before.size;
      same = λ q first most. elim (cases_eq q p) [
        | inl here ↦ subst (λ k. page_of new k ≡ page_in pool (get_or ns (k - 1) 0)) (sym here) (ap (λ l. page_of l p) put ∙ put_there xs page p low inside long)
        | inr other ↦ ap (λ l. page_of l q) put ∙ put_elsewhere xs page p low inside long q first other ∙ before.same q first (omega (arith, most, other))
      ];
    }

pub returns : goal.returns
returns c =
    let pool = c.args.self.now in let ns = c.args.names.now in let before = c.loop-page.invariant in
    let size = gathered_size pool ns c.requires.pool c.requires.named in
    sym (gathered_is pool ns c.loop-page.memory.bytes (before.size ∙ c.requires.size ∙ size)
    (λ q some most. sym (before.same q some (omega (arith, most, size, c.requires.size, c.pages-page-end.ensures.size, c.loop-page-test.false)))))
