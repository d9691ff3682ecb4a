use Rattle.std.proofs.Common.{◌≡◌, ◌∙◌, ◌≤◌, ◌<◌, ◌+◌, ◌-◌, ◌*◌, ◌⊎◌, inl, inr, ℕ, true, false, length, ap, sym, refl, subst, arith}
use Rattle.std.proofs.lemmas.Bool.{cases_eq, cases_lt}
use Rattle.ckrt_memory.specs.Marks.{COPY, is_dirty}
use Rattle.ckrt_memory.specs.Pages.{page_of, with_page}
use Rattle.ckrt_stored.proofs.CopyLemmas.{all_pages, page_size, put_elsewhere, put_size, put_there}
use Rattle.ckrt_stored.proofs.memory.restore_memory.Goals as goal

pub loop-page-init : goal.loop-page-init
loop-page-init c =
    let next = c.next_dirty-page.ensures in
    record {
      started = next.range.0;
      inside = next.range.1;
      dirty = next.dirty;
      size = c.requires.size;
      same = λ p some below which. c.requires.copy p some (omega (arith, c.pages-pages.ensures.size, c.requires.size, below)) (elim which [ inl before ↦ next.clean p some before | inr clean ↦ clean ]);
      room = refl;
    }

pub loop-page-preserved : goal.loop-page-preserved
loop-page-preserved c =
    let p = c.loop-page.page in let xs = c.loop-page.memory.bytes in let ys = c.args.kept.now.bytes in
    let before = c.loop-page.invariant in
    let size = c.pages-pages.ensures.size in
    let new = c.load_page.new.self in
    let next = c.next_dirty-page-in-loop-page.ensures in
    let inside : 4096 * p ≤ length xs = omega (arith, size, before.size, c.loop-page-test.true) in
    let put : new.bytes ≡ with_page xs p (page_of ys p) = c.load_page.ensures.bytes ∙ ap (with_page xs p) c.page.ensures in
    let long : length (page_of ys p) ≡ 4096 = page_size ys p before.started (omega (arith, inside, before.size)) in
    record {
      started = omega (arith, next.range);
      inside = next.range.1;
      dirty = next.dirty;
      size = ap length put ∙ put_size xs (page_of ys p) p before.started inside long ∙ before.size;
      same = λ q some below which. elim (cases_eq q p) [
        | inl here ↦ subst (λ k. page_of new.bytes k ≡ page_of ys k) (sym here) (ap (λ l. page_of l p) put ∙ put_there xs (page_of ys p) p before.started inside long)
        | inr other ↦
            ap (λ l. page_of l q) put ∙ put_elsewhere xs (page_of ys p) p before.started inside long q some other
            ∙ before.same q some below (elim (cases_lt q p) [
              | inl lt ↦ inl lt
              | inr ge ↦ inr (sym (c.load_page.ensures.marked.others COPY q other) ∙ elim which [
                | inl earlier ↦ next.clean q (omega (arith, ge, other)) earlier
                | inr clean ↦ clean
              ])
            ])
      ];
      room = c.load_page.ensures.room ∙ before.room;
    }

-- the memory is as long as before
pub next_dirty-page-requires-in-loop-page-clause-end : goal.next_dirty-page-requires-in-loop-page-clause-end
next_dirty-page-requires-in-loop-page-clause-end c =
    let p = c.loop-page.page in let xs = c.loop-page.memory.bytes in let ys = c.args.kept.now.bytes in
    let before = c.loop-page.invariant in
    let size = c.pages-pages.ensures.size in
    let inside : 4096 * p ≤ length xs = omega (arith, size, before.size, c.loop-page-test.true) in
    let long = page_size ys p before.started (omega (arith, inside, before.size)) in
    let put = ap length (c.load_page.ensures.bytes ∙ ap (with_page xs p) c.page.ensures) ∙ put_size xs (page_of ys p) p before.started inside long in
    omega (arith, put, before.size, size)

pub loop-page-smaller : goal.loop-page-smaller
loop-page-smaller c = let next = c.next_dirty-page-in-loop-page.ensures.range in omega (arith, next, c.loop-page-test.true)

pub returns-clause-bytes : goal.returns-clause-bytes
returns-clause-bytes c =
    let before = c.loop-page.invariant in let size = c.pages-pages.ensures.size in
    c.clean.ensures.bytes
    ∙ all_pages c.loop-page.memory.bytes c.args.kept.now.bytes (c.pages-pages.result - 1) before.size (omega (arith, size))
    (λ p some below. before.same p some (omega (arith, some, below)) (inl (omega (arith, some, below, c.loop-page-test.false))))
