use Rattle.std.proofs.Common.{◌≡◌, ◌≢◌, ◌∙◌, ◌<◌, ◌-◌, inl, inr, length, get_or, slice_set, ap, sym, subst, arith}
use Rattle.std.proofs.lemmas.Bool.{cases_eq}
use Rattle.std.proofs.lemmas.List.{get_or-set_other, get_or-set_same, length-set}
use Rattle.ckrt_memory.specs.Pages.{page_of}
use Rattle.ckrt_gdb_history.specs.Pool.{page_in}
use Rattle.ckrt_gdb_history.proofs.PoolLemmas.{gathered_is, keeps_more, named_in, named_kept, named_set}
use Rattle.ckrt_gdb_history.proofs.pool.PagePool.gather.Goals as goal

pub slot_for-requires-clause-named : goal.slot_for-requires-clause-named
slot_for-requires-clause-named c =
    let before = c.loop-page.invariant in let count = before.count in
    named_in c.loop-page.self c.loop-page.names (c.loop-page.page - 1) before.named
    (omega (arith, count, c.requires.size, c.pages-page-end.ensures.size, c.loop-page-test.true, c.loop-page.auto.page))

pub returns-in_default-clause-named : goal.returns-in_default-clause-named
returns-in_default-clause-named c = named_kept c.loop-page.self c.slot_for.new.self c.loop-page.names c.slot_for.ensures.keeps c.loop-page.invariant.named

pub loop-page-preserved : goal.loop-page-preserved
loop-page-preserved c =
    let old = c.loop-page.self in let new = c.slot_for.new.self in let ns = c.loop-page.names in let slot = c.in-Some.slot in
    let p = c.loop-page.page in let before = c.loop-page.invariant in let count = before.count in
    let keeps = c.slot_for.ensures.keeps in let stands = c.in-Some.ensures.stands in
    let some = c.loop-page.auto.page in
    let less : p - 1 < length ns = omega (arith, count, c.requires.size, c.pages-page-end.ensures.size, c.loop-page-test.true, some) in
    record {
      pool = c.slot_for.ensures.pool;
      keeps = keeps_more c.args.self.now old new before.keeps keeps;
      named = named_set new ns (p - 1) slot (named_kept old new ns keeps before.named) stands.named;
      count = length-set ns (p - 1) slot ∙ count;
      same = λ q first most. elim (cases_eq q p) [
        | inl here ↦
            subst (λ k. page_in new (get_or (slice_set ns (p - 1) slot) (k - 1) 0) ≡ page_of c.args.memory.now.bytes k) (sym here)
            (ap (page_in new) (get_or-set_same ns (p - 1) slot 0 less) ∙ stands.page ∙ c.page.ensures)
        | inr other ↦
            (let apart : q - 1 ≢ p - 1 = λ same. other (omega (arith, same, first, some)) in
            let earlier : q < p = omega (arith, most, other) in
            ap (page_in new) (get_or-set_other ns (p - 1) (q - 1) slot 0 apart)
            ∙ keeps.page (get_or ns (q - 1) 0) (named_in old ns (q - 1) before.named (omega (arith, less, earlier, first)))
            ∙ before.same q first earlier)
      ];
    }

pub returns-clause-bytes : goal.returns-clause-bytes
returns-clause-bytes c = λ _.
    let before = c.loop-page.invariant in let count = before.count in
    gathered_is c.loop-page.self c.loop-page.names c.args.memory.now.bytes (omega (arith, count, c.requires.size))
    (λ q some most. before.same q some (omega (arith, most, count, c.requires.size, c.pages-page-end.ensures.size, c.loop-page-test.false)))
