use Rattle.std.proofs.Common.{◌≡◌, ◌∙◌, ◌+◌, ◌-◌, ◌*◌, ◌++◌, length, take, drop, not, ap, sym, subst, arith, take-add, Bool, true, false, refl}
use Rattle.std.proofs.lemmas.Bool.Decides.{Decides-eqb}
use Rattle.std.proofs.lemmas.Slice.Eq.{slice_eq-Decides}
use Rattle.ckrt_memory.specs.Pages.{page_of}
use Rattle.ckrt_look_recording.proofs.same.are_same_memories.Goals as goal

no_other : (b : Bool) → false ≡ not b → b ≡ true
no_other true e = refl
no_other false e = absurd (cc)

pub loop-page-preserved : goal.loop-page-preserved
loop-page-preserved c =
    let p = c.loop-page.page in let xs = c.args.one.now.bytes in let ys = c.args.other.now.bytes in
    let before = c.loop-page.invariant in
    let a = 4096 * (p - 1) in
    let size : length xs ≡ length ys = before.size in
    let next : 4096 * (p + 1 - 1) ≡ a + 4096 = omega (arith, c.loop-page.auto.page) in
    let tells = slice_eq-Decides Decides-eqb c.page.result.now c.page-in-loop-page.result.now _ refl in
    let page : page_of xs p ≡ page_of ys p = sym c.page.ensures ∙ tells.0 (no_other _ (sym c.if-ne.false ∙ c.ne.ensures)) ∙ c.page-in-loop-page.ensures in
    record {
      size = before.size;
      same = subst (λ n. take n xs ≡ take n ys) (sym next) (take-add a 4096 xs ∙ ap (λ l. l ++ take 4096 (drop a xs)) before.same ∙ ap (λ l. take a ys ++ l) page ∙ sym (take-add a 4096 ys));
    }
