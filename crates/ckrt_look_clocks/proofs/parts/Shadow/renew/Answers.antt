use Rattle.std.proofs.Common.{◌≡◌, ◌≤◌, ◌∙◌, ◌+◌, ◌/◌, ◌-◌, false, length, ap, sym, subst, arith}
use Rattle.ckrt_look_clocks.specs.Parts.{HaveSlots, Shadowed, Slots, parts_over, touched_parts}
use Rattle.ckrt_look_clocks.proofs.PartLemmas.{cells_size}
use Rattle.ckrt_look_clocks.proofs.WithinLemmas.{some_parts, words_have}
use Rattle.ckrt_look_clocks.proofs.parts.Shadow.renew.Goals as goal

pub touch_parts-requires : goal.touch_parts-requires
touch_parts-requires c =
    let r = c.self.inside in let s = c.args.self.now in let n = c.few_words-few.result in let first = c.args.block.now.first in
    let size : length s.cells ≡ r.words = sym (ap (λ (v : Shadowed). length v.cells) c.self.view_is) ∙ cells_size r.by_part.items r.cells.items r.words in
    let parts : length r.by_part.items ≡ length s.slots.by_part = ap (λ (v : Shadowed). length v.slots.by_part) c.self.view_is in
    let some : 1 ≤ n = omega (arith, c.if-few-eq0.false) in
    let count : c.parts_over.result ≡ (first + n - 1) / 1024 + 1 - first / 1024 = c.parts_over.ensures ∙ some_parts n first some in
    record {
      inside = omega (arith, size, parts, some, count, c.self.invariant.parts, c.few_words-few.ensures.few);
      fits = omega (arith, some, count, c.few_words-few.ensures.fits);
    }

pub renew_words-requires-clause-slots : goal.renew_words-requires-clause-slots
renew_words-requires-clause-slots c =
    let r = c.self.inside in let s = c.args.self.now in let n = c.few_words-few.result in let first = c.args.block.now.first in
    let size : length s.cells ≡ r.words = sym (ap (λ (v : Shadowed). length v.cells) c.self.view_is) ∙ cells_size r.by_part.items r.cells.items r.words in
    let parts : length r.by_part.items ≡ length s.slots.by_part = ap (λ (v : Shadowed). length v.slots.by_part) c.self.view_is in
    let some : 1 ≤ n = omega (arith, c.if-few-eq0.false) in
    let inside : first / 1024 + parts_over n first ≤ length s.slots.by_part =
    omega (arith, size, parts, some, some_parts n first some, c.self.invariant.parts, c.few_words-few.ensures.few) in
    let slots : c.touch_parts.new.self.slots ≡ touched_parts (parts_over n first) (first / 1024) s.slots =
    c.touch_parts.ensures.slots ∙ ap (λ k. touched_parts k (first / 1024) s.slots) c.parts_over.ensures in
    let left : (touched_parts (parts_over n first) (first / 1024) s.slots).is_full ≡ false =
    sym (ap (λ (t : Slots). t.is_full) slots) ∙ sym (ap (λ (v : Shadowed). v.slots.is_full) c.self-2.view_is) ∙ c.if-not-self.true in
    subst (HaveSlots n first) (sym slots) (words_have n first s.slots some inside left)
